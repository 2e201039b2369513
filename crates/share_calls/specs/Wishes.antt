-- When a ShareFetch waits before its first visit, and for what (KIP-932, ShareFetchRequest.json: MaxWaitMs and MinBytes; that one with
-- acknowledgements doesn't wait, and the longest wait, are this project's own).
-- For example a fetch of epoch 0 with MaxWaitMs 70000, MinBytes 1 and MaxRecords 500 on the shards 2 and 0, which forgets the shard 0, waits
-- at 2 for 60000 milliseconds (layer_rows, `a fetch that waits, up to its first answer` and those behind it).
use Rattle.std.specs.Prelude.{◌≡◌, ℕ, pos, negsuc, nat_abs, int_lt, min, Bool, true, false, not, ◌&&◌, if◌then◌else◌}
use Rattle.std.specs.Prelude.{List, [], map, filter, find, Option, Some, None}
use Rattle.std.specs.Option.{option_map}
use Rattle.topic_conf.specs.declared.topic.Topic.{Topic}
use Rattle.msgs_share.specs.declared.share_fetch_request.ShareFetchRequest.{ShareFetchRequest}
use Rattle.share_session.specs.declared.step.Purpose.{Purpose}
use Rattle.share_session.specs.declared.step.Purpose.TheVariants.{Nothing, Release, Fetch}
use Rattle.share_session.specs.declared.step.PlanStep.{PlanStep}
use Rattle.share_session.specs.declared.fault.SessionFault.{SessionFault}
use Rattle.share_session.specs.Plans.{shard_of, steps_of, fetch_plan, fetch_refusal}
use Rattle.share_session.specs.Requests.{has_batches}
use Rattle.share_session.specs.SessionParts.{SessionParts}
use Rattle.share_calls.specs.declared.wish.WaitWish.{WaitWish}

-- a wait ends after a minute
abbrev pub longest_wait : ℕ
longest_wait = 60000

abbrev pub is_fetch : Purpose → Bool
is_fetch Nothing = false
is_fetch Release = false
is_fetch Fetch = true

abbrev pub acquires : PlanStep → Bool
acquires step = is_fetch step.purpose

-- it acknowledges nothing, on a hosted partition or another, and lets records be waited for and given
abbrev pub may_wait : ShareFetchRequest → Bool
may_wait r = not (has_batches r.topics) && (int_lt (pos 0) r.max_wait_ms && (int_lt (pos 0) r.min_bytes && int_lt (pos 0) r.max_records))

-- the wish to wait at the shards of these visits, of which this is the first
abbrev pub wish_at : ShareFetchRequest → List PlanStep → PlanStep → WaitWish
wish_at r steps first = record { group = first.group; shards = map shard_of steps; wait_ms = min (nat_abs r.max_wait_ms) longest_wait }

-- where it may wait, and a visit acquires, it waits at those that do
abbrev pub wish_of : ShareFetchRequest → List PlanStep → Option WaitWish
wish_of r steps =
    if may_wait r then option_map (wish_at r (filter acquires steps)) (find acquires steps) else None

-- what a request waits for, by the sessions of its connection; one that is refused doesn't
abbrev pub fetch_wish_by : List SessionParts → List Topic → ShareFetchRequest → Option SessionFault → Option WaitWish
fetch_wish_by sessions topics r None = wish_of r (fetch_plan sessions topics r).told
fetch_wish_by sessions topics r (Some fault) = None

abbrev pub fetch_wish : List SessionParts → List Topic → ShareFetchRequest → Option WaitWish
fetch_wish sessions topics r = fetch_wish_by sessions topics r (fetch_refusal sessions r)

-- All visits that acquire are told by the reply. A fetch that closes its session has none, so it never waits.
pub record AcquiresInWhatIsTold : Type 0 where
  pub all : (sessions : List SessionParts) (topics : List Topic) (r : ShareFetchRequest) →
      filter acquires (steps_of (fetch_plan sessions topics r)) ≡ filter acquires (fetch_plan sessions topics r).told
  pub closes : (sessions : List SessionParts) (topics : List Topic) (r : ShareFetchRequest) → r.share_session_epoch ≡ negsuc 0 →
      filter acquires (fetch_plan sessions topics r).told ≡ []
