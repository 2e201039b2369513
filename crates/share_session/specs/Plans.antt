-- The visits that a share request asks for, and what becomes of its session (KIP-932, share sessions; the round of the visits is
-- this project's own).
-- For example a fetch of epoch 4 in a session on the shards 2, 0 and 1 visits 0, 1 and 2, since 4 mod 3 is 1.
use Rattle.std.specs.Prelude.{ℕ, ℤ, pos, nat_abs, ◌%◌, not, List, [], ◌++◌, map, filter, length, take, drop, true, false, Option, if◌then◌else◌}
use Rattle.std.specs.List.{flat_map}
use Rattle.std.specs.Option.{option_map_or}
use Rattle.share_model.specs.declared.ack.AckBatch.{AckBatch}
use Rattle.topic_conf.specs.declared.topic.Topic.{Topic}
use Rattle.msgs_share.specs.declared.share_fetch_request.ShareFetchRequest.{ShareFetchRequest}
use Rattle.msgs_share.specs.declared.share_ack_request.ShareAckRequest.{ShareAckRequest}
use Rattle.share_session.specs.declared.step.Caller.{Caller}
use Rattle.share_session.specs.declared.step.Purpose.{Purpose}
use Rattle.share_session.specs.declared.step.Purpose.TheVariants.{Nothing, Release, Fetch}
use Rattle.share_session.specs.declared.step.PlanStep.{PlanStep}
use Rattle.share_session.specs.declared.change.SessionChange.TheVariants.{Leave, Put, Open}
use Rattle.share_session.specs.declared.planned.Planned.{Planned}
use Rattle.share_session.specs.declared.session.Session.{Session}
use Rattle.share_session.specs.declared.fault.SessionFault.{SessionFault}
use Rattle.share_session.specs.Sessions.{next_epoch, session_of, applied}
use Rattle.share_session.specs.Requests.{text_of, wanted_in, acks_for, has, joined, forgotten_in}
use Rattle.share_session.specs.Refusals.{opens, closes, refusal}
use Rattle.share_session.specs.PlanParts.{PlanParts}

abbrev pub visit : Caller → Purpose → List AckBatch → ℕ → PlanStep
visit caller purpose acks shard = record { shard = shard; group = caller.group; member = caller.member; purpose = purpose; acks = acks }

abbrev pub shard_of : PlanStep → ℕ
shard_of step = step.shard

-- the member's records of the partition are released
abbrev pub release : Caller → ℕ → PlanStep
release caller shard = visit caller Release [] shard

abbrev pub shards_of : List (ℕ × List AckBatch) → List ℕ
shards_of wanted = map (λ w. w.0) wanted

-- the list of the session, with the partitions of the request
abbrev pub visit_list : List ℕ → List (ℕ × List AckBatch) → List ℕ
visit_list list wanted = joined list (shards_of wanted)

-- from the place that the epoch tells on, and round to the places before it
abbrev pub turned : {X : Type 0} → ℤ → List X → List X
turned epoch list = drop (nat_abs epoch % length list) list ++ take (nat_abs epoch % length list) list

-- a fetch at a partition; where it is forgotten, nothing is fetched
abbrev pub fetch_visit : Caller → List (ℕ × List AckBatch) → List ℕ → ℕ → PlanStep
fetch_visit caller wanted forgotten shard = visit caller (if has forgotten shard then Nothing else Fetch) (acks_for wanted shard) shard

abbrev pub fetch_visits : Caller → ℤ → List (ℕ × List AckBatch) → List ℕ → List ℕ → List PlanStep
fetch_visits caller epoch wanted forgotten list = turned epoch (map (fetch_visit caller wanted forgotten) list)

-- the partitions of a session, none where it isn't there
abbrev pub partitions_of : Option Session → List ℕ
partitions_of session = option_map_or (λ s. s.partitions) session []

abbrev pub session_after : Caller → ℤ → List ℕ → Session
session_after caller epoch partitions = record { group = caller.group; member = caller.member; epoch = next_epoch epoch; partitions = partitions }

abbrev pub without_shards : List ℕ → List ℕ → List ℕ
without_shards others list = filter (λ shard. not (has others shard)) list

-- epoch 0 of a fetch: the list that was there is released, and the session starts anew
abbrev pub opening : Caller → Option Session → List (ℕ × List AckBatch) → List ℕ → PlanParts
opening caller session wanted forgotten = record {
  released = map (release caller) (partitions_of session);
  told = fetch_visits caller (pos 0) wanted forgotten (visit_list [] wanted);
  closed = [];
  change = Open (session_after caller (pos 0) (without_shards forgotten (visit_list [] wanted)));
}

-- a fetch of an epoch above 0
abbrev pub fetching : Caller → Option Session → ℤ → List (ℕ × List AckBatch) → List ℕ → PlanParts
fetching caller session epoch wanted forgotten = record {
  released = [];
  told = fetch_visits caller epoch wanted forgotten (visit_list (partitions_of session) wanted);
  closed = [];
  change = Put (session_after caller epoch (without_shards forgotten (visit_list (partitions_of session) wanted)));
}

-- an acknowledgement of an epoch above 0
abbrev pub acknowledging : Caller → Option Session → ℤ → List (ℕ × List AckBatch) → PlanParts
acknowledging caller session epoch wanted = record {
  released = [];
  told = map (λ w. visit caller Nothing w.1 w.0) wanted;
  closed = [];
  change = Put (session_after caller epoch (partitions_of session));
}

-- epoch -1 of either request
abbrev pub closing : Caller → Option Session → List (ℕ × List AckBatch) → PlanParts
closing caller session wanted = record {
  released = [];
  told = map (λ w. visit caller Release w.1 w.0) wanted;
  closed = map (release caller) (without_shards (shards_of wanted) (partitions_of session));
  change = Leave caller.group caller.member;
}

-- a fetch, by its epoch
abbrev pub fetch_by_epoch : Caller → Option Session → ℤ → List (ℕ × List AckBatch) → List ℕ → PlanParts
fetch_by_epoch caller session epoch wanted forgotten =
    if closes epoch then closing caller session wanted
    else if opens epoch then opening caller session wanted forgotten
    else fetching caller session epoch wanted forgotten

-- an acknowledgement, by its epoch
abbrev pub ack_by_epoch : Caller → Option Session → ℤ → List (ℕ × List AckBatch) → PlanParts
ack_by_epoch caller session epoch wanted =
    if closes epoch then closing caller session wanted else acknowledging caller session epoch wanted

abbrev pub caller_of : Option (List ℕ) → Option (List ℕ) → Caller
caller_of group member = record { group = text_of group; member = text_of member }

-- what a ShareFetch asks for that isn't refused
abbrev pub fetch_plan : List Session → List Topic → ShareFetchRequest → PlanParts
fetch_plan sessions topics r =
    fetch_by_epoch (caller_of r.group_id r.member_id) (session_of (text_of r.group_id) (text_of r.member_id) sessions) r.share_session_epoch
    (wanted_in topics r.topics) (forgotten_in topics r.forgotten_topics_data)

-- what a ShareAcknowledge asks for that isn't refused
abbrev pub ack_plan : List Session → List Topic → ShareAckRequest → PlanParts
ack_plan sessions topics r =
    ack_by_epoch (caller_of r.group_id r.member_id) (session_of (text_of r.group_id) (text_of r.member_id) sessions) r.share_session_epoch
    (wanted_in topics r.topics)

abbrev pub fetch_refusal : List Session → ShareFetchRequest → Option SessionFault
fetch_refusal sessions r = refusal true sessions (text_of r.group_id) (text_of r.member_id) r.share_session_epoch r.topics

abbrev pub ack_refusal : List Session → ShareAckRequest → Option SessionFault
ack_refusal sessions r = refusal false sessions (text_of r.group_id) (text_of r.member_id) r.share_session_epoch r.topics

-- a plan as these lists
abbrev pub plan_of : Planned → PlanParts
plan_of p = record { released = p.released.items; told = p.told.items; closed = p.closed.items; change = p.change }

-- the steps of a plan, in order
abbrev pub steps_of : PlanParts → List PlanStep
steps_of plan = plan.released ++ plan.told ++ plan.closed

-- the sessions behind a request, and its steps
pub record Begun : Type 0 where
  pub sessions : List Session
  pub steps : List PlanStep

abbrev pub begun : List Session → PlanParts → Begun
begun sessions plan = record { sessions = applied plan.change sessions; steps = steps_of plan }

abbrev pub begun_fetch : List Session → List Topic → ShareFetchRequest → Begun
begun_fetch sessions topics r = begun sessions (fetch_plan sessions topics r)

abbrev pub begun_ack : List Session → List Topic → ShareAckRequest → Begun
begun_ack sessions topics r = begun sessions (ack_plan sessions topics r)

-- the releases of all sessions, in the order in which they were opened
abbrev pub session_releases : Session → List PlanStep
session_releases s = map (release (record { group = s.group; member = s.member })) s.partitions

abbrev pub releases_of : List Session → List PlanStep
releases_of sessions = flat_map session_releases sessions

-- a list without its first
abbrev pub others_of : {X : Type 0} → List X → List X
others_of xs = drop 1 xs
