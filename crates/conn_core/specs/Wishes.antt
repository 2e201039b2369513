-- For what a connection waits before the first part of its request (KIP-932, ShareFetchRequest.json: MaxWaitMs): for what its fetch
-- waits, until an answer has come.
-- For example a fetch of two partitions that waits has both in its wish before its first part is answered, and none from then on (layer_rows,
-- `a fetch that waits, up to its first answer`).
use Rattle.std.specs.Prelude.{◌≡◌, ℕ, ℤ, Bool, Option, None, List}
use Rattle.topic_conf.specs.Configs.{ConfigParts}
use Rattle.msgs_share.specs.declared.share_fetch_request.ShareFetchRequest.{ShareFetchRequest}
use Rattle.call_fold.specs.declared.part.PartAnswer.{PartAnswer}
use Rattle.call_fold.specs.declared.call.Stage.{Stage}
use Rattle.call_fold.specs.declared.call.Stage.TheVariants.{Asks, Says}
use Rattle.share_session.specs.SessionParts.{SessionParts}
use Rattle.share_calls.specs.declared.wish.WaitWish.{WaitWish}
use Rattle.share_calls.specs.Fetch.{waits_for}
use Rattle.share_calls.specs.Wishes.{fetch_wish}
use Rattle.conn_core.specs.declared.begun.Begun.{Begun}
use Rattle.conn_core.specs.declared.hand.Hand.{Hand}
use Rattle.conn_core.specs.declared.hand.Hand.TheVariants.{Produce, DeleteRecords, Fetch, Acknowledge, Heartbeat, Initialize, Read, Write, Delete}
use Rattle.conn_core.specs.declared.judge.Verdict.TheVariants.{Taken}
use Rattle.conn_core.specs.declared.work.Work.{Work}
use Rattle.conn_core.specs.declared.work.Work.TheVariants.{Free, Busy, Overlong, Closing}
use Rattle.conn_core.specs.Beginning.{fetch_begins}
use Rattle.conn_core.specs.Conns.{ConnParts, conn_after_end}
use Rattle.conn_core.specs.Turning.{verdict_turn, conn_after_answer}

-- no call but a fetch waits
abbrev pub hand_wish : Hand → Option WaitWish
hand_wish (Produce a) = None
hand_wish (DeleteRecords a) = None
hand_wish (Fetch a) = waits_for a.call
hand_wish (Acknowledge a) = None
hand_wish (Heartbeat a) = None
hand_wish (Initialize a) = None
hand_wish (Read a) = None
hand_wish (Write a) = None
hand_wish (Delete a) = None

abbrev pub stage_wish : Stage Hand → Option WaitWish
stage_wish (Asks hand) = hand_wish hand
stage_wish (Says body) = None

abbrev pub work_wish : Work → Option WaitWish
work_wish Free = None
work_wish (Busy tags correlation hand) = hand_wish hand
work_wish Overlong = None
work_wish Closing = None

abbrev pub conn_wish : ConnParts → Option WaitWish
conn_wish conn = work_wish conn.work

pub record WaitsBeforeItsFirstAnswer : Type 0 where
  -- a fetch begins with the wish that its request and the sessions give
  pub begins : (conf : ConfigParts) (sessions : List SessionParts) (m : ShareFetchRequest) →
      stage_wish (fetch_begins conf sessions m).stage ≡ fetch_wish sessions conf.topics m
  -- a connection that takes up a request waits as that begins
  pub taken : (conn : ConnParts) (rest : List ℕ) (tags : Bool) (correlation : ℤ) (begun : Begun) → conn.work ≡ Free →
      conn_wish (verdict_turn conn rest (Taken tags correlation begun)).conn ≡ stage_wish begun.stage
  -- behind an answer, and behind its end, it waits for nothing
  pub answered : (conn : ConnParts) (answer : PartAnswer) → conn_wish (conn_after_answer answer conn) ≡ None
  pub ended : (conn : ConnParts) → conn_wish (conn_after_end conn) ≡ None
