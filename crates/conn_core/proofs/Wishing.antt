-- A fetch waits before its first answer alone.
use Rattle.std.proofs.Common.{◌≡◌, ◌∙◌, ℤ, Bool, true, false, List, [], ◌∷◌, ◌++◌, map, filter, find, Option, Some, None, refl, sym, ap, if◌then◌else◌}
use Rattle.std.specs.Option.{option_map}
use Rattle.share_model.specs.declared.fault.Code.{Code}
use Rattle.topic_conf.specs.Configs.{ConfigParts}
use Rattle.msgs_share.specs.declared.share_fetch_request.ShareFetchRequest.{ShareFetchRequest}
use Rattle.call_fold.specs.declared.part.PartAnswer.{PartAnswer}
use Rattle.call_fold.specs.Parts.{visit_answer}
use Rattle.call_fold.specs.declared.call.Entry.{Entry}
use Rattle.call_fold.specs.declared.call.Entry.TheVariants.{Known, Ask}
use Rattle.call_fold.specs.declared.call.Stage.{Stage}
use Rattle.call_fold.specs.declared.call.Stage.TheVariants.{Asks, Says}
use Rattle.call_fold.specs.Calls.{AskingParts}
use Rattle.call_fold.specs.Going.{stage_of}
use Rattle.share_session.specs.declared.step.PlanStep.{PlanStep}
use Rattle.share_session.specs.declared.fault.SessionFault.{SessionFault}
use Rattle.share_session.specs.SessionParts.{SessionParts}
use Rattle.share_session.specs.Refusals.{code_of}
use Rattle.share_session.specs.Plans.{fetch_plan, fetch_refusal}
use Rattle.share_calls.specs.declared.fetch.FetchHand.{FetchHand}
use Rattle.share_calls.specs.declared.fetch_rows.FetchRow.{FetchRow}
use Rattle.share_calls.specs.declared.visiting.Visiting.{Visiting}
use Rattle.share_calls.specs.declared.wish.WaitWish.{WaitWish}
use Rattle.share_calls.specs.Fetch.{fetch_acts, fetch_hand, row_for, waits_for, hand_after, told, known, unhosted, refused_with, fetch_begins_by}
use Rattle.share_calls.specs.Visits.{untold}
use Rattle.share_calls.specs.Wishes.{may_wait, wish_at, wish_of, acquires, fetch_wish_by}
use Rattle.conn_core.specs.declared.hand.Hand.{Hand}
use Rattle.conn_core.specs.declared.hand.Hand.TheVariants.{Produce, DeleteRecords, Fetch, Acknowledge, Heartbeat, Initialize, Read, Write, Delete}
use Rattle.conn_core.specs.declared.sending.ReplyFrame.{ReplyFrame}
use Rattle.conn_core.specs.declared.sending.ReplyFrame.TheVariants.{Nothing, Frame, TooLong as FrameTooLong}
use Rattle.conn_core.specs.declared.work.Work.{Work}
use Rattle.conn_core.specs.declared.work.Work.TheVariants.{Free, Busy, Overlong, Closing}
use Rattle.conn_core.specs.Frames.{reply_frame}
use Rattle.conn_core.specs.Hands.{hand_stage, hand_stage_after}
use Rattle.conn_core.specs.Conns.{ConnParts, conn_after_end_at, taken_up}
use Rattle.conn_core.specs.Turning.{reply_turn, stage_turn, conn_with_reply, conn_at_stage, conn_after_answer_at}
use Rattle.conn_core.specs.Wishes.{hand_wish, stage_wish, work_wish, conn_wish, WaitsBeforeItsFirstAnswer}

abbrev FetchEntry : Type 0
FetchEntry = Entry Visiting (Option FetchRow)

abbrev wish_in : Stage (AskingParts FetchHand Visiting (Option FetchRow)) → Option WaitWish
wish_in stage = stage_wish (hand_stage (λ a. Fetch a) stage)

-- ---- what a fetch keeps of its wish

-- without one it goes on without one
none_on : (hand : FetchHand) (es : List FetchEntry) (rows : List (Option FetchRow)) → waits_for hand ≡ None → wish_in (stage_of fetch_acts hand es rows) ≡ None
none_on hand [] rows none = refl
none_on hand (Known row ∷ es) rows none = none_on hand es (rows ++ row ∷ []) none
none_on hand (Ask q ∷ es) rows none = none

abbrev given : ShareFetchRequest → List PlanStep → Option WaitWish
given r steps = option_map (wish_at r (filter acquires steps)) (find acquires steps)

-- where no visit is told, there is none
none_told : (r : ShareFetchRequest) → wish_of r [] ≡ None
none_told r = go (may_wait r)
  where
    go : (b : Bool) → (if b then given r [] else None) ≡ None
    go true = refl
    go false = refl

-- the wish of the visits that are told stands until the first of all has its answer
first_on : (conf : ConfigParts) (r : ShareFetchRequest) (released steps : List PlanStep) (es : List FetchEntry) →
    wish_in (stage_of fetch_acts (fetch_hand conf r (wish_of r steps)) (map untold released ++ (map (told conf.topics) steps ++ es)) []) ≡ wish_of r steps
first_on conf r (s ∷ released) steps es = refl
first_on conf r [] (s ∷ steps) es = refl
first_on conf r [] [] es = none_on (fetch_hand conf r (wish_of r [])) es [] (none_told r) ∙ sym (none_told r)

module _ (conf : ConfigParts) (sessions : List SessionParts) (r : ShareFetchRequest) where
  refused_on : (o : Option Code) → wish_in (refused_with conf o).stage ≡ None
  refused_on None = refl
  refused_on (Some code) = refl

  begun_on : (o : Option SessionFault) → wish_in (fetch_begins_by conf sessions r o).stage ≡ fetch_wish_by sessions conf.topics r o
  begun_on None =
      let plan = fetch_plan sessions conf.topics r in
      first_on conf r plan.released plan.told (map untold plan.closed ++ map known (unhosted conf.topics r))
  begun_on (Some fault) = refused_on (code_of fault)

-- ---- a stage under its name

-- another call has none
none_named : {A : Type 0} (hold : A → Hand) (stage : Stage A) → ((a : A) → hand_wish (hold a) ≡ None) → stage_wish (hand_stage hold stage) ≡ None
none_named hold (Asks a) none = none a
none_named hold (Says body) none = refl

none_after : (hand : Hand) (answer : PartAnswer) → stage_wish (hand_stage_after hand answer) ≡ None
none_after (Produce a) answer = none_named (λ b. Produce b) _ (λ b. refl)
none_after (DeleteRecords a) answer = none_named (λ b. DeleteRecords b) _ (λ b. refl)
none_after (Fetch a) answer =
    none_on (hand_after a.call (visit_answer answer)) a.left (a.rows ++ row_for a.question.step.purpose a.question.told (visit_answer answer) ∷ []) refl
none_after (Acknowledge a) answer = none_named (λ b. Acknowledge b) _ (λ b. refl)
none_after (Heartbeat a) answer = none_named (λ b. Heartbeat b) _ (λ b. refl)
none_after (Initialize a) answer = none_named (λ b. Initialize b) _ (λ b. refl)
none_after (Read a) answer = none_named (λ b. Read b) _ (λ b. refl)
none_after (Write a) answer = none_named (λ b. Write b) _ (λ b. refl)
none_after (Delete a) answer = none_named (λ b. Delete b) _ (λ b. refl)

-- ---- a connection

module _ (conn : ConnParts) where
  at_end : (work : Work) → conn.work ≡ work → conn_wish (conn_after_end_at work conn) ≡ None
  at_end Free is = refl
  at_end (Busy tags correlation hand) is = refl
  at_end Overlong is = refl
  at_end Closing is = ap work_wish is

  with_its_reply : (reply : ReplyFrame) → conn_wish (conn_with_reply conn reply) ≡ None
  with_its_reply Nothing = refl
  with_its_reply (Frame frame) = refl
  with_its_reply FrameTooLong = refl

  at_stage : (tags : Bool) (correlation : ℤ) (stage : Stage Hand) → stage_wish stage ≡ None → conn_wish (conn_at_stage conn tags correlation stage) ≡ None
  at_stage tags correlation (Asks hand) none = none
  at_stage tags correlation (Says body) none = with_its_reply (reply_frame tags correlation body)

  at_answer : (work : Work) (answer : PartAnswer) → conn.work ≡ work → conn_wish (conn_after_answer_at work answer conn) ≡ None
  at_answer Free answer is = ap work_wish is
  at_answer (Busy tags correlation hand) answer is = at_stage tags correlation (hand_stage_after hand answer) (none_after hand answer)
  at_answer Overlong answer is = ap work_wish is
  at_answer Closing answer is = ap work_wish is

  at_reply : (reply : ReplyFrame) → conn.work ≡ Free → conn_wish (reply_turn conn reply).conn ≡ None
  at_reply Nothing is = ap work_wish is
  at_reply (Frame frame) is = ap work_wish is
  at_reply FrameTooLong is = at_end conn.work refl

  at_beginning : (tags : Bool) (correlation : ℤ) (stage : Stage Hand) → conn.work ≡ Free →
      conn_wish (stage_turn conn tags correlation stage).conn ≡ stage_wish stage
  at_beginning tags correlation (Asks hand) is = refl
  at_beginning tags correlation (Says body) is = at_reply (reply_frame tags correlation body) is

pub waits_before : WaitsBeforeItsFirstAnswer
waits_before = record {
  begins = λ conf sessions m. begun_on conf sessions m (fetch_refusal sessions m);
  taken = λ conn rest tags correlation begun is. at_beginning (taken_up rest begun.change conn) tags correlation begun.stage is;
  answered = λ conn answer. at_answer conn conn.work answer refl;
  ended = λ conn. at_end conn conn.work refl;
}
