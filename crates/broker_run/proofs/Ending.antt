-- A connection that has closed waits for nothing.
use Rattle.std.proofs.Common.{◌≡◌, ◌∙◌, ℕ, List, [], ◌∷◌, ◌++◌, None, Bool, ℤ, refl, sym, ap, subst, append-nil}
use Rattle.share_model.specs.declared.close_cause.CloseCause.{CloseCause}
use Rattle.topic_conf.specs.Configs.{ConfigParts}
use Rattle.edge_io.specs.Views.{DiskView}
use Rattle.call_fold.specs.declared.part.PartAnswer.{PartAnswer}
use Rattle.share_session.specs.declared.step.PlanStep.{PlanStep}
use Rattle.call_fold.specs.declared.call.Stage.{Stage}
use Rattle.call_fold.specs.declared.call.Stage.TheVariants.{Asks, Says}
use Rattle.conn_core.specs.declared.hand.Hand.{Hand}
use Rattle.conn_core.specs.declared.judge.Verdict.{Verdict}
use Rattle.conn_core.specs.declared.judge.Verdict.TheVariants.{Refused, Taken}
use Rattle.conn_core.specs.declared.next.Next.{Next}
use Rattle.conn_core.specs.declared.next.Next.TheVariants.{Idle, Ask, Ready, Closed as next_closed, Gone}
use Rattle.conn_core.specs.declared.sending.ReplyFrame.{ReplyFrame}
use Rattle.conn_core.specs.declared.sending.ReplyFrame.TheVariants.{Nothing, Frame, TooLong as FrameTooLong}
use Rattle.conn_core.specs.declared.stream.Front.{Front}
use Rattle.conn_core.specs.declared.stream.Front.TheVariants.{Partial, TooLong, Whole}
use Rattle.conn_core.specs.declared.work.Work.{Work}
use Rattle.conn_core.specs.declared.work.Work.TheVariants.{Free, Busy, Overlong, Closing}
use Rattle.conn_core.specs.Conns.{ConnParts, conn_after_end, conn_after_end_at, conn_after_reply, taken_up}
use Rattle.conn_core.specs.Frames.{reply_frame}
use Rattle.conn_core.specs.Judging.{verdict}
use Rattle.conn_core.specs.Stream.{behind_frame, frame_at, front_of}
use Rattle.conn_core.specs.Hands.{hand_part}
use Rattle.conn_core.specs.Streams.{Act, conn_after_all}
use Rattle.conn_core.specs.Turning.{conn_after_answer, front_turn, next_release, release_part, reply_turn, stage_turn, turn, verdict_turn, work_turn}
use Rattle.conn_core.specs.Wishes.{conn_wish, work_wish}
use Rattle.broker_locks.specs.Shared.{SharedParts}
use Rattle.broker_run.specs.declared.connection.Ended.{Ended}
use Rattle.broker_run.specs.declared.connection.Ended.TheVariants.{Peer, Closed, Read, Write, NoMemory}
use Rattle.broker_run.specs.Moving.{CanAll, Move, conn_after_moves, deed_of}
use Rattle.broker_run.specs.Serving.{ClosesBy, Scene, Talks}
use Rattle.broker_run.proofs.Runs.{after_append}

-- it has closed
abbrev pub HasClosed : ConnParts → Type 0
HasClosed conn = conn.work ≡ Closing

pub closed_wishes_nothing : (c : ConnParts) → HasClosed c → conn_wish c ≡ None
closed_wishes_nothing c k = ap work_wish k

-- asked what it does next, it stays as it is
pub closed_stays : (conf : ConfigParts) (c : ConnParts) → HasClosed c → HasClosed (turn conf c).conn
closed_stays conf c k = rw k refl

-- an answer leaves it closed
pub closed_answered : (answer : PartAnswer) (c : ConnParts) → HasClosed c → HasClosed (conn_after_answer answer c)
closed_answered answer c k = rw k refl

end_at : (work : Work) (c : ConnParts) → c.work ≡ work → HasClosed (conn_after_end_at work c)
end_at Free c is = refl
end_at (Busy tags correlation hand) c is = refl
end_at Overlong c is = refl
end_at Closing c is = is

pub end_closes : (c : ConnParts) → HasClosed (conn_after_end c)
end_closes c = end_at c.work c refl

-- ---- a turn that closes it

module _ (cause : CloseCause) where
  by_reply : (c : ConnParts) (frame : ReplyFrame) → (reply_turn c frame).next ≡ next_closed cause → HasClosed (reply_turn c frame).conn
  by_reply c Nothing is = absurd (let bad : ◌≡◌ {A = Next} Ready (next_closed cause) = is in cc)
  by_reply c (Frame frame) is = absurd (let bad : ◌≡◌ {A = Next} Ready (next_closed cause) = is in cc)
  by_reply c FrameTooLong is = end_closes c

  by_stage : (c : ConnParts) (tags : Bool) (correlation : ℤ) (stage : Stage Hand) → (stage_turn c tags correlation stage).next ≡ next_closed cause
      → HasClosed (stage_turn c tags correlation stage).conn
  by_stage c tags correlation (Says body) is = by_reply c (reply_frame tags correlation body) is
  by_stage c tags correlation (Asks hand) is = absurd (let bad : ◌≡◌ {A = Next} (Ask (hand_part hand)) (next_closed cause) = is in cc)

  by_verdict : (c : ConnParts) (rest : List ℕ) (v : Verdict) → (verdict_turn c rest v).next ≡ next_closed cause → HasClosed (verdict_turn c rest v).conn
  by_verdict c rest (Refused why) is = end_closes c
  by_verdict c rest (Taken tags correlation begun) is = by_stage (taken_up rest begun.change c) tags correlation begun.stage is

  by_front : (conf : ConfigParts) (c : ConnParts) (front : Front) → (front_turn conf c front).next ≡ next_closed cause → HasClosed (front_turn conf c front).conn
  by_front conf c Partial is = absurd (let bad : ◌≡◌ {A = Next} Idle (next_closed cause) = is in cc)
  by_front conf c (TooLong size) is = end_closes c
  by_front conf c (Whole size) is = by_verdict c (behind_frame size c.unread) (verdict conf c.sessions (frame_at size c.unread)) is

  no_release : (steps : List PlanStep) → next_release steps ≡ next_closed cause → ⊥
  no_release [] is = let bad : ◌≡◌ {A = Next} Gone (next_closed cause) = is in cc
  no_release (step ∷ steps) is = let bad : ◌≡◌ {A = Next} (Ask (release_part step)) (next_closed cause) = is in cc

  by_work : (conf : ConfigParts) (c : ConnParts) (work : Work) → (work_turn conf c work).next ≡ next_closed cause → HasClosed (work_turn conf c work).conn
  by_work conf c Free is = by_front conf c (front_of c.unread) is
  by_work conf c (Busy tags correlation hand) is = absurd (let bad : ◌≡◌ {A = Next} (Ask (hand_part hand)) (next_closed cause) = is in cc)
  by_work conf c Overlong is = end_closes c
  by_work conf c Closing is = absurd (no_release c.releases is)

-- ---- a connection that was talked to up to where it closed

module _ {D : Type 0} (conf : ConfigParts) (seen : D → DiskView) (shared : SharedParts D) where
  closing_move : (ended : Ended) (move : Move) (at : ConnParts) → ClosesBy ended move at → CanAll conf (move ∷ []) at
      → HasClosed (conn_after_moves conf (move ∷ []) at)
  closing_move Peer move at closes can = subst (λ (m : Move). HasClosed (conn_after_moves conf (m ∷ []) at)) (sym closes) (end_closes at)
  closing_move (Closed cause) move at closes can = subst (λ (m : Move). HasClosed (conn_after_moves conf (m ∷ []) at)) (sym closes.0)
      (by_work cause conf at at.work (subst (λ (m : Move). CanAll conf (m ∷ []) at) closes.0 can).0)
  closing_move Read move at closes can = subst (λ (m : Move). HasClosed (conn_after_moves conf (m ∷ []) at)) (sym closes) (end_closes at)
  closing_move Write move at closes can =
      subst (λ (m : Move). HasClosed (conn_after_moves conf (m ∷ []) at)) (sym closes.1) (end_closes (conn_after_reply at))
  closing_move NoMemory move at closes can = absurd closes

  can_last : (xs ys : List Move) (c : ConnParts) → CanAll conf (xs ++ ys) c → CanAll conf ys (conn_after_moves conf xs c)
  can_last [] ys c p = p
  can_last (x ∷ xs) ys c p = subst (CanAll conf ys) (sym (after_append conf (x ∷ []) xs c)) (can_last xs ys (conn_after_moves conf (x ∷ []) c) (can_one x xs ys c p))
    where
      can_one : (x : Move) (xs ys : List Move) (c : ConnParts) → CanAll conf (x ∷ (xs ++ ys)) c → CanAll conf (xs ++ ys) (conn_after_moves conf (x ∷ []) c)
      can_one x xs ys c p = subst (λ (l : List Act). CanAll conf (xs ++ ys) (conn_after_all conf l c)) (sym (append-nil (deed_of x).acts)) p.1

  pub talks_closed : (ended : Ended) (a b : Scene D) → Talks conf seen shared ended a b → HasClosed b.conn
  talks_closed ended a b t = subst HasClosed (sym (t.goes.makes.conn ∙ after_append conf t.talk (t.closing ∷ []) a.conn))
      (closing_move ended t.closing (conn_after_moves conf t.talk a.conn) t.closes (can_last t.talk (t.closing ∷ []) a.conn t.goes.makes.can))
