-- No record is granted that lies below the log's start.
use Rattle.std.proofs.Common.{◌≡◌, ◌≤◌, true, Some, inl, inr, ⊎_elim, sym, ap, subst, arith, ℕ, ℤ, List, [], ◌∷◌}
use Rattle.edge_io.specs.Views.{DiskView}
use Rattle.share_model.specs.ForeignRules.{size_of}
use Rattle.share_model.specs.Held.{Held}
use Rattle.share_model.specs.Logs.{Batch as LogBatch, end_of}
use Rattle.share_model.specs.declared.delete.DeleteAnswer.{DeleteAnswer}
use Rattle.share_model.specs.declared.delete.DeleteAnswer.TheVariants.{Done as Deleted, OutOfRange, Store as delete_store}
use Rattle.share_model.specs.declared.fault.StoreFault.TheVariants.{Device, Full}
use Rattle.part_log.specs.Shards.{LogShardState, StepsLog}
use Rattle.part_log.proofs.Keeping.{keeps_start}
use Rattle.part_log.proofs.Writes.{text_within}
use Rattle.share_part.specs.Deleting.{Deletes as DeletesPart, DeletesBelow, DeletesNothing}
use Rattle.share_part.specs.Shards.{Carries, PartParts, PartShardState, base_in}
use Rattle.call_fold.specs.declared.part.Produced.{Produced}
use Rattle.call_fold.specs.declared.part.Produced.TheVariants.{Base, Batch, Store}
use Rattle.topic_conf.specs.Configs.{ConfigParts}
use Rattle.broker_model.specs.Hosted.{Hosted, HoldsAt}
use Rattle.broker_model.specs.Locks.{Grants, GrantsNoneDeleted, GrantsNothingDeleted, GrantsTo, IsAboveStart, Record, StartAbove}
use Rattle.broker_model.specs.Machine.{OpensPart}
use Rattle.broker_model.specs.PartHistory.{IsPartHistory, PartAct, PartStep, StepsAlone}
use Rattle.broker_model.specs.PartHistory.PartAct.{Called, NothingDone}
use Rattle.broker_model.specs.Runs.{Step, IsRun}
use Rattle.broker_model.specs.States.{State, counts_of, ends_of}
use Rattle.broker_model.specs.Shards.{HostedPart, result_of}
use Rattle.broker_model.specs.Shards.PartCall.{Visits, Produces, Looks, Expires, Deletes}
use Rattle.broker_model.proofs.Above.{IsFrom, deleted_from, raised_above}
use Rattle.broker_model.proofs.Exclusive.{taken_alone}
use Rattle.broker_model.proofs.Goes.{Goes, IsStepOf, came, parts_of}
use Rattle.broker_model.proofs.Lists.{IsOf, all_entry, entry_at, entry_holds, of_contains}
use Rattle.broker_model.proofs.PartLocks.{grant_from, step_above}

-- all tables start where the log does, or behind
abbrev pub IsOwn : PartShardState → Type 0
IsOwn p = IsFrom p.log.start p

stays : (a b : PartShardState) → b.log.start ≡ a.log.start → IsFrom a.log.start b → IsOwn b
stays a b is f = subst (λ (n : ℕ). IsFrom n b) (sym is) f

same_log : (a b : PartShardState) → b.log ≡ a.log → IsFrom a.log.start b → IsOwn b
same_log a b is f = stays a b (ap (λ (l : LogShardState). l.start) is) f

log_start : (rose : Type 0) (end : ℕ) (old new : LogShardState) (batch : List ℕ) (produced : Produced) → StepsLog rose end old batch (base_in (result_of produced)) new
    → new.start ≡ old.start
log_start rose end old new batch (Base at) p = p.start
log_start rose end old new batch (Batch fault) p = ap (λ (l : LogShardState). l.start) p.1
log_start rose end old new batch (Store Device) p = p.1.start
log_start rose end old new batch (Store (Full at)) p = ap (λ (l : LogShardState). l.start) p.1

delete_own : (rose : Type 0) (end : ℕ) (a b : PartShardState) (to : ℤ) (answer : DeleteAnswer) → DeletesPart rose end a to answer b → IsFrom a.log.start b → IsOwn b
delete_own rose end a b to (OutOfRange at) p f = same_log a b p.2 f
delete_own rose end a b to (Deleted start) p f = ⊎_elim
    (λ (d : DeletesNothing a p.0 start b). same_log a b d.log f)
    (λ (d : DeletesBelow end a p.0 start b). subst (λ (n : ℕ). IsFrom n b) (sym d.log.start_is) (deleted_from end a b p.0 start d)) p.2
delete_own rose end a b to (delete_store Device) p f = stays a b p.2.1.start_is f
delete_own rose end a b to (delete_store (Full at)) p f = same_log a b p.2.0 f

module _ (h : Hosted) (s : PartStep) where
  act_own : (act : PartAct) → StepsAlone h s.before act s.after → IsFrom s.before.log.start s.after → IsOwn s.after
  act_own (Called (Visits visit answer unread)) p f = same_log s.before s.after p.4.log f
  act_own (Called (Produces batch produced)) p f = stays s.before s.after (log_start _ _ s.before.log s.after.log batch produced p.4.log) f
  act_own (Called (Looks other looked)) p f = same_log s.before s.after (ap (λ (z : PartShardState). z.log) p.4.1) f
  act_own (Called (Expires answer)) p f = same_log s.before s.after p.4.log f
  act_own (Called (Deletes to answer)) p f = delete_own _ _ s.before s.after to answer p.4.does f
  act_own NothingDone p f = same_log s.before s.after (ap (λ (z : PartShardState). z.log) p) f

  pub step_own : (group : List ℕ) (o : ℕ) (member : List ℕ) (until : ℕ) → StepsAlone h s.before s.act s.after → IsOwn s.before → IsOwn s.after
  step_own group o member until step f = act_own s.act step (step_above group o member until h s step s.before.log.start f)

module _ (h : Hosted) (group : List ℕ) (o : ℕ) (member : List ℕ) (end : ℕ) where
  granted_own : (first last : PartShardState) (steps : List PartStep) → IsPartHistory h first steps last → IsOwn first → (s : PartStep) → IsOf steps s
      → Grants h.conf group o member end s → s.before.log.start ≤ o
  granted_own first last [] run own s there g = absurd there
  granted_own first last (u ∷ steps) run own s there g =
      let here : IsOwn u.before = subst IsOwn (sym run.0) own in
      ⊎_elim
      (λ one. subst (λ (x : PartStep). Grants h.conf group o member end x → x.before.log.start ≤ o) one
      (λ k. grant_from group o member end h u run.1 u.before.log.start member end k here) g)
      (λ rest. granted_own u.after last steps run.2 (step_own h u group o member end run.1 here) s rest g)
      there

own_of : (p : PartShardState) → IsAboveStart p → IsOwn p
own_of p above = record { start = omega arith; within = above.0; tables = above.1 }

pub ungranted : (h : Hosted) (first last : PartShardState) (steps : List PartStep) → IsPartHistory h first steps last → IsAboveStart first
    → GrantsNothingDeleted h.conf steps
ungranted h first last steps run above s there group o member end g =
    granted_own h group o member end first last steps run (own_of first above) s
    (of_contains steps s there) g

-- of each state for which a shard in memory stands
pub carried_above : {D W : Type 0} (seen : D → DiskView) (holding : W → Held) (parts : PartParts D W) (s : PartShardState) → Carries seen holding parts s → IsAboveStart s
carried_above seen holding parts s k = (
  subst (λ (n : ℕ). n ≤ end_of s.log.batches) (sym k.log.start)
      (subst (λ (bs : List LogBatch). parts.log.start ≤ end_of bs) (sym k.log.batches) (keeps_start seen parts.log s.log.pending k.log.keeps)),
  λ key state found.
      let is = (k.hosted key state found).start in
      let at : size_of state.start ≡ is.0 = ap size_of is.1 in
      let le : s.log.start ≤ is.0 = is.2 in
      omega (arith, le, at),
)

-- behind an opening
opens_above : (contents : List ℕ → List ℕ) (p : HostedPart) → OpensPart contents p → IsAboveStart p.shard
opens_above contents p opens = subst IsAboveStart (sym opens.shard) (
  text_within _ opens.log opens.stands.log_is,
  subst (StartAbove opens.log.start) (sym opens.stands.raised_is) (raised_above opens.log.start opens.stands.written),
)

-- ---- whole runs

module _ (r : Record) (member : List ℕ) (end : ℕ) where
  goes_own : (s : Step) (x y : HostedPart) → Goes r.shard s x y → IsOwn x.shard → IsOwn y.shard
  goes_own s x y (inl same) own = subst (λ (p : HostedPart). IsOwn p.shard) (sym same) own
  goes_own s x y (inr (inl c)) own =
      step_own c.hosted (record { before = x.shard; act = Called c.did; after = y.shard }) r.group r.offset member end
      (true, counts_of s.before s.after, ends_of s.before s.after, c.now, c.step.step) own
  goes_own s x y (inr (inr lost)) own = own_of y.shard (opens_above lost.contents y lost.opens)

  abbrev AllOwn : State → Type 0
  AllOwn state = (x : HostedPart) → entry_at r.shard (parts_of state) ≡ Some x → IsOwn x.shard

  module _ (conf : ConfigParts) where
    step_all : (s : Step) → IsStepOf conf s → AllOwn s.before → AllOwn s.after
    step_all s step all y is = let w = came conf s step r.shard y is in goes_own s w.0 y w.2 (all w.0 w.1)

    granted_at : (s : Step) → IsStepOf conf s → AllOwn s.before → GrantsTo r member end s
        → HoldsAt r.shard (λ (q : HostedPart). q.shard.log.start ≤ r.offset) (parts_of s.before)
    granted_at s step all (hosted, p, seen, grants) =
        let c = taken_alone r member end conf s step hosted p seen in
        let own : IsOwn p.before = subst IsOwn c.before (all c.old c.was) in
        let le = grant_from r.group r.offset member end hosted p c.steps p.before.log.start member end grants own in
        entry_holds r.shard (λ (q : HostedPart). q.shard.log.start ≤ r.offset) (parts_of s.before) c.old c.was
        (subst (λ (z : PartShardState). z.log.start ≤ r.offset) (sym c.before) le)

    granted_in : (first last : State) (steps : List Step) → IsRun conf first steps last → AllOwn first → (s : Step) → IsOf steps s → GrantsTo r member end s
        → HoldsAt r.shard (λ (q : HostedPart). q.shard.log.start ≤ r.offset) (parts_of s.before)
    granted_in first last [] run all s there g = absurd there
    granted_in first last (u ∷ steps) run all s there g =
        let here : AllOwn u.before = subst AllOwn (sym run.0) all in
        ⊎_elim
        (λ one. subst (λ (x : Step). GrantsTo r member end x → HoldsAt r.shard (λ (q : HostedPart). q.shard.log.start ≤ r.offset) (parts_of x.before)) one
        (λ k. granted_at u run.1 here k) g)
        (λ rest. granted_in u.after last steps run.2 (step_all u run.1 here) s rest g)
        there

pub run_ungranted : (conf : ConfigParts) (first last : State) (steps : List Step) → IsRun conf first steps last → GrantsNoneDeleted first steps
run_ungranted conf first last steps run above s there r member end g =
    granted_in r member end conf first last steps run
    (λ x at. own_of x.shard (all_entry r.shard (λ (p : HostedPart). IsAboveStart p.shard) (parts_of first) x at above)) s (of_contains steps s there) g
