-- A log's slots and its start, from the end of a run back to its beginning.
use Rattle.std.proofs.Common.{◌≡◌, ◌⊎◌, ◌≤◌, ◌<◌, ◌+◌, inl, inr, ⊎_elim, sym, ap, ◌∙◌, subst, arith, ℕ, ℤ, List, [], ◌∷◌, ◌++◌, true, Option, Some, None}
use Rattle.share_model.specs.Logs.{Batch as LogBatch, Covers, IsLog, IsSlot, RisesFrom, end_of}
use Rattle.share_model.specs.declared.delete.DeleteAnswer.{DeleteAnswer}
use Rattle.share_model.specs.declared.delete.DeleteAnswer.TheVariants.{Done as Deleted, OutOfRange, Store as delete_store}
use Rattle.share_model.specs.declared.fault.StoreFault.TheVariants.{Device, Full}
use Rattle.part_log.specs.Logs.{and_pending}
use Rattle.part_log.specs.Shards.{LogShardState, StepsLog, log_at}
use Rattle.part_log.specs.Starts.{Log, LogWrite, with_write}
use Rattle.part_log.specs.Starts.LogWrite.{Adds, Marks}
use Rattle.part_log.proofs.Writes.{text_is_sound}
use Rattle.part_log.proofs.Frames.{bounds}
use Rattle.part_log.proofs.Rising.{end_from, end_more, rises_more}
use Rattle.share_part.specs.Deleting.{Deletes as DeletesPart, DeletesBelow, DeletesNothing}
use Rattle.share_part.specs.Leaving.{IsDoneOr}
use Rattle.share_part.specs.Shards.{PartShardState, base_in}
use Rattle.call_fold.specs.declared.part.Produced.{Produced}
use Rattle.call_fold.specs.declared.part.Produced.TheVariants.{Base, Batch, Store}
use Rattle.topic_conf.specs.Configs.{ConfigParts}
use Rattle.broker_model.specs.Hosted.{Hosted}
use Rattle.broker_model.specs.Shards.{HostedPart, PartCall, StepsPart, result_of}
use Rattle.broker_model.specs.Shards.PartCall.{Visits, Produces, Looks, Expires, Deletes}
use Rattle.broker_model.specs.Runs.{Step, IsRun}
use Rattle.broker_model.specs.States.{State, counts_of, ends_of}
use Rattle.broker_model.proofs.Keepings.{lands_one, part_grows}
use Rattle.broker_model.proofs.Goes.{Goes, came, parts_of, went}
use Rattle.broker_model.proofs.Lists.{entry_at, none_not, some_same}

-- ---- logs

-- a slot is below the end
pub slot_below : (e : ℕ) (log : List LogBatch) (o : ℕ) → RisesFrom e log → IsSlot log o → o < end_of log
slot_below e [] o rises slot = absurd slot
slot_below e (b ∷ []) o rises (inl covers) = let le = covers.1 in omega (arith, le)
slot_below e (b ∷ []) o rises (inr slot) = absurd slot
slot_below e (b ∷ c ∷ log) o rises (inl covers) = let le = covers.1 in let lt = end_from (b.last + 1) c log rises.2 in omega (arith, le, lt)
slot_below e (b ∷ c ∷ log) o rises (inr slot) = slot_below (b.last + 1) (c ∷ log) o rises.2 slot

slot_more : (log : List LogBatch) (b : LogBatch) (o : ℕ) → IsSlot (log ++ b ∷ []) o → IsSlot log o ⊎ Covers b o
slot_more [] b o (inl covers) = inr covers
slot_more [] b o (inr slot) = absurd slot
slot_more (c ∷ log) b o (inl covers) = inl (inl covers)
slot_more (c ∷ log) b o (inr slot) = ⊎_elim (λ there. inl (inr there)) (λ covers. inr covers) (slot_more log b o slot)

pub rises_back : (e : ℕ) (log : List LogBatch) (b : LogBatch) → RisesFrom e (log ++ b ∷ []) → (end_of log ≤ b.base) × (b.base ≤ b.last)
rises_back e [] b rises = (omega arith, rises.1)
rises_back e (c ∷ []) b rises = (rises.2.0, rises.2.1)
rises_back e (c ∷ d ∷ log) b rises = rises_back (c.last + 1) (d ∷ log) b rises.2

-- the offset is a slot, or not yet one
abbrev pub IsSlotYet : ℕ → List LogBatch → Type 0
IsSlotYet o log = IsSlot log o ⊎ (end_of log ≤ o)

slot_before : (o : ℕ) (log : List LogBatch) (b : LogBatch) → IsLog (log ++ b ∷ []) → IsSlotYet o (log ++ b ∷ []) → IsSlotYet o log
slot_before o log b is_log (inl slot) = ⊎_elim
    (λ there. inl there)
    (λ (covers : Covers b o). let r = rises_back 0 log b is_log in let le = r.0 in let ge = covers.0 in inr (omega (arith, le, ge)))
    (slot_more log b o slot)
slot_before o log b is_log (inr past) =
    let r = rises_back 0 log b is_log in let le = r.0 in let ge = r.1 in let end = end_more log b in inr (omega (arith, le, ge, end, past))

-- a log stays, or has one batch more
pub record LogGoes (old new : List LogBatch) : Type 0 where
  pub same_or_more : (new ≡ old) ⊎ ((b : LogBatch) × (new ≡ old ++ b ∷ []))
  pub still : IsLog old → IsLog new

pub before_it : (o : ℕ) (old new : List LogBatch) → IsLog old → LogGoes old new → IsSlotYet o new → IsSlotYet o old
before_it o old new is_log g slot = ⊎_elim
    (λ same. subst (IsSlotYet o) same slot)
    (λ (more : (b : LogBatch) × (new ≡ old ++ b ∷ [])).
    slot_before o old more.0 (subst IsLog more.1 (g.still is_log)) (subst (IsSlotYet o) more.1 slot))
    g.same_or_more

log_stays : (old new : List LogBatch) → new ≡ old → LogGoes old new
log_stays old new is = record { same_or_more = inl is; still = λ is_log. subst IsLog (sym is) is_log }

log_goes : (rose : Type 0) (end : ℕ) (old new : LogShardState) (batch : List ℕ) (produced : Produced) → StepsLog rose end old batch (base_in (result_of produced)) new
    → LogGoes old.batches new.batches
log_goes rose end old new batch (Base at) p = record {
  same_or_more = inr (_, p.batches);
  still = λ is_log. subst IsLog (sym p.batches)
      (rises_more 0 old.batches _ is_log (omega arith) p.follows.behind (bounds _ p.follows.stored).order);
}
log_goes rose end old new batch (Batch fault) p = log_stays old.batches new.batches (ap (λ (s : LogShardState). s.batches) p.1)
log_goes rose end old new batch (Store Device) p = log_stays old.batches new.batches p.1.same
log_goes rose end old new batch (Store (Full at)) p = log_stays old.batches new.batches (ap (λ (s : LogShardState). s.batches) p.1)

log_same : (old new : PartShardState) → new.log ≡ old.log → LogGoes old.log.batches new.log.batches
log_same old new is = log_stays old.log.batches new.log.batches (ap (λ (l : LogShardState). l.batches) is)

log_deletes : (rose : Type 0) (end : ℕ) (old new : PartShardState) (to : ℤ) (answer : DeleteAnswer) → DeletesPart rose end old to answer new
    → LogGoes old.log.batches new.log.batches
log_deletes rose end old new to (OutOfRange at) p = log_same old new p.2
log_deletes rose end old new to (Deleted start) p = ⊎_elim
    (λ (d : DeletesNothing old p.0 start new). log_same old new d.log)
    (λ (d : DeletesBelow end old p.0 start new). log_stays old.log.batches new.log.batches d.log.batches) p.2
log_deletes rose end old new to (delete_store Device) p = log_stays old.log.batches new.log.batches p.2.1.batches
log_deletes rose end old new to (delete_store (Full at)) p = log_same old new p.2.0

landed_log : (log : Log) (pending : Option LogWrite) (new : Log) → IsDoneOr log (and_pending log pending) new
    → (new.batches ≡ log.batches) ⊎ ((b : LogBatch) × (new.batches ≡ log.batches ++ b ∷ []))
landed_log log pending new (inl is) = inl (ap (λ (l : Log). l.batches) is)
landed_log log None new (inr is) = absurd (none_not new is)
landed_log log (Some (Adds b)) new (inr is) = inr (b, ap (λ (l : Log). l.batches) (sym (some_same (with_write log (Adds b)) new is)))
landed_log log (Some (Marks n)) new (inr is) = inl (ap (λ (l : Log). l.batches) (sym (some_same (with_write log (Marks n)) new is)))

-- ---- the logs of a run

part_log : (s : Step) (now : ℕ) (h : Hosted) (old new : PartShardState) (did : PartCall)
    → StepsPart true (counts_of s.before s.after) (ends_of s.before s.after) now h old did new → LogGoes old.log.batches new.log.batches
part_log s now h old new (Visits visit answer unread) p = log_same old new p.log
part_log s now h old new (Produces batch produced) p = log_goes _ _ old.log new.log batch produced p.log
part_log s now h old new (Looks group looked) p = log_same old new (ap (λ (z : PartShardState). z.log) p.1)
part_log s now h old new (Expires answer) p = log_same old new p.log
part_log s now h old new (Deletes to answer) p = log_deletes _ _ old new to answer p.does

-- a log starts where it did or behind
goes_start : (n : ℕ) (s : Step) (x y : HostedPart) → Goes n s x y → x.shard.log.start ≤ y.shard.log.start
goes_start n s x y (inl same) = let is : y.shard.log.start ≡ x.shard.log.start = ap (λ (p : HostedPart). p.shard.log.start) same in omega (arith, is)
goes_start n s x y (inr (inl c)) = (part_grows (counts_of s.before s.after) (ends_of s.before s.after) c.now c.hosted x.shard y.shard c.did c.step.step).2
goes_start n s x y (inr (inr lost)) = (lands_one x y lost.lands).start

pub goes_log : (n : ℕ) (s : Step) (x y : HostedPart) → Goes n s x y → LogGoes x.shard.log.batches y.shard.log.batches
goes_log n s x y (inl same) = log_stays x.shard.log.batches y.shard.log.batches (ap (λ (p : HostedPart). p.shard.log.batches) same)
goes_log n s x y (inr (inl c)) = part_log s c.now c.hosted x.shard y.shard c.did c.step.step
goes_log n s x y (inr (inr lost)) =
    let is : y.shard.log.batches ≡ lost.lands.log.batches = ap (λ (z : PartShardState). z.log.batches) lost.lands.shard in
    let opened : y.shard.log.batches ≡ lost.opens.log.batches = ap (λ (z : PartShardState). z.log.batches) lost.opens.shard in
    record {
      same_or_more = ⊎_elim (λ same. inl (is ∙ same)) (λ more. inr (more.0, is ∙ more.1))
          (landed_log (log_at x.shard.log) x.shard.log.pending lost.lands.log lost.lands.log_is);
      still = λ was. subst IsLog (sym opened) (text_is_sound _ lost.opens.log lost.opens.stands.log_is).rises;
    }

module _ (conf : ConfigParts) (n : ℕ) where
  pub slots_back : (o : ℕ) (first last : State) (steps : List Step) → IsRun conf first steps last → (x y : HostedPart) → entry_at n (parts_of first) ≡ Some x
      → entry_at n (parts_of last) ≡ Some y → IsLog x.shard.log.batches → IsSlotYet o y.shard.log.batches → IsSlotYet o x.shard.log.batches
  slots_back o first last [] run x y at there is_log slot =
      subst (λ (p : HostedPart). IsSlotYet o p.shard.log.batches)
      (some_same y x (sym there ∙ ap (λ (s : State). entry_at n (parts_of s)) run ∙ at)) slot
  slots_back o first last (s ∷ steps) run x y at there is_log slot =
      let w = went conf s run.1 n x (ap (λ (z : State). entry_at n (parts_of z)) run.0 ∙ at) in
      let g = goes_log n s x w.0 w.2 in
      before_it o x.shard.log.batches w.0.shard.log.batches is_log g
      (slots_back o s.after last steps run.2 w.0 y w.1 there (g.still is_log) slot)

  -- no log starts behind where it ends up
  pub starts_back : (o : ℕ) (first last : State) (steps : List Step) → IsRun conf first steps last → (x y : HostedPart) → entry_at n (parts_of first) ≡ Some x
      → entry_at n (parts_of last) ≡ Some y → y.shard.log.start ≤ o → x.shard.log.start ≤ o
  starts_back o first last [] run x y at there low =
      subst (λ (p : HostedPart). p.shard.log.start ≤ o)
      (some_same y x (sym there ∙ ap (λ (s : State). entry_at n (parts_of s)) run ∙ at)) low
  starts_back o first last (s ∷ steps) run x y at there low =
      let w = went conf s run.1 n x (ap (λ (z : State). entry_at n (parts_of z)) run.0 ∙ at) in
      let later = goes_start n s x w.0 w.2 in
      let rest = starts_back o s.after last steps run.2 w.0 y w.1 there low in
      omega (arith, later, rest)

  -- each partition was there at first
  pub first_entry : (first last : State) (steps : List Step) → IsRun conf first steps last → (y : HostedPart) → entry_at n (parts_of last) ≡ Some y
      → (x : HostedPart) × (entry_at n (parts_of first) ≡ Some x)
  first_entry first last [] run y there = (y, ap (λ (s : State). entry_at n (parts_of s)) (sym run) ∙ there)
  first_entry first last (s ∷ steps) run y there =
      let m = first_entry s.after last steps run.2 y there in
      let w = came conf s run.1 n m.0 m.1 in
      (w.0, ap (λ (z : State). entry_at n (parts_of z)) (sym run.0) ∙ w.1)
