-- A delete that was answered is kept, and a log's start moves by a delete alone.
use Rattle.std.proofs.Common.{true, ◌≡◌, ◌⊎◌, ◌≤◌, inl, inr, ⊎_elim, refl, sym, ap, ◌∙◌, subst, arith, ℕ, ℤ, zero, suc, List, [], ◌∷◌, ◌++◌, Option, Some, None}
use Rattle.std.specs.List.{AllZip}
use Rattle.share_model.specs.Logs.{Batch as LogBatch}
use Rattle.share_model.specs.declared.delete.DeleteAnswer.{DeleteAnswer}
use Rattle.share_model.specs.declared.delete.DeleteAnswer.TheVariants.{Done as Deleted, OutOfRange, Store as delete_store}
use Rattle.share_model.specs.declared.fault.StoreFault.TheVariants.{Device, Full}
use Rattle.part_log.specs.Logs.{and_pending}
use Rattle.part_log.specs.Shards.{LogShardState, StepsLog, log_at}
use Rattle.part_log.specs.Starts.{Log, LogWrite, with_write}
use Rattle.part_log.specs.Starts.LogWrite.{Adds, Marks}
use Rattle.share_part.specs.Deleting.{Deletes as DeletesPart, DeletesBelow, DeletesNothing, IsToDelete}
use Rattle.share_part.specs.Leaving.{IsDoneOr}
use Rattle.share_part.specs.Shards.{PartShardState, base_in}
use Rattle.call_fold.specs.declared.part.Produced.{Produced}
use Rattle.call_fold.specs.declared.part.Produced.TheVariants.{Base, Batch, Store}
use Rattle.session_script.specs.declared.event.Event.TheVariants.{Power}
use Rattle.topic_conf.specs.Configs.{ConfigParts}
use Rattle.broker_model.specs.Hosted.{HoldsAt, Hosted, log_of}
use Rattle.broker_model.specs.Shards.{Counts, Ends, HostedPart, PartCall, StepsPart, result_of}
use Rattle.broker_model.specs.Shards.ShardCall.{CallPart}
use Rattle.broker_model.specs.Shards.PartCall.{Visits, Produces, Looks, Expires, Deletes}
use Rattle.broker_model.specs.Machine.{LandsPart}
use Rattle.broker_model.specs.States.{State, counts_of, ends_of}
use Rattle.broker_model.specs.Runs.{Step, IsRun, events_of}
use Rattle.broker_model.specs.Keeping.{AreMovedTo, DeletesTo, GoesOnAs, IsMarkedAt, KeepsDeletes, LosesPower, StartsAt}
use Rattle.broker_model.proofs.Chains.{run_parts}
use Rattle.broker_model.proofs.Goes.{Goes, IsCalledOn, IsStepOf, called, came, parts_of}
use Rattle.broker_model.proofs.Keepings.{keeps}
use Rattle.broker_model.proofs.Lists.{contains_front, contains_rest, entry_at, entry_holds, holds_entry, none_not, some_same}

-- ---- an answered delete

-- the log starts there or behind
abbrev StartsFrom : ℕ → HostedPart → Type 0
StartsFrom start p = start ≤ p.shard.log.start

and_then : (a b c : ℕ) → a ≤ b → b ≤ c → a ≤ c
and_then a b c p q = omega arith

later : (start shard : ℕ) (old new : List HostedPart) → AllZip GoesOnAs old new → HoldsAt shard (StartsFrom start) old → HoldsAt shard (StartsFrom start) new
later start shard [] new all h = absurd h
later start zero (x ∷ xs) [] all h = absurd all
later start zero (x ∷ xs) (y ∷ ys) all h = and_then start x.shard.log.start y.shard.log.start h all.0.start
later start (suc n) (x ∷ xs) [] all h = absurd all
later start (suc n) (x ∷ xs) (y ∷ ys) all h = later start n xs ys all.1 h

told : (end : ℕ) (old new : PartShardState) (target start : ℕ) → DeletesNothing old target start new ⊎ DeletesBelow end old target start new → start ≤ new.log.start
told end old new target start (inl d) =
    let is = d.start_is in
    let same : new.log.start ≡ old.log.start = ap (λ (l : LogShardState). l.start) d.log in
    omega (arith, is, same)
told end old new target start (inr d) = let is = d.start_is in let at = d.log.start_is in omega (arith, is, at)

module _ (conf : ConfigParts) (s : Step) (step : IsStepOf conf s) (shard start : ℕ) (hosted : Hosted) (to : ℤ) where
  deleted_here : s.call ≡ Some (CallPart shard hosted (Deletes to (Deleted start))) → HoldsAt shard (StartsFrom start) (parts_of s.after)
  deleted_here call =
      let c = called conf s step shard hosted (Deletes to (Deleted start)) call in
      let d = c.step.step.does in
      entry_holds shard (StartsFrom start) (parts_of s.after) c.new c.is
      (told ((ends_of s.before s.after) (log_of hosted)).0 c.old.shard c.new.shard d.0 start d.2)

-- ---- where a log starts

adds_not : (b : LogBatch) (start : ℕ) → ◌≡◌ {A = Option LogWrite} (Some (Adds b)) (Some (Marks start)) → ⊥
adds_not b start e = cc

marks_same : (a b : ℕ) → ◌≡◌ {A = Option LogWrite} (Some (Marks a)) (Some (Marks b)) → a ≡ b
marks_same a b e = cc

produced_start : (rose : Type 0) (end : ℕ) (old new : LogShardState) (batch : List ℕ) (produced : Produced)
    → StepsLog rose end old batch (base_in (result_of produced)) new → new.start ≡ old.start
produced_start rose end old new batch (Base placed) p = p.start
produced_start rose end old new batch (Batch fault) p = ap (λ (l : LogShardState). l.start) p.1
produced_start rose end old new batch (Store Device) p = p.1.start
produced_start rose end old new batch (Store (Full at)) p = ap (λ (l : LogShardState). l.start) p.1

module _ (start : ℕ) where
  abbrev IsAt : LogShardState → Type 0
  IsAt log = log.start ≡ start

  abbrev IsMarked : LogShardState → Type 0
  IsMarked log = log.pending ≡ Some (Marks start)

  -- nothing is pending
  unmarked : (log : LogShardState) → log.pending ≡ None → IsMarked log → ⊥
  unmarked log none marked = none_not (Marks start) (sym none ∙ marked)

  same_at : (old new : LogShardState) → new ≡ old → IsAt new → IsAt old
  same_at old new is at = subst IsAt is at

  same_marked : (old new : LogShardState) → new ≡ old → IsMarked new → IsMarked old
  same_marked old new is marked = subst IsMarked is marked

  produced_marked : (rose : Type 0) (end : ℕ) (old new : LogShardState) (batch : List ℕ) (produced : Produced)
      → StepsLog rose end old batch (base_in (result_of produced)) new → IsMarked new → IsMarked old
  produced_marked rose end old new batch (Base placed) p marked = absurd (unmarked new p.nothing marked)
  produced_marked rose end old new batch (Batch fault) p marked = same_marked old new p.1 marked
  produced_marked rose end old new batch (Store Device) p marked = ⊎_elim
      (λ same. sym same ∙ marked)
      (λ adds. absurd (adds_not _ start (sym adds ∙ marked))) p.1.pending
  produced_marked rose end old new batch (Store (Full at)) p marked = same_marked old new p.1 marked

  -- the call is a delete that asks for this start, and is answered so
  record Asks (answer : DeleteAnswer) (did : PartCall) (old : LogShardState) : Type 0 where
    to : ℤ
    is : did ≡ Deletes to answer
    target : IsToDelete (log_at old) to start

  asks_so : (old : LogShardState) (to : ℤ) (target : ℕ) (given answer : DeleteAnswer) → IsToDelete (log_at old) to target → target ≡ start → given ≡ answer
      → Asks answer (Deletes to given) old
  asks_so old to target given answer p is same = record {
    to = to;
    is = ap (λ (a : DeleteAnswer). Deletes to a) same;
    target = subst (λ (n : ℕ). IsToDelete (log_at old) to n) is p;
  }

  below_at : (end : ℕ) (old new : PartShardState) (to : ℤ) (target told : ℕ) → IsToDelete (log_at old.log) to target → DeletesBelow end old target told new
      → IsAt new.log → Asks (Deleted start) (Deletes to (Deleted told)) old.log
  below_at end old new to target told p d at =
      let is : target ≡ start = sym d.log.start_is ∙ at in
      asks_so old.log to target (Deleted told) (Deleted start) p is (ap (λ (n : ℕ). Deleted n) (d.start_is ∙ is))

  delete_at : (rose : Type 0) (end : ℕ) (old new : PartShardState) (to : ℤ) (answer : DeleteAnswer) → DeletesPart rose end old to answer new
      → IsAt new.log → IsAt old.log ⊎ Asks (Deleted start) (Deletes to answer) old.log
  delete_at rose end old new to (OutOfRange last) p at = inl (same_at old.log new.log p.2 at)
  delete_at rose end old new to (Deleted told) p at = ⊎_elim
      (λ (d : DeletesNothing old p.0 told new). inl (same_at old.log new.log d.log at))
      (λ (d : DeletesBelow end old p.0 told new). inr (below_at end old new to p.0 told (p.1, d.log.allowed.above) d at)) p.2
  delete_at rose end old new to (delete_store Device) p at = inl (sym p.2.1.start_is ∙ at)
  delete_at rose end old new to (delete_store (Full last)) p at = inl (same_at old.log new.log p.2.0 at)

  delete_marked : (rose : Type 0) (end : ℕ) (old new : PartShardState) (to : ℤ) (answer : DeleteAnswer) → DeletesPart rose end old to answer new
      → IsMarked new.log → IsMarked old.log ⊎ Asks (delete_store Device) (Deletes to answer) old.log
  delete_marked rose end old new to (OutOfRange last) p marked = inl (same_marked old.log new.log p.2 marked)
  delete_marked rose end old new to (Deleted told) p marked = ⊎_elim
      (λ (d : DeletesNothing old p.0 told new). inl (same_marked old.log new.log d.log marked))
      (λ (d : DeletesBelow end old p.0 told new). absurd (unmarked new.log d.log.nothing marked)) p.2
  delete_marked rose end old new to (delete_store Device) p marked = ⊎_elim
      (λ same. inl (sym same ∙ marked))
      (λ marks. inr (asks_so old.log to p.0 (delete_store Device) (delete_store Device) p.1 (marks_same p.0 start (sym marks ∙ marked)) refl)) p.2.1.pending
  delete_marked rose end old new to (delete_store (Full last)) p marked = inl (same_marked old.log new.log p.2.0 marked)

  module _ (counts : Counts) (ends : Ends) (now : ℕ) (h : Hosted) (old new : PartShardState) where
    part_at : (did : PartCall) → StepsPart true counts ends now h old did new → IsAt new.log → IsAt old.log ⊎ Asks (Deleted start) did old.log
    part_at (Visits visit answer unread) p at = inl (same_at old.log new.log p.log at)
    part_at (Produces batch produced) p at = inl (sym (produced_start _ _ old.log new.log batch produced p.log) ∙ at)
    part_at (Looks group looked) p at = inl (same_at old.log new.log (ap (λ (x : PartShardState). x.log) p.1) at)
    part_at (Expires answer) p at = inl (same_at old.log new.log p.log at)
    part_at (Deletes to answer) p at = delete_at _ _ old new to answer p.does at

    part_marked : (did : PartCall) → StepsPart true counts ends now h old did new → IsMarked new.log → IsMarked old.log ⊎ Asks (delete_store Device) did old.log
    part_marked (Visits visit answer unread) p marked = inl (same_marked old.log new.log p.log marked)
    part_marked (Produces batch produced) p marked = inl (produced_marked _ _ old.log new.log batch produced p.log marked)
    part_marked (Looks group looked) p marked = inl (same_marked old.log new.log (ap (λ (x : PartShardState). x.log) p.1) marked)
    part_marked (Expires answer) p marked = inl (same_marked old.log new.log p.log marked)
    part_marked (Deletes to answer) p marked = delete_marked _ _ old new to answer p.does marked

  -- at a power loss
  landed_at : (old : Log) (pending : Option LogWrite) (new : Log) → IsDoneOr old (and_pending old pending) new → new.start ≡ start
      → (old.start ≡ start) ⊎ (pending ≡ Some (Marks start))
  landed_at old pending new (inl is) at = inl (sym (ap (λ (l : Log). l.start) is) ∙ at)
  landed_at old None new (inr is) at = absurd (none_not new is)
  landed_at old (Some (Adds b)) new (inr is) at = inl (ap (λ (l : Log). l.start) (some_same (with_write old (Adds b)) new is) ∙ at)
  landed_at old (Some (Marks n)) new (inr is) at =
      let one : n ≡ start = ap (λ (l : Log). l.start) (some_same (with_write old (Marks n)) new is) ∙ at in
      inr (ap (λ (k : ℕ). Some (Marks k)) one)

  lost_at : (x y : HostedPart) → LandsPart x y → IsAt y.shard.log → IsAt x.shard.log ⊎ IsMarked x.shard.log
  lost_at x y p at = landed_at (log_at x.shard.log) x.shard.log.pending p.log p.log_is (sym (ap (λ (s : PartShardState). s.log.start) p.shard) ∙ at)

  lost_unmarked : (x y : HostedPart) → LandsPart x y → IsMarked y.shard.log → ⊥
  lost_unmarked x y p marked = unmarked y.shard.log (ap (λ (s : PartShardState). s.log.pending) p.shard) marked

-- ---- whole runs

module _ (shard start : ℕ) where
  deletes_to : (answer : DeleteAnswer) (s : Step) (x y : HostedPart) → entry_at shard (parts_of s.before) ≡ Some x → (c : IsCalledOn shard s x y)
      → Asks start answer c.did x.shard.log → DeletesTo shard start answer s
  deletes_to answer s x y was c a = record {
    hosted = c.hosted;
    to = a.to;
    call = c.call ∙ ap (λ (did : PartCall). Some (CallPart shard c.hosted did)) a.is;
    target = entry_holds shard (λ (p : HostedPart). IsToDelete (log_at p.shard.log) a.to start) (parts_of s.before) x was a.target;
  }

  -- how a step may move a log there
  abbrev MovesBy : Step → HostedPart → Type 0
  MovesBy s x = (IsMarkedAt start x × (choice : ℕ) × (s.event ≡ Power choice)) ⊎ DeletesTo shard start (Deleted start) s

  goes_at : (s : Step) (x y : HostedPart) → entry_at shard (parts_of s.before) ≡ Some x → Goes shard s x y → StartsAt start y → StartsAt start x ⊎ MovesBy s x
  goes_at s x y was (inl same) at = inl (subst (StartsAt start) same at)
  goes_at s x y was (inr (inl c)) at = ⊎_elim
      (λ before. inl before)
      (λ (a : Asks start (Deleted start) c.did x.shard.log). inr (inr (deletes_to (Deleted start) s x y was c a)))
      (part_at start (counts_of s.before s.after) (ends_of s.before s.after) c.now c.hosted x.shard y.shard c.did c.step.step at)
  goes_at s x y was (inr (inr lost)) at = ⊎_elim
      (λ before. inl before)
      (λ marked. inr (inl (marked, lost.choice, lost.event)))
      (lost_at start x y lost.lands at)

  goes_marked : (s : Step) (x y : HostedPart) → entry_at shard (parts_of s.before) ≡ Some x → Goes shard s x y → IsMarkedAt start y
      → IsMarkedAt start x ⊎ DeletesTo shard start (delete_store Device) s
  goes_marked s x y was (inl same) marked = inl (subst (IsMarkedAt start) same marked)
  goes_marked s x y was (inr (inl c)) marked = ⊎_elim
      (λ before. inl before)
      (λ (a : Asks start (delete_store Device) c.did x.shard.log). inr (deletes_to (delete_store Device) s x y was c a))
      (part_marked start (counts_of s.before s.after) (ends_of s.before s.after) c.now c.hosted x.shard y.shard c.did c.step.step marked)
  goes_marked s x y was (inr (inr lost)) marked = absurd (lost_unmarked start x y lost.lands marked)

  -- so far, from the end of a run
  abbrev Moved : State → List Step → Type 0
  Moved first steps = HoldsAt shard (StartsAt start) (parts_of first)
      ⊎ ((HoldsAt shard (IsMarkedAt start) (parts_of first) × LosesPower steps) ⊎ AreMovedTo shard start steps)

  loses_here : (s : Step) (steps : List Step) (choice : ℕ) → s.event ≡ Power choice → LosesPower (s ∷ steps)
  loses_here s steps choice is = (choice, contains_front s.event (Power choice) (events_of steps) is)

  loses_later : (s : Step) (steps : List Step) → LosesPower steps → LosesPower (s ∷ steps)
  loses_later s steps l = (l.0, contains_rest s.event (Power l.0) (events_of steps) l.1)

  abbrev Ways : Step → List Step → Type 0
  Ways s after = DeletesTo shard start (Deleted start) s ⊎ (DeletesTo shard start (delete_store Device) s × LosesPower after)

  moved_here : (s : Step) (steps : List Step) → Ways s steps → AreMovedTo shard start (s ∷ steps)
  moved_here s steps d = record { before = []; step = s; after = steps; split = refl; deletes = d }

  moved_later : (s : Step) (steps : List Step) → AreMovedTo shard start steps → AreMovedTo shard start (s ∷ steps)
  moved_later s steps m = record {
    before = s ∷ m.before;
    step = m.step;
    after = m.after;
    split = ap (λ (l : List Step). s ∷ l) m.split;
    deletes = m.deletes;
  }

  by_start : (s : Step) (steps : List Step) (x : HostedPart) → entry_at shard (parts_of s.before) ≡ Some x → StartsAt start x ⊎ MovesBy s x → Moved s.before (s ∷ steps)
  by_start s steps x was (inl at) = inl (entry_holds shard (StartsAt start) (parts_of s.before) x was at)
  by_start s steps x was (inr (inl m)) =
      inr (inl (entry_holds shard (IsMarkedAt start) (parts_of s.before) x was m.0, loses_here s steps m.1 m.2))
  by_start s steps x was (inr (inr d)) = inr (inr (moved_here s steps (inl d)))

  by_mark : (s : Step) (steps : List Step) (x : HostedPart) → entry_at shard (parts_of s.before) ≡ Some x → LosesPower steps
      → IsMarkedAt start x ⊎ DeletesTo shard start (delete_store Device) s → Moved s.before (s ∷ steps)
  by_mark s steps x was lost (inl marked) = inr (inl (entry_holds shard (IsMarkedAt start) (parts_of s.before) x was marked, loses_later s steps lost))
  by_mark s steps x was lost (inr d) = inr (inr (moved_here s steps (inr (d, lost))))

  module _ (conf : ConfigParts) where
    step_moved : (s : Step) (steps : List Step) → IsStepOf conf s → Moved s.after steps → Moved s.before (s ∷ steps)
    step_moved s steps step (inl h) =
        let y = holds_entry shard (StartsAt start) (parts_of s.after) h in
        let x = came conf s step shard y.0 y.1 in
        by_start s steps x.0 x.1 (goes_at s x.0 y.0 x.1 x.2 y.2)
    step_moved s steps step (inr (inl p)) =
        let y = holds_entry shard (IsMarkedAt start) (parts_of s.after) p.0 in
        let x = came conf s step shard y.0 y.1 in
        by_mark s steps x.0 x.1 p.1 (goes_marked s x.0 y.0 x.1 x.2 y.2)
    step_moved s steps step (inr (inr m)) = inr (inr (moved_later s steps m))

    run_moved : (first last : State) (steps : List Step) → IsRun conf first steps last → HoldsAt shard (StartsAt start) (parts_of last) → Moved first steps
    run_moved first last [] run h = inl (subst (λ (x : State). HoldsAt shard (StartsAt start) (parts_of x)) run h)
    run_moved first last (s ∷ steps) run h =
        subst (λ (x : State). Moved x (s ∷ steps)) run.0 (step_moved s steps run.1 (run_moved s.after last steps run.2 h))

module _ (conf : ConfigParts) (first last : State) (steps : List Step) (run : IsRun conf first steps last) where
  deleted : (before after : List Step) (s : Step) → steps ≡ before ++ (s ∷ after) → (shard start : ℕ) (hosted : Hosted) (to : ℤ)
      → s.call ≡ Some (CallPart shard hosted (Deletes to (Deleted start))) → HoldsAt shard (StartsFrom start) (parts_of last)
  deleted before after s split shard start hosted to call =
      let p = run_parts conf first last before (s ∷ after) (subst (λ (l : List Step). IsRun conf first l last) split run) in
      later start shard (parts_of s.after) (parts_of last) (keeps conf s.after last after p.2.2).logs
      (deleted_here conf s p.2.1 shard start hosted to call)

  keeps_all : KeepsDeletes first steps last
  keeps_all = record { deleted = deleted; moved = λ shard start h. run_moved shard start conf first last steps run h }

pub keeps_deletes : (conf : ConfigParts) (first last : State) (steps : List Step) → IsRun conf first steps last → KeepsDeletes first steps last
keeps_deletes conf first last steps run = keeps_all conf first last steps run
