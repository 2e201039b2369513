-- No log loses a batch.
use Rattle.std.proofs.Common.{true, ◌≡◌, ◌≤◌, inl, inr, ⊎_elim, refl, sym, ap, ◌∙◌, subst, arith, ℕ, ℤ, zero, suc, List, [], ◌∷◌, ◌++◌, append_assoc, append-nil, Option, Some, None}
use Rattle.std.specs.List.{AllZip}
use Rattle.session_script.specs.declared.event.Event.{Event}
use Rattle.share_model.specs.Logs.{Batch as LogBatch}
use Rattle.share_model.specs.declared.delete.DeleteAnswer.{DeleteAnswer}
use Rattle.share_model.specs.declared.delete.DeleteAnswer.TheVariants.{Done as Deleted, OutOfRange, Store as delete_store}
use Rattle.share_model.specs.declared.delete.Placed.{Placed}
use Rattle.share_model.specs.declared.fault.StoreFault.TheVariants.{Device, Full}
use Rattle.rec_batch.specs.Placing.{placed}
use Rattle.part_log.specs.Batches.{batch_in}
use Rattle.part_log.specs.Starts.{Log, LogWrite, with_write}
use Rattle.part_log.specs.Starts.LogWrite.{Adds, Marks}
use Rattle.part_log.specs.Logs.{and_pending}
use Rattle.part_log.specs.Shards.{LogShardState, StepsLog, log_at}
use Rattle.share_part.specs.Deleting.{Deletes as DeletesPart, DeletesBelow, DeletesNothing}
use Rattle.share_part.specs.Leaving.{IsDoneOr}
use Rattle.share_part.specs.Shards.{PartShardState, base_in}
use Rattle.topic_conf.specs.Configs.{ConfigParts}
use Rattle.call_fold.specs.declared.part.Produced.{Produced}
use Rattle.call_fold.specs.declared.part.Produced.TheVariants.{Base, Batch, Store}
use Rattle.broker_model.specs.Hosted.{ChangesAt, HoldsAt, Hosted, log_of}
use Rattle.broker_model.specs.Shards.{Counts, HostedPart, PartCall, Shards, ShardCall, StepsHosted, StepsPart, StepsShards, result_of, rose_at, Ends}
use Rattle.broker_model.specs.Shards.ShardCall.{CallForeign, CallPart, CallMembers}
use Rattle.broker_model.specs.Shards.PartCall.{Visits, Produces, Looks, Expires, Deletes}
use Rattle.broker_model.specs.Machine.{LandsPart}
use Rattle.broker_model.specs.Steps.{IsRestart, StepsTo}
use Rattle.broker_model.specs.States.{State, IsStep, counts_of, ends_of}
use Rattle.broker_model.specs.Runs.{Step, IsRun}
use Rattle.broker_model.specs.Keeping.{GoesOnAs, IsIn, KeepsBatches}
use Rattle.broker_model.proofs.Chains.{run_parts}
use Rattle.broker_model.proofs.Acts.{Acts, step_acts, power_or_not}

abbrev Grow : List HostedPart → List HostedPart → Type 0
Grow old new = AllZip GoesOnAs old new

-- a log goes on as another one
abbrev LongerLog : LogShardState → LogShardState → Type 0
LongerLog old new = (more : List LogBatch) × (new.batches ≡ old.batches ++ more) × (old.start ≤ new.start)

abbrev Longer : PartShardState → PartShardState → Type 0
Longer old new = LongerLog old.log new.log

-- with no new batch
no_more : (old new : LogShardState) → new.batches ≡ old.batches → old.start ≤ new.start → LongerLog old new
no_more old new is later = ([], is ∙ sym (append-nil old.batches), later)

as_it_was : (old new : LogShardState) → new ≡ old → LongerLog old new
as_it_was old new is = no_more old new (ap (λ (s : LogShardState). s.batches) is)
    (let starts : new.start ≡ old.start = ap (λ (s : LogShardState). s.start) is in omega (arith, starts))

same : (old new : HostedPart) → new ≡ old → GoesOnAs old new
same old new is = record {
  more = [];
  hosted = ap (λ (p : HostedPart). p.hosted) is;
  batches = ap (λ (p : HostedPart). p.shard.log.batches) is ∙ sym (append-nil old.shard.log.batches);
  start = (let starts : new.shard.log.start ≡ old.shard.log.start = ap (λ (p : HostedPart). p.shard.log.start) is in omega (arith, starts));
}

all_same : (parts : List HostedPart) → Grow parts parts
all_same [] = tt
all_same (p ∷ parts) = (same p p refl, all_same parts)

all_as : (old new : List HostedPart) → new ≡ old → Grow old new
all_as old new is = subst (λ (l : List HostedPart). Grow old l) (sym is) (all_same old)

then_one : (a b c : HostedPart) → GoesOnAs a b → GoesOnAs b c → GoesOnAs a c
then_one a b c p q = record {
  more = p.more ++ q.more;
  hosted = q.hosted ∙ p.hosted;
  batches = q.batches ∙ ap (λ (l : List LogBatch). l ++ q.more) p.batches ∙ append_assoc a.shard.log.batches p.more q.more;
  start = (let first = p.start in let second = q.start in omega (arith, first, second));
}

then_all : (xs ys zs : List HostedPart) → Grow xs ys → Grow ys zs → Grow xs zs
then_all [] [] zs p q = q
then_all [] (y ∷ ys) zs p q = absurd p
then_all (x ∷ xs) [] zs p q = absurd p
then_all (x ∷ xs) (y ∷ ys) [] p q = absurd q
then_all (x ∷ xs) (y ∷ ys) (z ∷ zs) p q = (then_one x y z p.0 q.0, then_all xs ys zs p.1 q.1)

-- ---- a step

log_grows : (rose : Type 0) (end : ℕ) (old new : LogShardState) (batch : List ℕ) (produced : Produced)
    → StepsLog rose end old batch (base_in (result_of produced)) new → LongerLog old new
log_grows rose end old new batch (Base at) p = (_, p.batches, (let starts = p.start in omega (arith, starts)))
log_grows rose end old new batch (Batch fault) p = as_it_was old new p.1
log_grows rose end old new batch (Store Device) p = no_more old new p.1.same (let starts = p.1.start in omega (arith, starts))
log_grows rose end old new batch (Store (Full at)) p = as_it_was old new p.1

delete_grows : (rose : Type 0) (end : ℕ) (old new : PartShardState) (to : ℤ) (answer : DeleteAnswer) → DeletesPart rose end old to answer new → Longer old new
delete_grows rose end old new to (OutOfRange at) p = as_it_was old.log new.log p.2
delete_grows rose end old new to (Deleted start) p = ⊎_elim
    (λ (d : DeletesNothing old p.0 start new). as_it_was old.log new.log d.log)
    (λ (d : DeletesBelow end old p.0 start new). no_more old.log new.log d.log.batches
    (let above = d.log.allowed.above in let is = d.log.start_is in omega (arith, above, is))) p.2
delete_grows rose end old new to (delete_store Device) p = no_more old.log new.log p.2.1.batches
    (let starts = p.2.1.start_is in omega (arith, starts))
delete_grows rose end old new to (delete_store (Full at)) p = as_it_was old.log new.log p.2.0

log_same : (old new : PartShardState) → new.log ≡ old.log → Longer old new
log_same old new is = as_it_was old.log new.log is

module _ (counts : Counts) (ends : Ends) where
  pub part_grows : (now : ℕ) (h : Hosted) (old new : PartShardState) (did : PartCall) → StepsPart true counts ends now h old did new → Longer old new
  part_grows now h old new (Visits visit answer unread) p = log_same old new p.log
  part_grows now h old new (Produces batch produced) p = log_grows _ _ old.log new.log batch produced p.log
  part_grows now h old new (Looks group looked) p = log_same old new (ap (λ (s : PartShardState). s.log) p.1)
  part_grows now h old new (Expires answer) p = log_same old new p.log
  part_grows now h old new (Deletes to answer) p = delete_grows _ _ old new to answer p.does

  changed_grows : (shard now : ℕ) (hosted : Hosted) (did : PartCall) (old new : List HostedPart)
      → ChangesAt shard (StepsHosted counts ends now hosted did) old new → Grow old new
  changed_grows shard now hosted did [] new c = absurd c
  changed_grows zero now hosted did (x ∷ xs) [] c = absurd c
  changed_grows zero now hosted did (x ∷ xs) (y ∷ ys) c =
      let g = part_grows now hosted x.shard y.shard did c.0.step in
      (record { more = g.0; hosted = c.0.is ∙ sym c.0.was; batches = g.1; start = g.2 }, all_as xs ys c.1)
  changed_grows (suc n) now hosted did (x ∷ xs) [] c = absurd c
  changed_grows (suc n) now hosted did (x ∷ xs) (y ∷ ys) c = (same x y c.0, changed_grows n now hosted did xs ys c.1)

  did_grows : (now : ℕ) (old new : Shards) (did : ShardCall) → StepsShards counts ends now old did new → Grow old.parts new.parts
  did_grows now old new (CallForeign op answer fault) p = all_as old.parts new.parts p.1
  did_grows now old new (CallPart shard hosted did) p = changed_grows shard now hosted did old.parts new.parts p.0
  did_grows now old new (CallMembers did) p = all_as old.parts new.parts p.1

  acts_grow : (old new : Shards) (call : Option ShardCall) → Acts counts ends old new call → Grow old.parts new.parts
  acts_grow old new call (inl quiet) = all_as old.parts new.parts (ap (λ (s : Shards). s.parts) quiet.same)
  acts_grow old new call (inr d) = did_grows d.now old new d.did d.step

some_is : {A : Type 0} (a b : A) → ◌≡◌ {A = Option A} (Some a) (Some b) → a ≡ b
some_is a b e = cc

landed : (log : Log) (pending : Option LogWrite) (new : Log) → IsDoneOr log (and_pending log pending) new
    → (more : List LogBatch) × (new.batches ≡ log.batches ++ more)
landed log pending new (inl is) = ([], ap (λ (l : Log). l.batches) is ∙ sym (append-nil log.batches))
landed log None new (inr is) = absurd (let clash : ⊥ = cc in clash)
landed log (Some (Adds b)) new (inr is) = (b ∷ [], ap (λ (l : Log). l.batches) (sym (some_is (with_write log (Adds b)) new is)))
landed log (Some (Marks n)) new (inr is) = ([], ap (λ (l : Log). l.batches) (sym (some_is (with_write log (Marks n)) new is)) ∙ sym (append-nil log.batches))

pub lands_one : (x y : HostedPart) → LandsPart x y → GoesOnAs x y
lands_one x y p =
    let g = landed (log_at x.shard.log) x.shard.log.pending p.log p.log_is in
    record {
      more = g.0;
      hosted = p.hosted;
      batches = ap (λ (s : PartShardState). s.log.batches) p.shard ∙ g.1;
      start = (let is : y.shard.log.start ≡ p.log.start = ap (λ (s : PartShardState). s.log.start) p.shard in let later = p.later in omega (arith, is, later));
    }

lands_grow : (old new : List HostedPart) → AllZip LandsPart old new → Grow old new
lands_grow [] [] p = tt
lands_grow [] (y ∷ ys) p = absurd p
lands_grow (x ∷ xs) [] p = absurd p
lands_grow (x ∷ xs) (y ∷ ys) p = (lands_one x y p.0, lands_grow xs ys p.1)

abbrev parts_of : State → List HostedPart
parts_of s = s.machine.shards.parts

module _ (conf : ConfigParts) where
  step_grows : (s : Step) → IsStep conf s.before s.event s.call s.outcomes s.after → Grow (parts_of s.before) (parts_of s.after)
  step_grows s step = ⊎_elim
      (λ free. acts_grow (counts_of s.before s.after) (ends_of s.before s.after) s.before.machine.shards s.after.machine.shards s.call
      (step_acts (counts_of s.before s.after) (ends_of s.before s.after) conf s.before.machine s.after.machine s.call s.outcomes s.event free step.machine))
      (λ p.
      let restart : IsRestart s.before.machine s.call s.outcomes s.after.machine =
      subst (λ (e : Event). StepsTo conf (counts_of s.before s.after) (ends_of s.before s.after) s.before.machine e s.call s.outcomes s.after.machine) p.1 step.machine in
      lands_grow (parts_of s.before) (parts_of s.after) restart.lands.parts)
      (power_or_not s.event)

  run_grows : (first last : State) (steps : List Step) → IsRun conf first steps last → Grow (parts_of first) (parts_of last)
  run_grows first last [] run = all_as (parts_of first) (parts_of last) (ap parts_of run)
  run_grows first last (s ∷ steps) run =
      subst (λ (x : State). Grow (parts_of x) (parts_of last)) run.0
      (then_all (parts_of s.before) (parts_of s.after) (parts_of last) (step_grows s run.1) (run_grows s.after last steps run.2))

-- ---- a batch that was answered with a base

abbrev Has : LogBatch → HostedPart → Type 0
Has b p = IsIn b p.shard.log.batches

stored_in : (rose : Type 0) (end : ℕ) (old new : LogShardState) (batch : List ℕ) (at : Placed) → StepsLog rose end old batch (base_in (result_of (Base at))) new
    → IsIn (batch_in (placed at.base batch)) new.batches
stored_in rose end old new batch at p =
    subst (λ (n : ℕ). IsIn (batch_in (placed n batch)) new.batches) (sym p.base_is) (old.batches, [], p.batches)

module _ (counts : Counts) (ends : Ends) (hosted : Hosted) (batch : List ℕ) (at : Placed) where
  abbrev asked : PartCall
  asked = Produces batch (Base at)

  has_stored : (shard now : ℕ) (old new : List HostedPart) → ChangesAt shard (StepsHosted counts ends now hosted asked) old new
      → HoldsAt shard (Has (batch_in (placed at.base batch))) new
  has_stored shard now [] new c = absurd c
  has_stored zero now (x ∷ xs) [] c = absurd c
  has_stored zero now (x ∷ xs) (y ∷ ys) c = stored_in (rose_at counts (log_of hosted)) (ends (log_of hosted)).0 x.shard.log y.shard.log batch at c.0.step.log
  has_stored (suc n) now (x ∷ xs) [] c = absurd c
  has_stored (suc n) now (x ∷ xs) (y ∷ ys) c = has_stored n now xs ys c.1

  same_call : (did : ShardCall) (shard : ℕ) (call : Option ShardCall) → call ≡ Some did → call ≡ Some (CallPart shard hosted asked)
      → did ≡ CallPart shard hosted asked
  same_call did shard call is also_is = some_is did (CallPart shard hosted asked) (sym is ∙ also_is)

  some_none : (shard : ℕ) (call : Option ShardCall) → call ≡ Some (CallPart shard hosted asked) → call ≡ None → ⊥
  some_none shard call is none = cc

  acts_store : (shard : ℕ) (old new : Shards) (call : Option ShardCall) → call ≡ Some (CallPart shard hosted asked) → Acts counts ends old new call
      → HoldsAt shard (Has (batch_in (placed at.base batch))) new.parts
  acts_store shard old new call is (inl quiet) = absurd (some_none shard call is quiet.none)
  acts_store shard old new call is (inr d) =
      has_stored shard d.now old.parts new.parts (subst (λ (c : ShardCall). StepsShards counts ends d.now old c new) (same_call d.did shard call d.is is) d.step).0

in_more : (b : LogBatch) (old more new : List LogBatch) → new ≡ old ++ more → IsIn b old → IsIn b new
in_more b old more new is p = (p.0, p.1 ++ more, is ∙ ap (λ (l : List LogBatch). l ++ more) p.2 ∙ append_assoc p.0 (b ∷ p.1) more)

has_more : (b : LogBatch) (shard : ℕ) (old new : List HostedPart) → Grow old new → HoldsAt shard (Has b) old → HoldsAt shard (Has b) new
has_more b shard [] new g h = absurd h
has_more b zero (x ∷ xs) [] g h = absurd g
has_more b zero (x ∷ xs) (y ∷ ys) g h = in_more b x.shard.log.batches g.0.more y.shard.log.batches g.0.batches h
has_more b (suc n) (x ∷ xs) [] g h = absurd g
has_more b (suc n) (x ∷ xs) (y ∷ ys) g h = has_more b n xs ys g.1 h

module _ (conf : ConfigParts) (first last : State) (steps : List Step) (run : IsRun conf first steps last) where
  answered : (before after : List Step) (s : Step) → steps ≡ before ++ (s ∷ after) → (shard : ℕ) (at : Placed) (hosted : Hosted) (batch : List ℕ)
      → s.call ≡ Some (CallPart shard hosted (Produces batch (Base at))) → HoldsAt shard (Has (batch_in (placed at.base batch))) (parts_of last)
  answered before after s split shard at hosted batch is =
      let p = run_parts conf first last before (s ∷ after) (subst (λ (l : List Step). IsRun conf first l last) split run) in
      let step = p.2.1 in
      has_more (batch_in (placed at.base batch)) shard (parts_of s.after) (parts_of last) (run_grows conf s.after last after p.2.2)
      (⊎_elim
      (λ free. acts_store (counts_of s.before s.after) (ends_of s.before s.after) hosted batch at shard s.before.machine.shards s.after.machine.shards s.call is
      (step_acts (counts_of s.before s.after) (ends_of s.before s.after) conf s.before.machine s.after.machine s.call s.outcomes s.event free step.machine))
      (λ q.
      let restart : IsRestart s.before.machine s.call s.outcomes s.after.machine =
      subst (λ (e : Event). StepsTo conf (counts_of s.before s.after) (ends_of s.before s.after) s.before.machine e s.call s.outcomes s.after.machine) q.1 step.machine in
      absurd (some_none (counts_of s.before s.after) (ends_of s.before s.after) hosted batch at shard s.call is restart.none))
      (power_or_not s.event))

  keeps_batches : KeepsBatches first steps last
  keeps_batches = record { logs = run_grows conf first last steps run; answered = answered }

pub keeps : (conf : ConfigParts) (first last : State) (steps : List Step) → IsRun conf first steps last → KeepsBatches first steps last
keeps conf first last steps run = keeps_batches conf first last steps run
