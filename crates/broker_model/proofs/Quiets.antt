-- A failed call of a log's disk is told: by the calls on a partition in memory, and in each step of the machine.
use Rattle.std.proofs.Common.{◌≡◌, ◌≢◌, ◌&&◌, inl, inr, ⊎_elim, refl, sym, ap, ◌∙◌, subst, arith, cond, ℕ, ℤ, List, [], ◌∷◌, Bool, true, false, Option, Some, None, Result, Ok, Err}
use Rattle.std.proofs.lemmas.Bool.{cases_Bool, true≢false}
use Rattle.std.specs.List.{AllByRecursion}
use Rattle.edge_io.specs.Disk.{IsTold}
use Rattle.edge_io.specs.Views.{DiskView}
use Rattle.topic_conf.specs.Configs.{ConfigParts}
use Rattle.share_model.specs.declared.delete.DeleteAnswer.{DeleteAnswer}
use Rattle.share_model.specs.declared.delete.DeleteAnswer.TheVariants.{Done as Deleted, OutOfRange, Store as delete_store}
use Rattle.share_model.specs.declared.delete.Placed.{Placed}
use Rattle.share_model.specs.declared.fault.LogFault.{LogFault}
use Rattle.share_model.specs.declared.fault.LogFault.TheVariants.{Batch as BadBatch, Store as Unstored}
use Rattle.share_model.specs.declared.fault.StoreFault.TheVariants.{Device, Full}
use Rattle.share_model.specs.declared.visit.ThenOutcome.{ThenOutcome}
use Rattle.share_model.specs.declared.visit.ThenOutcome.TheVariants.{Store as then_store}
use Rattle.share_model.specs.declared.visit.Visit.{Visit}
use Rattle.share_model.specs.declared.visit.VisitAnswer.{VisitAnswer}
use Rattle.part_log.specs.Logs.{LogParts}
use Rattle.share_part.specs.Hosting.{PartConfParts}
use Rattle.share_part.specs.Once.{ReadsBatches}
use Rattle.share_part.specs.Shards.{PartParts, PartShardState}
use Rattle.call_fold.specs.declared.part.Produced.{Produced}
use Rattle.call_fold.specs.declared.part.Produced.TheVariants.{Base, Batch, Store}
use Rattle.broker_model.specs.Acting.{StepsOn, TakesStep}
use Rattle.broker_model.specs.Disks.{Facts}
use Rattle.broker_model.specs.Hosted.{Hosted, IsLogName, IsTaken, first_of, foreign_store, has_disk, log_of, log_store, same_name, second_of, state_a, state_b, state_store}
use Rattle.broker_model.specs.Hosted.StoreDisks.{OnOne}
use Rattle.broker_model.specs.Laws.{IsQuiet, TellsFaults}
use Rattle.broker_model.specs.Runs.{Step, IsRun}
use Rattle.broker_model.specs.States.{State}
use Rattle.broker_model.specs.Shards.{PartCall, ShardCall, calls, failures_in, faults_met, log_faults_met, part_calls, reads_log, result_of, store_fault_of_then}
use Rattle.broker_model.specs.Shards.PartCall.{Visits, Produces, Looks, Expires, Deletes}
use Rattle.broker_model.specs.Shards.ShardCall.{CallForeign, CallPart, CallMembers}
use Rattle.broker_model.proofs.Goes.{IsStepOf, called}
use Rattle.broker_model.proofs.Names.{first_not, second_not, state_a_not, state_b_not}
use Rattle.broker_model.proofs.Stores.{both_of, is_same, one_of, same_self, two_disks}
use Rattle.broker_model.proofs.Touches.{disk_apart}
use Rattle.broker_model.proofs.Uses.{Kind, kind_of}

-- ---- calls on a partition in memory

-- a fetch of which a batch couldn't be read tells a device fault
unread_told : (o : ThenOutcome) → o ≡ then_store Device → faults_met (store_fault_of_then o) ≡ 0 → ⊥
unread_told o is none = let bad : 1 ≡ 0 = sym (ap (λ x. faults_met (store_fault_of_then x)) is) ∙ none in omega (arith, bad)

-- a batch that tells no device fault wasn't refused for one
not_device : (produced : Produced) → log_faults_met (Produces [] produced) ≡ 0 → result_of produced ≢ Err (Unstored Device)
not_device (Base base) none e = let bad : ◌≡◌ {A = Result Placed LogFault} (Ok base) (Err (Unstored Device)) = e in cc
not_device (Batch fault) none e = let bad : ◌≡◌ {A = Result Placed LogFault} (Err (BadBatch fault)) (Err (Unstored Device)) = e in cc
not_device (Store Device) none e = omega (arith, none)
not_device (Store (Full end)) none e = let bad : ◌≡◌ {A = Result Placed LogFault} (Err (Unstored (Full end))) (Err (Unstored Device)) = e in cc

-- nor does a delete meet one
undeleted : (answer : DeleteAnswer) (to : ℤ) → log_faults_met (Deletes to answer) ≡ 0 → answer ≢ delete_store Device
undeleted (Deleted start) to none e = cc
undeleted (OutOfRange end) to none e = cc
undeleted (delete_store Device) to none e = omega (arith, none)
undeleted (delete_store (Full end)) to none e = cc

module _ {D W : Type 0} (seen : D → DiskView) (old new : PartParts D W) where
  -- no call of the log's disk failed, where the call tells none
  abbrev IsQuietOn : PartCall → Type 0
  IsQuietOn did = log_faults_met did ≡ 0 → IsTold (seen old.log.journal.disk).content
      → (seen new.log.journal.disk).faults ≡ (seen old.log.journal.disk).faults

  module _ (conf : PartConfParts) (now : ℕ) (s after : PartShardState) where
    visit_quiet : (visit : Visit) (answer : VisitAnswer) (unread : Bool) → ReadsBatches seen (unread ≡ true) old.log new.log
        → TakesStep seen conf old new now s (Visits visit answer unread) after → IsQuietOn (Visits visit answer unread)
    visit_quiet visit answer false reads step none told = reads.calls.quiet (λ e. true≢false (sym e)) told
    visit_quiet visit answer true reads step none told = absurd (unread_told answer.then step.does.empty.outcome_is none)

    pub steps_visit : (visit : Visit) (answer : VisitAnswer) (unread : Bool) → ReadsBatches seen (unread ≡ true) old.log new.log
        → TakesStep seen conf old new now s (Visits visit answer unread) after → StepsOn seen conf old new now s (Visits visit answer unread) after
    steps_visit visit answer unread reads step = record { step = step; quiet = visit_quiet visit answer unread reads step }

    pub steps_batch : (batch : List ℕ) (produced : Produced)
        → (result_of produced ≢ Err (Unstored Device) → IsTold (seen old.log.journal.disk).content
        → (seen new.log.journal.disk).faults ≡ (seen old.log.journal.disk).faults)
        → TakesStep seen conf old new now s (Produces batch produced) after → StepsOn seen conf old new now s (Produces batch produced) after
    steps_batch batch produced quiet step = record { step = step; quiet = λ none. quiet (not_device produced none) }

    pub steps_delete : (to : ℤ) (answer : DeleteAnswer)
        → (answer ≢ delete_store Device → IsTold (seen old.log.journal.disk).content
        → (seen new.log.journal.disk).faults ≡ (seen old.log.journal.disk).faults)
        → TakesStep seen conf old new now s (Deletes to answer) after → StepsOn seen conf old new now s (Deletes to answer) after
    steps_delete to answer quiet step = record { step = step; quiet = λ none. quiet (undeleted answer to none) }

    -- a call that leaves the log as it is
    pub steps_still : (did : PartCall) → new.log ≡ old.log → TakesStep seen conf old new now s did after → StepsOn seen conf old new now s did after
    steps_still did same step = record { step = step; quiet = λ none told. ap (λ (l : LogParts D). (seen l.journal.disk).faults) same }

-- ---- steps of the machine

module _ (conf : ConfigParts) (s : Step) (step : IsStepOf conf s) (name : List ℕ) (taken : IsTaken conf name) (log : IsLogName name) where
  not_states : (h : Hosted) → has_disk (state_store h) name ≡ true → ⊥
  not_states h has = ⊎_elim (λ e. first_not h (subst IsLogName e log)) (λ e. second_not h (subst IsLogName e log))
      (two_disks (first_of h) (second_of h) name has)

  not_foreign : has_disk foreign_store name ≡ true → ⊥
  not_foreign has = ⊎_elim (λ e. state_a_not (subst IsLogName e log)) (λ e. state_b_not (subst IsLogName e log)) (two_disks state_a state_b name has)

  -- a call that may use the disk is one on the partition whose log it has
  is_its : (h : Hosted) (did : PartCall) → part_calls h did name ≡ true → name ≡ log_of h
  is_its h (Visits visit answer unread) has = ⊎_elim
      (λ reads. is_same name (log_of h) (both_of (reads_log visit.then) (same_name name (log_of h)) reads).1)
      (λ states. absurd (not_states h states))
      (one_of (reads_log visit.then && has_disk (log_store h) name) (has_disk (state_store h) name) has)
  is_its h (Produces batch produced) has = is_same name (log_of h) has
  is_its h (Looks group looked) has = absurd (true≢false (sym has))
  is_its h (Expires answer) has = absurd (not_states h has)
  is_its h (Deletes to answer) has = is_same name (log_of h) has

  -- what fails on it in the call is what fails of the log
  log_fails : (h : Hosted) (shard : ℕ) (did : PartCall) → name ≡ log_of h → failures_in (OnOne name) (Some (CallPart shard h did)) ≡ 0
      → log_faults_met did ≡ 0
  log_fails h shard did is none =
      let same : same_name name (log_of h) ≡ true = subst (λ (n : List ℕ). same_name n (log_of h) ≡ true) (sym is) (same_self (log_of h)) in
      sym (ap (λ (b : Bool). cond b (log_faults_met did) 0) same) ∙ none

  did_quiet : (did : ShardCall) → s.call ≡ Some did → calls (Some did) name ≡ true → failures_in (OnOne name) (Some did) ≡ 0 → IsQuiet name s
  did_quiet (CallForeign op answer fault) is has none = absurd (not_foreign has)
  did_quiet (CallPart shard h did) is has none =
      let its : name ≡ log_of h = is_its h did has in
      let c = called conf s step shard h did is in
      subst (λ (n : List ℕ). IsQuiet n s) (sym its) (c.step.quiet (log_fails h shard did its none))
  did_quiet (CallMembers did) is has none = absurd (true≢false (sym has))

  call_quiet : (call : Option ShardCall) → s.call ≡ call → calls call name ≡ true → failures_in (OnOne name) call ≡ 0 → IsQuiet name s
  call_quiet None is has none = absurd (true≢false (sym has))
  call_quiet (Some did) is has none = did_quiet did is has none

  by_kind : Kind name s.event (s.before.disks name) (s.after.disks name) → failures_in (OnOne name) s.call ≡ 0 → IsQuiet name s
  by_kind (inl used) none = ⊎_elim
      (λ has. call_quiet s.call refl has none)
      (λ away. ap (λ (f : Facts). f.faults) (disk_apart name s.event s.call (s.before.disks name) (s.after.disks name) used.powered used.unarmed away
      (step.disks name taken)))
      (cases_Bool (calls s.call name))
  by_kind (inr (inl armed)) none = ap (λ (f : Facts). f.faults) armed.armed
  by_kind (inr (inr lost)) none = lost.lost.quiet

  tells : TellsFaults name s
  tells none = by_kind (kind_of name s.call (s.before.disks name) (s.after.disks name) s.event (step.disks name taken)) none

pub all_told : (conf : ConfigParts) (name : List ℕ) → IsTaken conf name → IsLogName name → (first last : State) (steps : List Step)
    → IsRun conf first steps last → AllByRecursion (TellsFaults name) steps
all_told conf name taken log first last [] run = tt
all_told conf name taken log first last (s ∷ steps) run =
    (tells conf s run.1 name taken log, all_told conf name taken log s.after last steps run.2)
