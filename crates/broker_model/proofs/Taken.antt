-- An acknowledgement of what its member holds is refused by the store alone.
use Rattle.std.proofs.Common.{◌≡◌, ◌≤◌, inl, inr, refl, ap, ◌∙◌, arith, ℕ, List, [], ◌∷◌}
use Rattle.std.specs.List.{AllByRecursion}
use Rattle.edge_io.specs.Causes.{Rose}
use Rattle.ack_ranges.proofs.Faults.{no_fault}
use Rattle.share_model.specs.declared.fault.StoreFault.TheVariants.{Device, Full}
use Rattle.share_model.specs.declared.visit.AckOutcome.{AckOutcome}
use Rattle.share_model.specs.declared.visit.AckOutcome.TheVariants.{Done, Malformed, NotHeld, Store}
use Rattle.share_model.specs.declared.visit.Visit.{Visit}
use Rattle.share_model.specs.declared.visit.VisitAnswer.{VisitAnswer}
use Rattle.share_part.specs.Acknowledging.{Acknowledges, AreTheirs}
use Rattle.share_part.specs.Shards.{PartShardState}
use Rattle.topic_conf.specs.Configs.{ConfigParts}
use Rattle.broker_model.specs.Hosted.{Hosted, first_of, state_store}
use Rattle.broker_model.specs.Shards.{HostedPart, faults_before, faults_behind}
use Rattle.broker_model.specs.Shards.PartCall.{Visits}
use Rattle.broker_model.specs.Refusals.{IsDoneOrUnstored, TakesWhatIsHeld}
use Rattle.broker_model.specs.Runs.{Step, IsRun}
use Rattle.broker_model.specs.States.{State, counts_of}
use Rattle.broker_model.proofs.Goes.{IsStepOf, called, parts_of}
use Rattle.broker_model.proofs.Lists.{entry_holds}

rose_later : (a b c : ℕ) → Rose a b → b ≤ c → Rose a c
rose_later a b c rose le = omega (arith, rose, le)

module _ (s : Step) (hosted : Hosted) (p : HostedPart) (visit : Visit) (answer : VisitAnswer) (theirs : AreTheirs p.shard visit) where
  by_answer : (counted : ℕ) (b : PartShardState) (ack : AckOutcome) → answer.ack ≡ ack → counted ≤ faults_behind (counts_of s.before s.after) (state_store hosted)
      → Acknowledges hosted.conf (Rose (faults_before (counts_of s.before s.after) (state_store hosted)) counted) (s.before.ends (first_of hosted)) p.shard visit b ack
      → IsDoneOrUnstored s hosted p visit answer
  by_answer counted b Done told le does = inl told
  by_answer counted b (Malformed fault) told le does = absurd (no_fault visit.acks fault does.0 theirs.0)
  by_answer counted b (NotHeld offset) told le does = absurd (does.1.missing (theirs.1 offset does.1.named))
  by_answer counted b (Store Device) told le does =
      inr (inl (told, rose_later (faults_before (counts_of s.before s.after) (state_store hosted)) counted (faults_behind (counts_of s.before s.after) (state_store hosted)) does.1.1 le))
  by_answer counted b (Store (Full at)) told le does =
      inr (inr (told ∙ ap (λ (e : ℕ). Store (Full e)) does.1.1, does.1.3))

step_takes : (conf : ConfigParts) (s : Step) → IsStepOf conf s → TakesWhatIsHeld s
step_takes conf s step shard hosted visit answer unread call =
    let c = called conf s step shard hosted (Visits visit answer unread) call in
    let p = c.step.step in
    entry_holds shard (λ (q : HostedPart). AreTheirs q.shard visit → IsDoneOrUnstored s hosted q visit answer) (parts_of s.before) c.old c.was
    (λ theirs. by_answer s hosted c.old visit answer theirs p.counted p.between answer.ack refl p.counts.1 p.acks.does)

pub all_taken : (conf : ConfigParts) (first last : State) (steps : List Step) → IsRun conf first steps last → AllByRecursion TakesWhatIsHeld steps
all_taken conf first last [] run = tt
all_taken conf first last (s ∷ steps) run = (step_takes conf s run.1, all_taken conf s.after last steps run.2)
