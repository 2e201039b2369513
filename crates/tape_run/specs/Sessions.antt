-- The run of the broker that the session of a recording is. This project's own.
-- Worked example: where links 0 and 1 each have one step on `orders` 0, whose tape has the step of link 1 first, the session's run has four steps
-- of no shard, the opens and the bytes, and then those of link 1 and of link 0.
use Rattle.std.specs.Prelude.{◌≡◌, ◌==◌, ◌++◌, ◌∷◌, [], ℕ, Bool, true, false, List, map, slice_get, Some, if◌then◌else◌}
use Rattle.session_script.specs.declared.event.Event.{Event}
use Rattle.session_script.specs.declared.event.Event.TheVariants.{Open, Bytes, Close, Step as StepOf, Expire, Tick, Arm, Power}
use Rattle.session_script.specs.declared.event.Outcome.{Outcome}
use Rattle.share_model.specs.declared.visit.ShardId.{ShardId}
use Rattle.share_model.specs.declared.visit.ShardId.TheVariants.{Part as OfPart, Members, Foreign}
use Rattle.share_record.specs.declared.tape.LinkTape.{LinkTape}
use Rattle.share_record.specs.declared.tape.ShardTape.{ShardTape}
use Rattle.topic_conf.specs.Configs.{ConfigParts}
use Rattle.broker_model.specs.Runs.{IsRun, Step, calls_made, events_of}
use Rattle.broker_model.specs.Shards.{ShardCall}
use Rattle.broker_model.specs.States.{State}
use Rattle.tape_run.specs.Recordings.{AreOfLink, Entry, behind, history_of, shard_called, shard_in, stands}

-- what a step tells of this connection's own
abbrev pub told_in : ℕ → Event → List Outcome → List Outcome
told_in id (StepOf conn now) outcomes = if conn == id then outcomes else []
told_in id (Open conn) outcomes = []
told_in id (Bytes conn bytes) outcomes = []
told_in id (Close conn) outcomes = []
told_in id (Expire topic part now) outcomes = []
told_in id (Tick now) outcomes = []
told_in id (Arm disk after mode) outcomes = []
told_in id (Power choice) outcomes = []

-- what the steps of this connection tell, in order
abbrev pub told_to : ℕ → List Step → List Outcome
told_to id [] = []
told_to id (step ∷ steps) = told_in id step.event step.outcomes ++ told_to id steps

-- whether both are one shard
abbrev pub same_shard : ShardId → ShardId → Bool
same_shard (OfPart number) (OfPart other) = number == other
same_shard (OfPart number) Members = false
same_shard (OfPart number) Foreign = false
same_shard Members (OfPart other) = false
same_shard Members Members = true
same_shard Members Foreign = false
same_shard Foreign (OfPart other) = false
same_shard Foreign Members = false
same_shard Foreign Foreign = true

-- those of these calls that are on this shard
abbrev pub calls_on : ShardId → List ShardCall → List ShardCall
calls_on shard [] = []
calls_on shard (call ∷ calls) = if same_shard (shard_called call) shard then call ∷ calls_on shard calls else calls_on shard calls

-- The session is a run from there: no count of faults rises in it, each link has the replies and the cause of its tape, and each shard does the calls
-- of its history, with their answers, and ends as that leaves it.
pub record IsSession (conf : ConfigParts) (first : State) (tapes : List ShardTape) (histories : List (List Entry)) (links : List LinkTape)
    (events : List Event) : Type 0 where
  pub steps : List Step
  pub last : State
  pub run : IsRun conf first steps last
  pub events_are : events_of steps ≡ events
  pub quiet : last.disks ≡ first.disks
  pub links_are : (id : ℕ) (link : LinkTape) → slice_get links id ≡ Some link → AreOfLink link (told_to id steps)
  pub calls_are : (number : ℕ) (tape : ShardTape) → slice_get tapes number ≡ Some tape
      → calls_on tape.shard (calls_made steps) ≡ map (λ (entry : Entry). entry.call) (history_of histories number)
  pub shards_are : (number : ℕ) (tape : ShardTape) → slice_get tapes number ≡ Some tape
      → shard_in tape.shard last.machine.shards ≡ shard_in tape.shard (behind (stands first) (history_of histories number)).shards
