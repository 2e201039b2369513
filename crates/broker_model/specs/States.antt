-- The broker and its disks as the state of a run, and a step of both. This project's own.
-- For example at `power 5` each disk that the broker has gets one loss more, with choice 5, and the broker is the one that these losses
-- stand for. The journal of a log of two batches of 54 bytes ends at 119, and no crash leaves less of its disk than these 119 bytes; so a
-- batch is refused as full only where the disk holds nearly 2^62 bytes. A checkpoint of states may drop what filled theirs.
use Rattle.std.specs.Prelude.{◌≡◌, ◌≤◌, ℕ, List, [], ◌∷◌, ◌++◌, length, Option, false}
use Rattle.session_script.specs.declared.event.Event.{Event}
use Rattle.session_script.specs.declared.event.Event.TheVariants.{Step, Expire, Power}
use Rattle.session_script.specs.declared.event.Outcome.{Outcome}
use Rattle.topic_conf.specs.Configs.{ConfigParts}
use Rattle.broker_model.specs.Hosted.{IsLogName, IsTaken, hosted_of}
use Rattle.broker_model.specs.Shards.{Counts, Ends, ShardCall, calls, hosted_by}
use Rattle.broker_model.specs.Machine.{Machine, Opening}
use Rattle.broker_model.specs.Steps.{StepsTo}
use Rattle.broker_model.specs.Disks.{Disks, OnDisk}

-- The machine, what is known of each disk, and where the journal on each ends. Of the two disks of states the first one has the end of the
-- journal that is live.
pub record State : Type 0 where
  pub machine : Machine
  pub disks : Disks
  pub ends : List ℕ → ℕ

abbrev pub faults_of : State → List ℕ → ℕ
faults_of state name = (state.disks name).faults

-- the count of faults of each disk in two states
abbrev pub counts_of : State → State → Counts
counts_of old new name = (faults_of old name, faults_of new name)

-- where the journal on each disk ends in two states
abbrev pub ends_of : State → State → Ends
ends_of old new name = (old.ends name, new.ends name)

-- of these contents each of a log reaches to where the journal on its disk ends
abbrev pub ReachTo : ConfigParts → (List ℕ → List ℕ) → (List ℕ → ℕ) → Type 0
ReachTo conf contents ends = (name : List ℕ) → IsTaken conf name → IsLogName name → ends name ≤ length (contents name)

-- at a power loss each disk has one loss more, with its choice, and the machine is the opening of these contents. `ends`
-- is where the journals ended: no loss takes away what stands before that in a log.
pub record LosesAll (conf : ConfigParts) (choice : ℕ) (ends : List ℕ → ℕ) (old new : Disks) (machine : Machine) : Type 0 where
  pub contents : List ℕ → List ℕ
  pub losses : (name : List ℕ) → IsTaken conf name → (new name).losses ≡ (old name).losses ++ (choice, contents name) ∷ []
  pub opens : Opening conf contents machine
  pub reach : ReachTo conf contents ends

abbrev pub OnLosses : ConfigParts → Event → (ends : List ℕ → ℕ) → Disks → Disks → Machine → Type 0
OnLosses conf (Power choice) ends old new machine = LosesAll conf choice ends old new machine
OnLosses conf _ ends old new machine = Unit {0}

-- A journal moves its end only where its shard was called, unless it was opened again. That of a log never ends before where it did; that
-- of states may, behind a checkpoint.
abbrev pub OnEnd : List ℕ → Event → Option ShardCall → ℕ → ℕ → Type 0
OnEnd name (Step conn now) call old new = (IsLogName name → old ≤ new) × (calls call name ≡ false → new ≡ old)
OnEnd name (Expire topic part now) call old new = (IsLogName name → old ≤ new) × (calls call name ≡ false → new ≡ old)
OnEnd name (Power choice) call old new = Unit {0}
OnEnd name _ call old new = new ≡ old

-- A step of the broker and its disks. It has the partitions of its configuration, and its members subscribe to the configuration's topics.
pub record IsStep (conf : ConfigParts) (old : State) (event : Event) (call : Option ShardCall) (outcomes : List Outcome) (new : State) : Type 0 where
  pub hosts : hosted_by old.machine.shards.parts ≡ hosted_of conf
  pub topics : old.machine.shards.members.topics ≡ conf.topics
  pub later : (name : List ℕ) → IsTaken conf name → faults_of old name ≤ faults_of new name
  pub machine : StepsTo conf (counts_of old new) (ends_of old new) old.machine event call outcomes new.machine
  pub disks : (name : List ℕ) → IsTaken conf name → OnDisk name event call (old.disks name) (new.disks name)
  pub losses : OnLosses conf event old.ends old.disks new.disks new.machine
  pub ends : (name : List ℕ) → IsTaken conf name → OnEnd name event call (old.ends name) (new.ends name)
