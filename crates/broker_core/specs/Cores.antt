-- How a broker in memory and on its disks stands for the machine. This project's own.
-- For example one that was just started stands for the opening of its disks' contents, to which nobody has connected.
use Rattle.std.specs.Prelude.{◌≡◌, ◌⊎◌, ◌≤◌, ◌^◌, ◌-◌, ◌∷◌, ◌++◌, ℕ, List, [], length, if◌then◌else◌}
use Rattle.std.specs.List.{AllByRecursion}
use Rattle.edge_io.specs.declared.fault.FaultMode.{FaultMode}
use Rattle.std.specs.declared.option.Option.{Option}
use Rattle.session_script.specs.declared.event.Event.{Event}
use Rattle.session_script.specs.declared.event.Event.TheVariants.{Open, Bytes, Close, Step, Expire, Tick, Arm, Power}
use Rattle.session_script.specs.declared.event.Outcome.{Outcome}
use Rattle.topic_conf.specs.Configs.{ConfigParts}
use Rattle.conn_core.specs.Conns.{ConnParts}
use Rattle.broker_model.specs.Hosted.{IsLogName, IsOneOf, same_name, state_a, state_b}
use Rattle.broker_model.specs.Shards.{Counts, Ends, Shards, ShardCall}
use Rattle.broker_model.specs.Machine.{Machine, OpensPart, StandForStates, LandAll}
use Rattle.broker_model.specs.Disks.{IsRestarted, with_arm}
use Rattle.broker_model.specs.Steps.{StepsTo}
use Rattle.broker_model.specs.States.{State, IsStep}
use Rattle.broker_hosts.specs.Hosts.{HostsParts, AreCarried, LogsReach, StandStill, all_names, disks_in, ends_in, facts_in, hosted_slots, state_over}
use Rattle.broker_core.specs.Calls.{LogsLater, counts_in}
use Rattle.edge_io.specs.Views.{DiskView}

-- moments are at most 2^62 milliseconds
abbrev pub HasMoment : Event → Type 0
HasMoment (Open conn) = Unit {0}
HasMoment (Bytes conn bytes) = Unit {0}
HasMoment (Close conn) = Unit {0}
HasMoment (Step conn now) = now ≤ 2 ^ 62
HasMoment (Expire topic part now) = now ≤ 2 ^ 62
HasMoment (Tick now) = now ≤ 2 ^ 62
HasMoment (Arm disk after mode) = Unit {0}
HasMoment (Power choice) = Unit {0}

-- a broker as its callers see it: its configuration, who is connected, and the shards
pub record CoreParts (D : Type 0) : Type 0 where
  pub conf : ConfigParts
  pub connections : List (ℕ × ConnParts)
  pub hosts : HostsParts D

abbrev pub core_of : {D : Type 0} → ConfigParts → List (ℕ × ConnParts) → HostsParts D → CoreParts D
core_of conf connections hosts = record { conf = conf; connections = connections; hosts = hosts }

-- A fault of the disk of this name was armed, if it is one of these, and nothing else has changed.
pub record IsArmed {D : Type 0} (seen : D → DiskView) (disk : List ℕ) (passes : ℕ) (mode : FaultMode) (old : HostsParts D)
    (shards : Shards) (new : HostsParts D) : Type 0 where
  pub carried : AreCarried seen new shards
  pub disks : (name : List ℕ) → IsOneOf (all_names (hosted_slots old.parts)) name → facts_in seen (disks_in new) name
      ≡ (if same_name disk name then with_arm passes mode (facts_in seen (disks_in old) name)
      else facts_in seen (disks_in old) name)
  pub ends : (name : List ℕ) → ends_in new name ≡ ends_in old name

-- The power was lost with this choice, and each shard is open again. What was left of each log's disk reaches to where its journal ended.
pub record AreReopened {D : Type 0} (seen : D → DiskView) (choice : ℕ) (old : HostsParts D) (shards : Shards)
    (new : HostsParts D) : Type 0 where
  pub after : Shards
  pub contents : List ℕ → List ℕ
  pub carried : AreCarried seen new after
  pub lands : LandAll shards after
  pub parts : AllByRecursion (OpensPart contents) after.parts
  pub states : StandForStates (contents state_a) (contents state_b) after.foreign.states
  pub lost : (name : List ℕ) → IsOneOf (all_names (hosted_slots old.parts)) name → (facts_in seen (disks_in new) name).losses
      ≡ (facts_in seen (disks_in old) name).losses ++ (choice, contents name) ∷ []
  pub reach : (name : List ℕ) → IsLogName name → ends_in old name ≤ length (contents name)
  pub disks : (name : List ℕ) → IsOneOf (all_names (hosted_slots old.parts)) name
      → IsRestarted (facts_in seen (disks_in old) name) (facts_in seen (disks_in new) name)

-- ---- the broker

-- The broker stands for this machine.
pub record IsCore {D : Type 0} (seen : D → DiskView)
    (core : CoreParts D) (machine : Machine) : Type 0 where
  pub connections : machine.connections ≡ core.connections
  pub shards : AreCarried seen core.hosts machine.shards

-- the machine, and what is known of the broker's disks
abbrev pub state_of : {D : Type 0} → (D → DiskView) → Machine → CoreParts D → State
state_of seen machine core = state_over seen machine core.hosts

-- For each machine that the broker stood for it stands for one now, with a step of the event between them.
abbrev pub Advances : {D : Type 0} → (D → DiskView) → CoreParts D → Event → List Outcome → CoreParts D → Type 0
Advances seen old event outcomes new = (before : Machine) → IsCore seen old before →
    (after : Machine) × (call : Option ShardCall) × IsCore seen new after
    × IsStep old.conf (state_of seen before old) event call outcomes (state_of seen after new)

-- ---- where no memory was found

-- the machine is as before, or one step of the event on
abbrev pub Reaches : ConfigParts → Counts → Ends → Machine → Event → Machine → Type 0
Reaches conf counts ends old event new =
    (new ≡ old) ⊎ ((call : Option ShardCall) × (outcomes : List Outcome)
    × StepsTo conf counts ends old event call outcomes new)

-- The event was done in the shards whole, or not at all, and the disks stand for what that left. The journals end there
-- now, and what a crash may leave of each log's disk reaches to the last gate of its journal, the byte before the end.
pub record StopsIn {D : Type 0} (seen : D → DiskView) (old : CoreParts D) (before : Machine) (event : Event) (new : CoreParts D) : Type 0 where
  pub after : Machine
  pub ends : List ℕ → ℕ
  pub reaches : Reaches old.conf (counts_in seen (disks_in old.hosts) (disks_in new.hosts)) (λ name. (ends_in old.hosts name, ends name))
      before event after
  pub ends_later : LogsLater (ends_in old.hosts) ends
  pub still : StandStill seen after.shards (disks_in new.hosts)
  pub reach : LogsReach seen (disks_in new.hosts) (λ name. ends name - 1)
