-- A recorded session on the disks of a bay: all that is said of it is said of one run of the broker (this project's
-- own).
-- For example the session `power 5` on empty disks is a run of one step, from the opening of empty logs, no tables and
-- no keys to the opening of the contents that are each disk's one loss, with choice 5; and what was written is its
-- outcome's line `restarted`.
use Rattle.std.specs.Prelude.{◌≡◌, ◌⊎◌, ◌≤◌, ◌-◌, ◌++◌, ℕ, List, Bool}
use Rattle.std.specs.declared.option.Option.{Option}
use Rattle.std.specs.Io.KnownBytes.{Appends}
use Rattle.edge_io.specs.Causes.{Rose}
use Rattle.edge_io.specs.Streams.{AppendsFront}
use Rattle.session_script.specs.declared.event.Event.{Event}
use Rattle.session_script.specs.declared.event.Outcome.{Outcome}
use Rattle.session_script.specs.Output.{damaged_line}
use Rattle.session_script.specs.Telling.{told_in_all, told_so_far}
use Rattle.topic_conf.specs.Configs.{ConfigParts}
use Rattle.broker_model.specs.Hosted.{IsLogName, IsTaken}
use Rattle.broker_model.specs.Shards.{Counts, Ends, Shards, ShardCall}
use Rattle.broker_model.specs.Machine.{Machine, StandsFor}
use Rattle.broker_model.specs.Disks.{Disks}
use Rattle.broker_model.specs.Steps.{StepsTo}
use Rattle.broker_model.specs.States.{ReachTo, State, faults_of}
use Rattle.broker_model.specs.Runs.{Step, IsRun, events_of, outcomes_of}
use Rattle.broker_hosts.specs.Bays.{TellsDisks, IsFirst, StandForAll, HasLastCount}
use Rattle.broker_hosts.specs.Openings.{IsDamagedDisk}
use Rattle.share_top.specs.Changes.{BayChange, OutputChange}

-- ---- what was written of a run's outcomes

-- a front of a text
abbrev pub WritesFrontOf : List ℕ → OutputChange → Type 0
WritesFrontOf text output = (unwritten : List ℕ) × AppendsFront output.held output.held_after text unwritten

-- what is told of them as they come, or a front of it
abbrev pub Writes : ConfigParts → Bool → OutputChange → List Outcome → Type 0
Writes conf summary output outcomes = Appends output.held output.held_after (told_so_far conf.topics summary outcomes)

abbrev pub WritesFront : ConfigParts → Bool → OutputChange → List Outcome → Type 0
WritesFront conf summary output outcomes = WritesFrontOf (told_so_far conf.topics summary outcomes) output

-- what is told of them in all, or a front of it
abbrev pub WritesAll : ConfigParts → Bool → OutputChange → List Outcome → Type 0
WritesAll conf summary output outcomes =
    Appends output.held output.held_after (told_in_all conf.topics summary outcomes)

abbrev pub WritesAllFront : ConfigParts → Bool → OutputChange → List Outcome → Type 0
WritesAllFront conf summary output outcomes = WritesFrontOf (told_in_all conf.topics summary outcomes) output

-- what is told of them as they come, and this line behind it, or a front of both
abbrev pub WritesThen : ConfigParts → Bool → List ℕ → OutputChange → List Outcome → Type 0
WritesThen conf summary line output outcomes =
    Appends output.held output.held_after (told_so_far conf.topics summary outcomes ++ line)

abbrev pub WritesThenFront : ConfigParts → Bool → List ℕ → OutputChange → List Outcome → Type 0
WritesThenFront conf summary line output outcomes =
    WritesFrontOf (told_so_far conf.topics summary outcomes ++ line) output

-- ---- what a run leaves on the disks

-- what is known of the disks behind a run, for which shards they stand, and to which ends of journals those of logs
-- reach, by its last state
abbrev pub Ending : Type 1
Ending = (Shards → Type 0) → ((List ℕ → ℕ) → Type 0) → Disks → State → Type 0

-- what is known is what the last state has, its shards are those for which the disks stand, and its logs' journals end
-- within their disks
pub record Leaves (conf : ConfigParts) (Stand : Shards → Type 0) (Reach : (List ℕ → ℕ) → Type 0) (now : Disks)
    (last : State) : Type 0 where
  pub known : (name : List ℕ) → IsTaken conf name → now name ≡ last.disks name
  pub stands : Stand last.machine.shards
  pub reach : Reach last.ends

-- of each disk, its count of faults in the last state, and the one that is known now
abbrev pub counts_since : State → Disks → Counts
counts_since last now name = (faults_of last name, (now name).faults)

-- where the journal on each disk ends in the last state, and now
abbrev pub ends_since : State → (List ℕ → ℕ) → Ends
ends_since last ends name = (last.ends name, ends name)

-- one event more was done; the journals end there now
abbrev pub DoesMore : ConfigParts → State → Disks → (ends : List ℕ → ℕ) → Event → Machine → Type 0
DoesMore conf last now ends event after = (call : Option ShardCall) × (outcomes : List Outcome)
    × StepsTo conf (counts_since last now) (ends_since last ends) last.machine event call outcomes after

-- The disks stand for the last state's shards, or for those behind the next event, done whole, of whose outcomes
-- nothing was written. Those of logs reach to the last byte before where their journals end: a power loss after which
-- no memory was found may leave that one out.
pub record MayLeaveMore (conf : ConfigParts) (Next : Event → Type 0) (Stand : Shards → Type 0)
    (Reach : (List ℕ → ℕ) → Type 0) (now : Disks)
    (last : State) : Type 0 where
  pub after : Machine
  pub ends : List ℕ → ℕ
  pub reaches : (after ≡ last.machine) ⊎ ((event : Event) × Next event × DoesMore conf last now ends event after)
  pub later : (name : List ℕ) → IsTaken conf name → faults_of last name ≤ (now name).faults
  pub ends_later : (name : List ℕ) → IsTaken conf name → IsLogName name → last.ends name ≤ ends name
  pub stands : Stand after.shards
  pub reach : Reach (λ name. ends name - 1)

-- ---- one run

-- From this state a run goes over these events. `Tells` is said of its outcomes, and `Ends` of its last state.
pub record Ran (conf : ConfigParts) (first : State) (events : List Event) (Tells : List Outcome → Type 0)
    (Ends : State → Type 0) : Type 0 where
  pub steps : List Step
  pub last : State
  pub run : IsRun conf first steps last
  pub events_are : events_of steps ≡ events
  pub tells : Tells (outcomes_of steps)
  pub ends : Ends last

-- The session of these events, on disks that had these contents, of which this was known, and that were
-- left with these contents, of which this is known now.
pub record IsSession (conf : ConfigParts) (events : List Event) (Tells : List Outcome → Type 0)
    (Ends : Ending) (contents : List ℕ → List ℕ) (was : Disks) (left : List ℕ → List ℕ) (now : Disks)
    : Type 0 where
  pub first : State
  -- it begins with the opening of the contents
  pub opens : IsFirst conf contents was first
  -- it is a run, which leaves the disks so; `PromisesOfReplay` says what holds of each such run
  pub ran : Ran conf first events Tells (Ends (StandsFor left) (ReachTo conf left) now)

-- ---- the disks of a bay

-- where a bay tells the disks of this broker
abbrev pub OfBay : {B D : Type 0} → BayChange B D → ConfigParts
    → ((List ℕ → List ℕ) → Disks → Type 0) → Type 0
OfBay bay conf P = (contents : List ℕ → List ℕ) (was : Disks)
    → TellsDisks bay.seen bay.disk_seen conf bay.old contents was → P contents was

-- where a bay tells them, it tells them behind the call as well
abbrev pub OverBay : {B D : Type 0} → BayChange B D → ConfigParts
    → ((List ℕ → List ℕ) → Disks → (List ℕ → List ℕ) → Disks → Type 0) → Type 0
OverBay bay conf P = OfBay bay conf (λ contents was. (left : List ℕ → List ℕ) × (now : Disks)
    × TellsDisks bay.seen bay.disk_seen conf bay.new left now × P contents was left now)

-- its disks are told, and stand for some logs and states
abbrev pub HoldsStates : {B D : Type 0} → BayChange B D → ConfigParts → Type 0
HoldsStates bay conf = (contents : List ℕ → List ℕ) × (was : Disks)
    × TellsDisks bay.seen bay.disk_seen conf bay.old contents was × StandForAll conf contents

-- one of these disks isn't store text, and this holds of the line that names it and the place of its fault
abbrev pub NamesDamage : ConfigParts → (List ℕ → List ℕ) → (List ℕ → Type 0) → Type 0
NamesDamage conf contents Says = (disk : List ℕ) × (place : ℕ) × IsDamagedDisk conf contents disk place
    × Says (damaged_line disk place)

-- the bay's count of faults rose, in which are those of its disks; or a disk was taken with one at its last
-- value, as the bay notes it
abbrev pub CountRose : {B D : Type 0} → BayChange B D → ConfigParts → Type 0
CountRose bay conf = Rose (bay.seen bay.old).faults (bay.seen bay.new).faults
    ⊎ HasLastCount bay.seen conf bay.new
