-- The broker's disks in a bay, and what a start makes of them. This project's own.
-- For example a fresh bay in memory tells empty disks, which stand for logs of no batches, no tables and no keys.
use Rattle.std.specs.Prelude.{◌≡◌, ◌≢◌, ◌≤◌, ◌<◌, ◌-◌, ◌^◌, ◌⊎◌, ℕ, List, [], ◌∷◌, true, false, Some, None, is_some}
use Rattle.std.specs.List.{AllByRecursion}
use Rattle.std.specs.declared.option.Option.{Option}
use Rattle.edge_io.specs.Armed.{RunsOn}
use Rattle.edge_io.specs.Bays.{IsAsTold, IsSound, Holds}
use Rattle.edge_io.specs.Causes.{Rose}
use Rattle.gate_journal.specs.Frames.{StandsAs}
use Rattle.share_model.specs.ForeignRules.{ShareStates}
use Rattle.topic_conf.specs.Configs.{ConfigParts}
use Rattle.broker_model.specs.Hosted.{IsOneOf, IsTaken, hosted_of, state_a, state_b}
use Rattle.broker_model.specs.Machine.{Machine, Opening, StandForStates}
use Rattle.broker_model.specs.Disks.{Disks, facts_of}
use Rattle.broker_model.specs.States.{State}
use Rattle.broker_hosts.specs.Hosts.{AreCarried, AreFresh, AreOpen, HostsParts, IsFreshForeign, IsWhole, LeftDisks, NotIn, all_names, disks_in, hosted_slots, state_over}
use Rattle.broker_hosts.specs.declared.fault.CoreOpen.{CoreOpen}
use Rattle.broker_hosts.specs.declared.fault.CoreOpen.TheVariants.{Damaged, Device, Bay, NoMemory}
use Rattle.broker_hosts.specs.Openings.{IsDamagedDisk, IsOpenedDisk, StandsForTables}
use Rattle.edge_io.specs.Views.{DiskView, BayView}

-- ---- what a bay tells

-- The bay tells the broker's disks, with these contents, of which this is known.
abbrev pub TellsDisks : {B D : Type 0} → (B → BayView D) → (D → DiskView)
    → ConfigParts → B → (List ℕ → List ℕ) → Disks → Type 0
TellsDisks bay_seen seen conf bay contents facts = (name : List ℕ) → IsTaken conf name → (d : _) × ((bay_seen bay).disk name ≡ Some d)
    × ((seen d).content ≡ Some (contents name)) × (facts name ≡ facts_of seen d)

-- the state with which a run begins, on disks that had these contents and of which this was known
pub record IsFirst (conf : ConfigParts) (contents : List ℕ → List ℕ) (was : Disks) (first : State) : Type 0 where
  pub opens : Opening conf contents first.machine
  pub disks : (name : List ℕ) → IsTaken conf name → IsOpenedDisk (was name) (first.disks name)

-- contents that stand for a log and tables of each hosted partition, and for foreign state
pub record StandForAll (conf : ConfigParts) (contents : List ℕ → List ℕ) : Type 0 where
  pub parts : AllByRecursion (StandsForTables contents) (hosted_of conf)
  pub states : ShareStates
  pub stand : StandForStates (contents state_a) (contents state_b) states

-- the disks of these names are out, and no others are
pub record AreOut {B D : Type 0} (bay_seen : B → BayView D) (names : List (List ℕ)) (bay : B) : Type 0 where
  pub those : (name : List ℕ) → IsOneOf names name → (bay_seen bay).out name ≡ true
  pub others : (name : List ℕ) → NotIn names name → (bay_seen bay).out name ≡ false

-- a disk that the bay told before it tells still
abbrev pub TellsStill : {B D : Type 0} → (B → BayView D) → B → B → Type 0
TellsStill bay_seen old new = (name : List ℕ) → is_some ((bay_seen old).disk name) ≡ true → is_some ((bay_seen new).disk name) ≡ true

-- A disk that a start used and gave back: each image of it is one that it had, or stands for the frames of one; no power of it was lost, and
-- no fault was armed on it. Where `Fed`, no call on it found no memory.
pub record IsLeftAs {D : Type 0} (seen : D → DiskView) (Fed : Type 0) (old new : D) : Type 0 where
  pub images : (c : List ℕ) → (seen new).image c → StandsAs (seen old).image c
  pub runs : RunsOn seen old new
  pub fed : Fed → (seen new).starved ≡ true → (seen old).starved ≡ true

-- where the bay tells a disk of this name, before and behind, it is left so
abbrev pub StaysAs : {B D : Type 0} → (B → BayView D) → (D → DiskView) → (Fed : Type 0) → List ℕ → B → B → Type 0
StaysAs bay_seen seen Fed name old new =
    (d e : _) → (bay_seen old).disk name ≡ Some d → (bay_seen new).disk name ≡ Some e → IsLeftAs seen Fed d e

-- three disks have found memory at each call
abbrev pub AreFed : {D : Type 0} → (D → DiskView) → (log first second : D) → Type 0
AreFed seen log first second = ((seen log).starved ≡ false) × ((seen first).starved ≡ false) × ((seen second).starved ≡ false)

-- a disk failed, or the bay gave one not
abbrev pub IsOfDevice : CoreOpen → Type 0
IsOfDevice Device = Unit {0}
IsOfDevice Bay = Unit {0}
IsOfDevice (Damaged name place) = ⊥
IsOfDevice NoMemory = ⊥

-- ---- counts

-- The disk of this name was handed out with the count of faults that the bay notes of it, and has at least that count now. It was the one
-- that the bay told, where it told one.
pub record IsTakenFrom {B D : Type 0} (bay_seen : B → BayView D) (seen : D → DiskView) (name : List ℕ) (old new : B) (now : D)
    : Type 0 where
  pub given : D
  pub as_told : IsAsTold ((bay_seen old).disk name) given
  pub noted : (bay_seen new).taken name ≡ (seen given).faults
  pub later : (seen given).faults ≤ (seen now).faults

abbrev pub TakenIf : {B D : Type 0} → (B → BayView D) → (D → DiskView) → B → B → List ℕ × Option D → Type 0
TakenIf bay_seen seen old new (name, None) = ⊥
TakenIf bay_seen seen old new (name, Some d) = IsTakenFrom bay_seen seen name old new d

abbrev pub BothTaken : {B D : Type 0} → (B → BayView D) → (D → DiskView) → B → B → Option (D × D) → Type 0
BothTaken bay_seen seen old new None = ⊥
BothTaken bay_seen seen old new (Some disks) =
    IsTakenFrom bay_seen seen state_a old new disks.0 × IsTakenFrom bay_seen seen state_b old new disks.1

-- one of these disks has this name
abbrev pub HasName : {D : Type 0} → List (List ℕ × Option D) → List ℕ → Type 0
HasName [] name = ⊥
HasName (e ∷ es) name = (name ≡ e.0) ⊎ HasName es name

pub record AreTakenFrom {B D : Type 0} (bay_seen : B → BayView D) (seen : D → DiskView) (conf : ConfigParts) (old new : B)
    (left : LeftDisks D) : Type 0 where
  pub parts : AllByRecursion (TakenIf bay_seen seen old new) left.parts
  pub names : (name : List ℕ) → HasName left.parts name → IsTaken conf name
  pub foreign : BothTaken bay_seen seen old new left.foreign

-- A disk of the broker was taken last with a count that stands at its last value, as the bay notes it.
abbrev pub HasLastCount : {B D : Type 0} → (B → BayView D) → ConfigParts → B → Type 0
HasLastCount bay_seen conf bay = (name : List ℕ) × IsTaken conf name × (2 ^ 64 - 1 ≤ (bay_seen bay).taken name)

abbrev pub RisenIf : {B D : Type 0} → (B → BayView D) → (D → DiskView) → B → List ℕ × Option D → Type 0
RisenIf bay_seen seen bay (name, None) = ⊥
RisenIf bay_seen seen bay (name, Some d) = (bay_seen bay).taken name < (seen d).faults

abbrev pub OneRisen : {B D : Type 0} → (B → BayView D) → (D → DiskView) → B → List (List ℕ × Option D) → Type 0
OneRisen bay_seen seen bay [] = ⊥
OneRisen bay_seen seen bay (e ∷ es) = RisenIf bay_seen seen bay e ⊎ OneRisen bay_seen seen bay es

abbrev pub BothRisen : {B D : Type 0} → (B → BayView D) → (D → DiskView) → B → Option (D × D) → Type 0
BothRisen bay_seen seen bay None = ⊥
BothRisen bay_seen seen bay (Some disks) = ((bay_seen bay).taken state_a < (seen disks.0).faults) ⊎ ((bay_seen bay).taken state_b < (seen disks.1).faults)

-- one of the disks has a greater count than that with which it was taken
abbrev pub HasRisen : {B D : Type 0} → (B → BayView D) → (D → DiskView) → B → LeftDisks D → Type 0
HasRisen bay_seen seen bay left = OneRisen bay_seen seen bay left.parts ⊎ BothRisen bay_seen seen bay left.foreign

-- ---- disks that were put back

abbrev pub HoldsIf : {B D : Type 0} → (B → BayView D) → B → B → List ℕ × Option D → Type 0
HoldsIf bay_seen old new (name, None) = ⊥
HoldsIf bay_seen old new (name, Some d) = Holds ((bay_seen old).disk name) ((bay_seen new).disk name) d

abbrev pub BothHold : {B D : Type 0} → (B → BayView D) → B → B → Option (D × D) → Type 0
BothHold bay_seen old new None = ⊥
BothHold bay_seen old new (Some disks) = Holds ((bay_seen old).disk state_a) ((bay_seen new).disk state_a) disks.0 × Holds ((bay_seen old).disk state_b) ((bay_seen new).disk state_b) disks.1

pub record ArePutBack {B D : Type 0} (bay_seen : B → BayView D) (old new : B) (left : LeftDisks D) : Type 0 where
  pub parts : AllByRecursion (HoldsIf bay_seen old new) left.parts
  pub foreign : BothHold bay_seen old new left.foreign

-- ---- an opening

-- The shards are those of the opening of what the bay tells, and their disks were taken from it. Each partition and foreign state stand for what
-- they have in memory, also where their disks don't tell their contents.
pub record AreOpened {B D : Type 0} (bay_seen : B → BayView D) (seen : D → DiskView) (conf : ConfigParts) (old : B) (hosts : HostsParts D)
    (new : B) : Type 0 where
  pub opens : (contents : List ℕ → List ℕ) (was : Disks) → TellsDisks bay_seen seen conf old contents was → (m : Machine)
      × AreCarried seen hosts m.shards × IsFirst conf contents was (state_over seen m hosts)
  pub are_open : AreOpen hosts
  pub fresh : AreFresh seen hosts.parts × IsFreshForeign seen hosts.foreign
  pub whole : IsWhole conf hosts
  pub taken : AreOut bay_seen (all_names (hosted_slots hosts.parts)) new
  pub counts : AreTakenFrom bay_seen seen conf old new (disks_in hosts)

-- It was refused for this reason, and each disk is back in the bay: each image of it is one that it had, or stands for the frames of one, and
-- no power was lost and no fault armed. Where a fault of a disk or of the bay is told, memory was found at each call.
pub record AreRefused {B D : Type 0} (bay_seen : B → BayView D) (seen : D → DiskView) (conf : ConfigParts) (old : B) (fault : CoreOpen)
    (new : B) : Type 0 where
  pub back : AreOut bay_seen [] new
  pub stays : (name : List ℕ) → StaysAs bay_seen seen (IsOfDevice fault) name old new
  pub fed : IsOfDevice fault → (bay_seen new).starved ≡ false
  pub damaged : (disk : List ℕ) (place : ℕ) → fault ≡ Damaged disk place → (contents : List ℕ → List ℕ) (was : Disks)
      → TellsDisks bay_seen seen conf old contents was → IsDamagedDisk conf contents disk place
  -- contents that stand for logs, tables and states are never damaged
  pub recovers : (contents : List ℕ → List ℕ) (was : Disks) → TellsDisks bay_seen seen conf old contents was → StandForAll conf contents
      → (disk : List ℕ) (place : ℕ) → fault ≢ Damaged disk place
  pub bay : fault ≡ Bay → Rose (bay_seen old).faults (bay_seen new).faults
  -- the bay's count rose, or a disk was taken with one at its last value
  pub device : fault ≡ Device → Rose (bay_seen old).faults (bay_seen new).faults ⊎ HasLastCount bay_seen conf new
  pub sound : IsSound bay_seen seen old → (fault ≢ Bay) × (fault ≢ Device)
