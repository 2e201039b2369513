-- How the broker's disks are taken from a bay one after another, and put back. This project's own.
-- For example the three disks of each of two partitions are taken and opened in the order of their shards; where the second partition is
-- damaged, its disks are put back, and then those of the first.
use Rattle.std.specs.Prelude.{◌≡◌, ◌≢◌, ◌≤◌, ◌-◌, ◌+◌, ◌^◌, ◌⊎◌, min, ℕ, List, [], ◌∷◌, ◌++◌, true, false, Some}
use Rattle.std.specs.declared.option.Option.{Option}
use Rattle.edge_io.specs.Bays.{IsAsTold, IsSoundDisk, Holds, SameSlot}
use Rattle.edge_io.specs.Causes.{Rose}
use Rattle.share_model.specs.ForeignRules.{ShareStates}
use Rattle.share_coord.specs.Parts.{StoreParts}
use Rattle.topic_conf.specs.Configs.{ConfigParts}
use Rattle.broker_model.specs.Hosted.{Hosted, IsOneOf, disks_of, first_of, hosted_of, log_of, second_of, state_a, state_b}
use Rattle.broker_model.specs.Machine.{StandForStates, no_members}
use Rattle.broker_hosts.specs.declared.fault.CoreOpen.{CoreOpen}
use Rattle.broker_hosts.specs.declared.fault.CoreOpen.TheVariants.{Damaged, Device, Bay, NoMemory}
use Rattle.broker_hosts.specs.declared.slot.ForeignSlot.{ForeignSlot}
use Rattle.broker_hosts.specs.declared.slot.ForeignSlot.TheVariants as foreign
use Rattle.broker_hosts.specs.declared.slot.PartSlot.{PartSlot}
use Rattle.broker_hosts.specs.declared.slot.PartState.TheVariants as part
use Rattle.broker_hosts.specs.Bays.{AreFed, IsOfDevice, IsTakenFrom, StaysAs, TellsStill}
use Rattle.broker_hosts.specs.Carried.{AreFreshStates, IsFresh, OpenPart}
use Rattle.broker_hosts.specs.Hosts.{HostsParts, NotIn, foreign_disks, hosted_slot, slots_disks}
use Rattle.broker_hosts.specs.Openings.{IsOpened, IsOpenedPart, IsDamagedPart, IsDamagedState, PartImagesStandAs, PartRunsOn, StandsForTables}
use Rattle.edge_io.specs.Views.{DiskView, BayView}

-- what each call leaves of a bay, whatever it answers
pub record Moves {B D : Type 0} (bay_seen : B → BayView D) (old new : B) : Type 0 where
  pub told : TellsStill bay_seen old new
  pub later : (bay_seen old).faults ≤ (bay_seen new).faults
  pub steadies : (bay_seen old).steady → (bay_seen new).steady

-- ---- disks alone

-- a disk was taken
pub record Gets {B D : Type 0} (bay_seen : B → BayView D) (seen : D → DiskView) (name : List ℕ) (given : D) (old new : B) : Type 0 where
  pub as_told : IsAsTold ((bay_seen old).disk name) given
  pub is_out : (bay_seen new).out name ≡ true
  pub noted : (bay_seen new).taken name ≡ (seen given).faults
  pub others : (m : List ℕ) → m ≢ name → SameSlot bay_seen m old new
  pub moves : Moves bay_seen old new

-- the disks of these names were, one after another
abbrev pub GetsAll : {B D : Type 0} → (B → BayView D) → (D → DiskView)
    → List (List ℕ × D) → B → B → Type 0
GetsAll bay_seen seen [] old new = new ≡ old
GetsAll bay_seen seen (e ∷ es) old new =
    (mid : _) × Gets bay_seen seen e.0 e.1 old mid × GetsAll bay_seen seen es mid new

-- none of these names has its disk out: the bay gave one of them not, for this reason, and has those before it again
pub record GetsNone {B D : Type 0} (bay_seen : B → BayView D) (names : List (List ℕ)) (fault : CoreOpen) (old new : B) : Type 0 where
  pub only : (fault ≡ Bay) ⊎ (fault ≡ NoMemory)
  pub bay : fault ≡ Bay → Rose (bay_seen old).faults (bay_seen new).faults
  pub sound : (bay_seen old).steady → fault ≢ Bay
  pub are_in : (m : List ℕ) → IsOneOf names m → (bay_seen new).out m ≡ false
  pub kept : (m : List ℕ) (d : D) → IsOneOf names m → (bay_seen old).disk m ≡ Some d → (bay_seen new).disk m ≡ Some d
  pub others : (m : List ℕ) → NotIn names m → SameSlot bay_seen m old new
  pub moves : Moves bay_seen old new

-- a disk is put back under this name
pub record PutsBack {B D : Type 0} (bay_seen : B → BayView D) (seen : D → DiskView) (name : List ℕ) (given : D) (old new : B) : Type 0 where
  pub there : Holds ((bay_seen old).disk name) ((bay_seen new).disk name) given
  pub is_in : (bay_seen new).out name ≡ false
  pub taken : (bay_seen new).taken name ≡ (bay_seen old).taken name
  pub others : (m : List ℕ) → m ≢ name → SameSlot bay_seen m old new
  pub counts : (bay_seen new).faults ≡ min ((bay_seen old).faults + ((seen given).faults - (bay_seen old).taken name)) (2 ^ 64 - 1)
  pub later : (bay_seen old).faults ≤ (bay_seen new).faults
  pub steadies : (bay_seen old).steady → (bay_seen new).steady

-- these disks are, one after another, under their names
abbrev pub PutsAll : {B D : Type 0} → (B → BayView D) → (D → DiskView)
    → List (List ℕ × Option D) → B → B → Type 0
PutsAll bay_seen seen [] old new = new ≡ old
PutsAll bay_seen seen (e ∷ es) old new = (d : _) × (mid : _) × (e.1 ≡ Some d)
    × PutsBack bay_seen seen e.0 d old mid × PutsAll bay_seen seen es mid new

-- ---- partitions

-- the bay tells disks of these names, with these contents
abbrev pub TellsThese : {B D : Type 0} → (B → BayView D) → (D → DiskView) → List (List ℕ) → B → (List ℕ → List ℕ) → Type 0
TellsThese bay_seen seen names bay contents = (name : List ℕ) → IsOneOf names name → (d : _) × ((bay_seen bay).disk name ≡ Some d) × ((seen d).content ≡ Some (contents name))

-- the three disks of a partition were taken, and its shard is open
pub record TakesPart {B D : Type 0} (bay_seen : B → BayView D) (seen : D → DiskView) (h : Hosted) (old : B) (slot : PartSlot D) (new : B) : Type 0 where
  pub hosted_is : hosted_slot slot ≡ h
  pub parts : OpenPart D
  pub is_open : slot.state ≡ part.Open parts
  pub on_log : IsTakenFrom bay_seen seen (log_of h) old new parts.log.journal.disk
  pub on_first : IsTakenFrom bay_seen seen (first_of h) old new parts.states.journal.first.disk
  pub on_second : IsTakenFrom bay_seen seen (second_of h) old new parts.states.journal.second.disk
  pub opens : (l x y : List ℕ) → (seen on_log.given).content ≡ Some l → (seen on_first.given).content ≡ Some x → (seen on_second.given).content ≡ Some y
      → IsOpenedPart seen h.conf on_log.given on_first.given on_second.given l x y parts
  pub fresh : IsFresh seen parts
  pub images : PartImagesStandAs seen on_log.given on_first.given on_second.given parts.log.journal.disk parts.states.journal.first.disk
      parts.states.journal.second.disk
  pub runs : PartRunsOn seen on_log.given on_first.given on_second.given parts.log.journal.disk parts.states.journal.first.disk
      parts.states.journal.second.disk
  pub fed : AreFed seen parts.log.journal.disk parts.states.journal.first.disk parts.states.journal.second.disk
  pub are_out : (m : List ℕ) → IsOneOf (disks_of h) m → (bay_seen new).out m ≡ true
  pub others : (m : List ℕ) → NotIn (disks_of h) m → SameSlot bay_seen m old new
  pub moves : Moves bay_seen old new

-- they were not, for this reason, and are in the bay
pub record RefusesPart {B D : Type 0} (bay_seen : B → BayView D) (seen : D → DiskView) (h : Hosted) (fault : CoreOpen) (old new : B) : Type 0 where
  pub damaged : (n : List ℕ) (place : ℕ) → fault ≡ Damaged n place → (contents : List ℕ → List ℕ) → TellsThese bay_seen seen (disks_of h) old contents
      → IsDamagedPart h (contents (log_of h)) (contents (first_of h)) (contents (second_of h)) n place
  pub recovers : (contents : List ℕ → List ℕ) → TellsThese bay_seen seen (disks_of h) old contents → StandsForTables contents h
      → (n : List ℕ) (place : ℕ) → fault ≢ Damaged n place
  pub bay : fault ≡ Bay → Rose (bay_seen old).faults (bay_seen new).faults
  pub device : fault ≡ Device → Rose (bay_seen old).faults (bay_seen new).faults
      ⊎ ((name : List ℕ) × IsOneOf (disks_of h) name × (2 ^ 64 - 1 ≤ (bay_seen new).taken name))
  pub sound : ((name : List ℕ) → IsOneOf (disks_of h) name → (d : D) × ((bay_seen old).disk name ≡ Some d) × IsSoundDisk seen d)
      → (bay_seen old).steady → (fault ≢ Bay) × (fault ≢ Device)
  pub are_in : (m : List ℕ) → IsOneOf (disks_of h) m → (bay_seen new).out m ≡ false
  pub stays : (m : List ℕ) → IsOneOf (disks_of h) m → StaysAs bay_seen seen (IsOfDevice fault) m old new
  pub others : (m : List ℕ) → NotIn (disks_of h) m → SameSlot bay_seen m old new
  pub moves : Moves bay_seen old new

-- those of these partitions are taken and opened, one partition after another
abbrev pub TakesParts : {B D : Type 0} → (B → BayView D) → (D → DiskView)
    → List Hosted → B → List (PartSlot D) → B → Type 0
TakesParts bay_seen seen [] old [] new = new ≡ old
TakesParts bay_seen seen [] old (s ∷ slots) new = ⊥
TakesParts bay_seen seen (h ∷ hosted) old [] new = ⊥
TakesParts bay_seen seen (h ∷ hosted) old (s ∷ slots) new =
    (mid : _) × TakesPart bay_seen seen h old s mid
    × TakesParts bay_seen seen hosted mid slots new

-- one of these partitions was not opened, for this reason, and the disks of those before it are put back
pub record RefusesAt {B D : Type 0} (bay_seen : B → BayView D) (seen : D → DiskView) (hosted : List Hosted) (fault : CoreOpen) (old new : B) : Type 0 where
  pub before : List Hosted
  pub h : Hosted
  pub after : List Hosted
  pub slots : List (PartSlot D)
  pub mid : B
  pub behind : B
  pub split : hosted ≡ before ++ (h ∷ after)
  pub takes : TakesParts bay_seen seen before old slots mid
  pub refuses : RefusesPart bay_seen seen h fault mid behind
  pub puts : PutsAll bay_seen seen (slots_disks slots) behind new

-- ---- foreign state

-- the two disks of foreign state were taken, and it is open
pub record TakesForeign {B D : Type 0} (bay_seen : B → BayView D) (seen : D → DiskView) (old : B) (slot : ForeignSlot D) (new : B) : Type 0 where
  pub store : StoreParts D
  pub is_open : slot ≡ foreign.Open store
  pub first : D
  pub second : D
  pub first_told : IsAsTold ((bay_seen old).disk state_a) first
  pub second_told : IsAsTold ((bay_seen old).disk state_b) second
  pub first_noted : (bay_seen new).taken state_a ≡ (seen first).faults
  pub second_noted : (bay_seen new).taken state_b ≡ (seen second).faults
  pub first_counted : (seen first).faults ≤ (seen store.journal.first.disk).faults
  pub second_counted : (seen second).faults ≤ (seen store.journal.second.disk).faults
  pub opens : (a b : List ℕ) → (seen first).content ≡ Some a → (seen second).content ≡ Some b
      → IsOpened seen first second a b store
  pub fresh : AreFreshStates seen store
  pub first_out : (bay_seen new).out state_a ≡ true
  pub second_out : (bay_seen new).out state_b ≡ true
  pub others : (m : List ℕ) → m ≢ state_a → m ≢ state_b → SameSlot bay_seen m old new
  pub moves : Moves bay_seen old new

-- they were not, for this reason, and are in the bay
pub record RefusesForeign {B D : Type 0} (bay_seen : B → BayView D) (seen : D → DiskView) (fault : CoreOpen) (old new : B) : Type 0 where
  pub damaged : (n : List ℕ) (place : ℕ) → fault ≡ Damaged n place → (d e : D) (a b : List ℕ) → (bay_seen old).disk state_a ≡ Some d → (bay_seen old).disk state_b ≡ Some e
      → (seen d).content ≡ Some a → (seen e).content ≡ Some b → IsDamagedState a b n place
  pub recovers : (d e : D) (a b : List ℕ) (states : ShareStates) → (bay_seen old).disk state_a ≡ Some d → (bay_seen old).disk state_b ≡ Some e
      → (seen d).content ≡ Some a → (seen e).content ≡ Some b → StandForStates a b states → (n : List ℕ) (place : ℕ) → fault ≢ Damaged n place
  pub bay : fault ≡ Bay → Rose (bay_seen old).faults (bay_seen new).faults
  pub device : fault ≡ Device → Rose (bay_seen old).faults (bay_seen new).faults
      ⊎ ((name : List ℕ) × ((name ≡ state_a) ⊎ (name ≡ state_b)) × (2 ^ 64 - 1 ≤ (bay_seen new).taken name))
  pub sound : (d e : D) → (bay_seen old).disk state_a ≡ Some d → (bay_seen old).disk state_b ≡ Some e → IsSoundDisk seen d
      → IsSoundDisk seen e → (bay_seen old).steady → (fault ≢ Bay) × (fault ≢ Device)
  pub first_in : (bay_seen new).out state_a ≡ false
  pub second_in : (bay_seen new).out state_b ≡ false
  pub on_first : StaysAs bay_seen seen (IsOfDevice fault) state_a old new
  pub on_second : StaysAs bay_seen seen (IsOfDevice fault) state_b old new
  pub others : (m : List ℕ) → m ≢ state_a → m ≢ state_b → SameSlot bay_seen m old new
  pub moves : Moves bay_seen old new

-- the two disks of foreign state are put back
abbrev pub PutsForeignBack : {B D : Type 0} → (B → BayView D) → (D → DiskView)
    → ForeignSlot D → B → B → Type 0
PutsForeignBack bay_seen seen slot old new = (first second : _) × (mid : _) × (foreign_disks slot ≡ Some (first, second))
    × PutsBack bay_seen seen state_a first old mid × PutsBack bay_seen seen state_b second mid new

-- ---- all of them

-- the partitions of the configuration were taken, and foreign state behind them
pub record TakesAll {B D : Type 0} (bay_seen : B → BayView D) (seen : D → DiskView) (conf : ConfigParts) (old : B) (hosts : HostsParts D) (new : B) : Type 0 where
  pub mid : B
  pub parts : TakesParts bay_seen seen (hosted_of conf) old hosts.parts mid
  pub foreign : TakesForeign bay_seen seen mid hosts.foreign new
  pub members : hosts.members ≡ no_members conf.topics

-- one of the partitions was not, or foreign state was not, or there was no memory beside them; what was taken is back
abbrev pub RefusesAll : {B D : Type 0} → (B → BayView D) → (D → DiskView)
    → ConfigParts → CoreOpen → B → B → Type 0
RefusesAll bay_seen seen conf fault old new =
    ((fault ≡ NoMemory) × (new ≡ old))
    ⊎ (RefusesAt bay_seen seen (hosted_of conf) fault old new
    ⊎ ((slots : List (PartSlot _)) × (mid behind : _)
    × TakesParts bay_seen seen (hosted_of conf) old slots mid
    × RefusesForeign bay_seen seen fault mid behind
    × PutsAll bay_seen seen (slots_disks slots) behind new))

abbrev pub PutsAllBack : {B D : Type 0} → (B → BayView D) → (D → DiskView)
    → HostsParts D → B → B → Type 0
PutsAllBack bay_seen seen hosts old new = (mid : _)
    × PutsAll bay_seen seen (slots_disks hosts.parts) old mid × PutsForeignBack bay_seen seen hosts.foreign mid new
