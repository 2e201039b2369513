-- The shards of a broker as one thread would hold them, and how the locks around them are opened on the disks of a bay. This project's own.
-- For example a fresh bay in memory opens to shards of empty logs, of no members and of no keys; a bay in which `orders/0/log` is no store
-- text has its disks back behind a refusal.
use Rattle.std.specs.List.{AllByRecursion}
use Rattle.std.specs.Prelude.{◌≡◌, ◌≢◌, ◌⊎◌, ℕ, List, [], false, map}
use Rattle.edge_io.specs.Bays.{IsSound}
use Rattle.edge_io.specs.Causes.{Rose}
use Rattle.edge_io.specs.Views.{BayView, DiskView}
use Rattle.topic_conf.specs.Configs.{ConfigParts}
use Rattle.broker_model.specs.Disks.{Disks}
use Rattle.broker_model.specs.Hosted.{Hosted}
use Rattle.broker_model.specs.Machine.{Machine}
use Rattle.broker_hosts.specs.Carried.{AreFreshStates, IsFresh}
use Rattle.broker_hosts.specs.Bays.{AreOut, AreTakenFrom, HasLastCount, IsFirst, IsOfDevice, StandForAll, StaysAs, TellsDisks}
use Rattle.broker_hosts.specs.Hosts.{AreCarried, HostsParts, IsWhole, all_names, disks_in, hosted_slots, state_over}
use Rattle.broker_hosts.specs.Openings.{IsDamagedDisk}
use Rattle.broker_hosts.specs.declared.fault.CoreOpen.{CoreOpen}
use Rattle.broker_hosts.specs.declared.fault.CoreOpen.TheVariants as open_fault
use Rattle.broker_hosts.specs.declared.slot.ForeignSlot.TheVariants as foreign
use Rattle.broker_hosts.specs.declared.slot.PartSlot.{PartSlot}
use Rattle.broker_hosts.specs.declared.slot.PartState.TheVariants as part
use Rattle.broker_shards.specs.Hosts.{Host}
use Rattle.broker_locks.specs.Shared.{ShardParts}

-- ---- the shards as one thread would hold them

abbrev pub slot_of : {D : Type 0} → Host D → PartSlot D
slot_of host = record { topic = host.topic; conf = host.conf; state = part.Open host.part }

abbrev pub hosts_of : {D : Type 0} → ShardParts D → HostsParts D
hosts_of shards =
    record { parts = map slot_of shards.parts; members = shards.members.members; foreign = foreign.Open shards.foreign.foreign }

-- the partitions whose shards these are
abbrev pub hosted_in : {D : Type 0} → ShardParts D → List Hosted
hosted_in shards = hosted_slots (hosts_of shards).parts

-- the names of their disks, and of those of foreign state
abbrev pub names_in : {D : Type 0} → ShardParts D → List (List ℕ)
names_in shards = all_names (hosted_in shards)

-- they are those of the partitions and topics of this configuration
abbrev pub AreWhole : {D : Type 0} → ConfigParts → ShardParts D → Type 0
AreWhole conf shards = IsWhole conf (hosts_of shards)

-- ---- an opening

-- The shards are those of the opening of what the bay tells, and their disks were taken from it. Each partition and foreign state stand for what
-- they have in memory, also where their disks don't tell their contents.
pub record IsOpening {B D : Type 0} (bay_seen : B → BayView D) (seen : D → DiskView) (conf : ConfigParts) (old new : B)
    (shards : ShardParts D) : Type 0 where
  pub opens : (contents : List ℕ → List ℕ) (was : Disks) → TellsDisks bay_seen seen conf old contents was → (m : Machine)
      × AreCarried seen (hosts_of shards) m.shards × IsFirst conf contents was (state_over seen m (hosts_of shards))
  pub fresh : AllByRecursion (λ (h : Host D). IsFresh seen h.part) shards.parts
  pub fresh_states : AreFreshStates seen shards.foreign.foreign
  pub whole : AreWhole conf shards
  pub taken : AreOut bay_seen (names_in shards) new
  pub counts : AreTakenFrom bay_seen seen conf old new (disks_in (hosts_of shards))

-- It was refused for this reason. After any other than want of memory each disk is back in the bay: each image of it is one that it had, or
-- stands for the frames of one, and no power was lost and no fault armed. Where a fault of a disk or of the bay is told, memory was found at
-- each call.
pub record IsRefused {B D : Type 0} (bay_seen : B → BayView D) (seen : D → DiskView) (conf : ConfigParts) (old : B) (fault : CoreOpen)
    (new : B) : Type 0 where
  pub back : fault ≢ open_fault.NoMemory → AreOut bay_seen [] new
  pub stays : fault ≢ open_fault.NoMemory → (name : List ℕ) → StaysAs bay_seen seen (IsOfDevice fault) name old new
  pub fed : IsOfDevice fault → (bay_seen new).starved ≡ false
  -- contents that stand for logs, tables and states are never damaged
  pub damaged : (disk : List ℕ) (place : ℕ) → fault ≡ open_fault.Damaged disk place → (contents : List ℕ → List ℕ) (was : Disks)
      → TellsDisks bay_seen seen conf old contents was → IsDamagedDisk conf contents disk place
  pub recovers : (contents : List ℕ → List ℕ) (was : Disks) → TellsDisks bay_seen seen conf old contents was → StandForAll conf contents
      → (disk : List ℕ) (place : ℕ) → fault ≢ open_fault.Damaged disk place
  pub bay : fault ≡ open_fault.Bay → Rose (bay_seen old).faults (bay_seen new).faults
  -- the bay's count rose, or a disk was taken with one at its last value
  pub device : fault ≡ open_fault.Device → Rose (bay_seen old).faults (bay_seen new).faults ⊎ HasLastCount bay_seen conf new
  pub sound : IsSound bay_seen seen old → (fault ≢ open_fault.Bay) × (fault ≢ open_fault.Device)
