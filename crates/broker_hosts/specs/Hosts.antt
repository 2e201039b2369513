-- The shards as a broker holds them: how they stand for the machine's, and what is known of their disks by name. This project's own.
-- For example a broker of one partition of `orders` holds its shard on `orders/0/log`, `orders/0/state-a` and `orders/0/state-b`, the
-- members of all groups in memory, and foreign state on its two disks.
use Rattle.std.specs.Prelude.{◌≡◌, ◌≢◌, ◌<◌, ◌≤◌, ℕ, List, [], ◌∷◌, ◌++◌, length, Some, None, map, if◌then◌else◌}
use Rattle.std.specs.List.{AllByRecursion, AllZip, flat_map}
use Rattle.std.specs.declared.option.Option.{Option}
use Rattle.edge_io.specs.declared.name.DiskPlace.{DiskPlace}
use Rattle.edge_io.specs.declared.name.DiskPlace.TheVariants.{Log, LogB, StateA, StateB}
use Rattle.edge_io.specs.declared.fault.Armed.TheVariants.{Nothing}
use Rattle.edge_io.specs.Disk.{IsTold}
use Rattle.edge_io.specs.Names.{IsTopicName, most_partitions}
use Rattle.foreign_coord.specs.Shards.{ForeignShardState}
use Rattle.share_members.specs.Groups.{Memberships}
use Rattle.share_coord.specs.States.{states_of}
use Rattle.share_model.specs.ForeignRules.{ShareStates}
use Rattle.share_part.specs.Hosting.{PartConfParts}
use Rattle.share_part.specs.Leaving.{IsLeftOf}
use Rattle.share_part.specs.Shards.{PartShardState}
use Rattle.broker_model.specs.Hosted.{Hosted, IsLogName, first_of, log_of, part_disks, second_of, state_a, state_b, same_name, hosted_of}
use Rattle.broker_model.specs.Shards.{HostedPart, Shards}
use Rattle.broker_model.specs.Machine.{StandWith, Machine}
use Rattle.broker_model.specs.Disks.{Facts, Disks, facts_of}
use Rattle.broker_hosts.specs.declared.slot.ForeignSlot.{ForeignSlot}
use Rattle.broker_hosts.specs.declared.slot.ForeignSlot.TheVariants as foreign
use Rattle.broker_hosts.specs.declared.slot.PartState.{PartState}
use Rattle.broker_hosts.specs.declared.slot.PartState.TheVariants as part
use Rattle.broker_hosts.specs.declared.slot.PartSlot.{PartSlot}
use Rattle.broker_hosts.specs.declared.hosts.Hosts.{Hosts}
use Rattle.broker_hosts.specs.Carried.{AreFreshStates, IsCarried, IsFresh, IsPartCarried, OpenPart, facts_by, by_name}
use Rattle.topic_conf.specs.Configs.{ConfigParts}
use Rattle.broker_model.specs.States.{State}
use Rattle.edge_io.specs.Views.{DiskView}

-- the shards of the hosted partitions, in the order of their numbers; the members of all groups; foreign state
pub record HostsParts (D : Type 0) : Type 0 where
  pub parts : List (PartSlot D)
  pub members : Memberships
  pub foreign : ForeignSlot D

abbrev pub parts_of : {D : Type 0} → Hosts D → HostsParts D
parts_of hosts = record { parts = hosts.parts.items; members = hosts.members.members; foreign = hosts.foreign }

-- the partition of a slot, as the machine has it
abbrev pub hosted_slot : {D : Type 0} → PartSlot D → Hosted
hosted_slot slot = record { topic = slot.topic; conf = slot.conf }

abbrev pub hosted_slots : {D : Type 0} → List (PartSlot D) → List Hosted
hosted_slots slots = map hosted_slot slots

-- ---- open, or with its disks

abbrev pub IsOpen : {D : Type 0} → ForeignSlot D → Type 0
IsOpen (foreign.Open store) = Unit {0}
IsOpen (foreign.Shut first second) = ⊥
IsOpen foreign.Gone = ⊥

abbrev pub IsHeld : {D : Type 0} → ForeignSlot D → Type 0
IsHeld (foreign.Open store) = Unit {0}
IsHeld (foreign.Shut first second) = Unit {0}
IsHeld foreign.Gone = ⊥

abbrev pub IsOpenState : {D : Type 0} → PartState D → Type 0
IsOpenState (part.Open shard) = Unit {0}
IsOpenState (part.Shut log first second) = ⊥
IsOpenState part.Gone = ⊥

abbrev pub IsHeldState : {D : Type 0} → PartState D → Type 0
IsHeldState (part.Open shard) = Unit {0}
IsHeldState (part.Shut log first second) = Unit {0}
IsHeldState part.Gone = ⊥

abbrev pub AreOpenParts : {D : Type 0} → List (PartSlot D) → Type 0
AreOpenParts slots = AllByRecursion (λ s. IsOpenState s.state) slots

abbrev pub AreHeldParts : {D : Type 0} → List (PartSlot D) → Type 0
AreHeldParts slots = AllByRecursion (λ s. IsHeldState s.state) slots

-- foreign state is open, and as it was opened
abbrev pub IsFreshForeign : {D : Type 0} → (D → DiskView) → ForeignSlot D → Type 0
IsFreshForeign seen (foreign.Open store) = AreFreshStates seen store
IsFreshForeign seen (foreign.Shut first second) = ⊥
IsFreshForeign seen foreign.Gone = ⊥

-- each shard is open, and as it was opened
abbrev pub IsFreshState : {D : Type 0} → (D → DiskView) → PartState D → Type 0
IsFreshState seen (part.Open shard) = IsFresh seen shard
IsFreshState seen (part.Shut log first second) = ⊥
IsFreshState seen part.Gone = ⊥

abbrev pub AreFresh : {D : Type 0} → (D → DiskView) → List (PartSlot D) → Type 0
AreFresh seen slots = AllByRecursion (λ s. IsFreshState seen s.state) slots

-- ---- what is stored

-- of partitions that aren't hosted, and of the groups of one that is
abbrev pub states_at : {D : Type 0} → ForeignSlot D → ShareStates
states_at (foreign.Open store) = states_of store.entries
states_at (foreign.Shut first second) = []
states_at foreign.Gone = []

abbrev pub states_in : {D : Type 0} → PartState D → ShareStates
states_in (part.Open shard) = states_of shard.states.entries
states_in (part.Shut log first second) = []
states_in part.Gone = []

-- ---- all shards

-- each shard can be called
pub record AreOpen {D : Type 0} (hosts : HostsParts D) : Type 0 where
  pub parts : AreOpenParts hosts.parts
  pub foreign : IsOpen hosts.foreign

-- each has its disks
pub record AreHeld {D : Type 0} (hosts : HostsParts D) : Type 0 where
  pub parts : AreHeldParts hosts.parts
  pub foreign : IsHeld hosts.foreign

-- ---- names

-- the disks of these partitions, three for each, and those of foreign state
abbrev pub all_names : List Hosted → List (List ℕ)
all_names hosted = part_disks hosted ++ state_a ∷ state_b ∷ []

abbrev pub NotIn : List (List ℕ) → List ℕ → Type 0
NotIn [] name = Unit {0}
NotIn (n ∷ names) name = (name ≢ n) × NotIn names name

-- no two names are one
abbrev pub AreDistinct : List (List ℕ) → Type 0
AreDistinct [] = Unit {0}
AreDistinct (n ∷ names) = NotIn names n × AreDistinct names

abbrev pub AreApart : {D : Type 0} → HostsParts D → Type 0
AreApart hosts = AreDistinct (all_names (hosted_slots hosts.parts))

-- its disks have names
pub record IsNamed (h : Hosted) : Type 0 where
  pub topic : IsTopicName h.topic
  pub part : h.conf.part < most_partitions

abbrev pub AreNamed : List Hosted → Type 0
AreNamed hosted = AllByRecursion IsNamed hosted

-- ---- disks

-- the disks that are held: those of the partitions under their names, three for each, and the two of foreign state
pub record LeftDisks (D : Type 0) : Type 0 where
  pub parts : List (List ℕ × Option D)
  pub foreign : Option (D × D)

abbrev pub foreign_disks : {D : Type 0} → ForeignSlot D → Option (D × D)
foreign_disks (foreign.Open store) = Some (store.journal.first.disk, store.journal.second.disk)
foreign_disks (foreign.Shut first second) = Some (first, second)
foreign_disks foreign.Gone = None

-- one of a partition's three; of a log's second disk, which no partition has, nothing is asked, and the log's stands there
abbrev pub open_disk : {D : Type 0} → OpenPart D → DiskPlace → D
open_disk shard Log = shard.log.journal.disk
open_disk shard LogB = shard.log.journal.disk
open_disk shard StateA = shard.states.journal.first.disk
open_disk shard StateB = shard.states.journal.second.disk

abbrev pub shut_disk : {D : Type 0} → (log first second : D) → DiskPlace → D
shut_disk log first second Log = log
shut_disk log first second LogB = log
shut_disk log first second StateA = first
shut_disk log first second StateB = second

abbrev pub part_disk : {D : Type 0} → PartState D → DiskPlace → Option D
part_disk (part.Open shard) place = Some (open_disk shard place)
part_disk (part.Shut log first second) place = Some (shut_disk log first second place)
part_disk part.Gone place = None

abbrev pub slot_disks : {D : Type 0} → PartSlot D → List (List ℕ × Option D)
slot_disks slot = (log_of (hosted_slot slot), part_disk slot.state Log) ∷ (first_of (hosted_slot slot), part_disk slot.state StateA)
    ∷ (second_of (hosted_slot slot), part_disk slot.state StateB) ∷ []

abbrev pub slots_disks : {D : Type 0} → List (PartSlot D) → List (List ℕ × Option D)
slots_disks slots = flat_map slot_disks slots

abbrev pub disks_in : {D : Type 0} → HostsParts D → LeftDisks D
disks_in hosts = record { parts = slots_disks hosts.parts; foreign = foreign_disks hosts.foreign }

abbrev pub no_facts : Facts
no_facts = record { faults = 0; losses = []; arms = 0; armed = Nothing }

abbrev pub facts_at : {D : Type 0} → (D → DiskView) → Option D → Facts
facts_at seen None = no_facts
facts_at seen (Some disk) = facts_of seen disk

abbrev pub foreign_facts : {D : Type 0} → (D → DiskView) → Option (D × D) → Disks
foreign_facts seen None name = no_facts
foreign_facts seen (Some disks) name = facts_by seen disks.0 disks.1 name

-- what the first of these has that has this name, or else this
abbrev pub among : {X A : Type 0} → (X → List ℕ) → (X → A) → List X → A → List ℕ → A
among name_of has [] other name = other
among name_of has (x ∷ xs) other name = if same_name name (name_of x) then has x else among name_of has xs other name

-- what is known of the disk of this name among these, or else this
abbrev pub facts_among : {D : Type 0} → (D → DiskView) → List (List ℕ × Option D) → Facts → List ℕ → Facts
facts_among seen disks other name = among (λ e. e.0) (λ e. facts_at seen e.1) disks other name

abbrev pub facts_in : {D : Type 0} → (D → DiskView) → LeftDisks D → Disks
facts_in seen left name =
    facts_among seen left.parts (foreign_facts seen left.foreign name) name

-- where the journals end: that of a log by the name of its disk, and the live one of states by the name of their first disk
abbrev pub foreign_end : {D : Type 0} → ForeignSlot D → List ℕ → ℕ
foreign_end (foreign.Open store) name = by_name store.journal.end 0 name
foreign_end (foreign.Shut first second) name = 0
foreign_end foreign.Gone name = 0

abbrev pub open_end : {D : Type 0} → OpenPart D → DiskPlace → ℕ
open_end shard Log = shard.log.journal.end
open_end shard LogB = 0
open_end shard StateA = shard.states.journal.end
open_end shard StateB = 0

abbrev pub part_end : {D : Type 0} → PartState D → DiskPlace → ℕ
part_end (part.Open shard) place = open_end shard place
part_end (part.Shut log first second) place = 0
part_end part.Gone place = 0

abbrev pub slot_ends : {D : Type 0} → PartSlot D → List (List ℕ × ℕ)
slot_ends slot = (log_of (hosted_slot slot), part_end slot.state Log) ∷ (first_of (hosted_slot slot), part_end slot.state StateA)
    ∷ (second_of (hosted_slot slot), part_end slot.state StateB) ∷ []

abbrev pub ends_among : {D : Type 0} → List (PartSlot D) → ℕ → List ℕ → ℕ
ends_among slots other name = among (λ e. e.0) (λ e. e.1) (flat_map slot_ends slots) other name

abbrev pub ends_in : {D : Type 0} → HostsParts D → List ℕ → ℕ
ends_in hosts name = ends_among hosts.parts (foreign_end hosts.foreign name) name

-- the disk of this name
abbrev pub foreign_disk : {D : Type 0} → Option (D × D) → List ℕ → Option D
foreign_disk None name = None
foreign_disk (Some disks) name = Some (by_name disks.0 disks.1 name)

abbrev pub disk_in : {D : Type 0} → LeftDisks D → List ℕ → Option D
disk_in left name = among (λ e. e.0) (λ e. e.1) left.parts (foreign_disk left.foreign name) name

-- each image of this disk reaches to this end
abbrev pub ReachesTo : {D : Type 0} → (D → DiskView) → Option D → (end : ℕ) → Type 0
ReachesTo seen None end = Unit {0}
ReachesTo seen (Some disk) end = (c : List ℕ) → (seen disk).image c → end ≤ length c

-- what a crash may leave of each log's disk reaches to where the journal on it ends
abbrev pub LogsReach : {D : Type 0} → (D → DiskView) → LeftDisks D → (ends : List ℕ → ℕ) → Type 0
LogsReach seen left ends = (name : List ℕ) → IsLogName name → ReachesTo seen (disk_in left name) (ends name)

-- ---- what they stand for

abbrev pub IsSlot : {D : Type 0} → (D → DiskView) → ForeignSlot D → ForeignShardState → Type 0
IsSlot seen (foreign.Open store) shard = IsCarried seen store shard
IsSlot seen (foreign.Shut first second) shard = ⊥
IsSlot seen foreign.Gone shard = ⊥

abbrev pub IsPartState : {D : Type 0} → (D → DiskView) → PartConfParts → PartState D → PartShardState → Type 0
IsPartState seen conf (part.Open open_part) shard = IsPartCarried seen conf open_part shard
IsPartState seen conf (part.Shut log first second) shard = ⊥
IsPartState seen conf part.Gone shard = ⊥

-- the shard in a slot stands for that of the machine's, which is of the same partition
pub record IsPartSlot {D : Type 0} (seen : D → DiskView) (slot : PartSlot D) (p : HostedPart) : Type 0 where
  pub hosted : p.hosted ≡ hosted_slot slot
  pub state : IsPartState seen slot.conf slot.state p.shard

-- they stand for the machine's
pub record AreCarried {D : Type 0} (seen : D → DiskView)
    (hosts : HostsParts D) (shards : Shards) : Type 0 where
  pub parts : AllZip (IsPartSlot seen) hosts.parts shards.parts
  pub members : shards.members ≡ hosts.members
  pub foreign : IsSlot seen hosts.foreign shards.foreign

-- these disks tell their contents, and each image of the one beside one of the other stands for the state
pub record StandAlone {D : Type 0} (seen : D → DiskView) (shard : ForeignShardState) (first second : D) : Type 0 where
  pub stand : (a b : List ℕ) → (seen first).image a → (seen second).image b → StandWith shard a b
  pub told : IsTold (seen first).content
  pub second_told : IsTold (seen second).content

-- these three disks tell their contents, and images of all three stand for the shard, its log and its tables each with or without the
-- pending write
pub record PartStandsAlone {D : Type 0} (seen : D → DiskView) (conf : PartConfParts) (shard : PartShardState)
    (log first second : D) : Type 0 where
  pub stand : (l a b : List ℕ) → (seen log).image l → (seen first).image a → (seen second).image b → IsLeftOf conf shard l a b
  pub log_told : IsTold (seen log).content
  pub first_told : IsTold (seen first).content
  pub second_told : IsTold (seen second).content

abbrev pub ForeignStill : {D : Type 0} → (D → DiskView) → ForeignShardState → Option (D × D) → Type 0
ForeignStill seen shard None = ⊥
ForeignStill seen shard (Some disks) = StandAlone seen shard disks.0 disks.1

-- these are the three disks of a partition, and stand for its shard
pub record PartStill {D : Type 0} (seen : D → DiskView) (x y z : List ℕ × Option D) (p : HostedPart) : Type 0 where
  pub log : D
  pub first : D
  pub second : D
  pub log_is : x ≡ (log_of p.hosted, Some log)
  pub first_is : y ≡ (first_of p.hosted, Some first)
  pub second_is : z ≡ (second_of p.hosted, Some second)
  pub alone : PartStandsAlone seen p.hosted.conf p.shard log first second

-- three disks for each partition, in order
abbrev pub PartsStill : {D : Type 0} → (D → DiskView) → List (List ℕ × Option D) → List HostedPart → Type 0
PartsStill seen [] [] = Unit {0}
PartsStill seen [] (p ∷ parts) = ⊥
PartsStill seen (x ∷ []) parts = ⊥
PartsStill seen (x ∷ y ∷ []) parts = ⊥
PartsStill seen (x ∷ y ∷ z ∷ disks) [] = ⊥
PartsStill seen (x ∷ y ∷ z ∷ disks) (p ∷ parts) = PartStill seen x y z p × PartsStill seen disks parts

-- the disks stand for the machine's shards, each with or without its pending writes
pub record StandStill {D : Type 0} (seen : D → DiskView) (shards : Shards) (left : LeftDisks D) : Type 0 where
  pub parts : PartsStill seen left.parts shards.parts
  pub foreign : ForeignStill seen shards.foreign left.foreign

-- ---- those of a configuration

-- they are the partitions and the topics of this configuration, each shard has its disks, and no two of these have one name
pub record IsWhole {D : Type 0} (conf : ConfigParts) (all : HostsParts D) : Type 0 where
  pub held : AreHeld all
  pub hosts : hosted_slots all.parts ≡ hosted_of conf
  pub topics : all.members.topics ≡ conf.topics
  pub apart : AreApart all
  pub named : AreNamed (hosted_slots all.parts)

-- the machine, and what is known of the disks
abbrev pub state_over : {D : Type 0} → (D → DiskView) → Machine → HostsParts D → State
state_over seen machine hosts = record { machine = machine; disks = facts_in seen (disks_in hosts); ends = ends_in hosts }
