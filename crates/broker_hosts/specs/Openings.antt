-- What an opening of a shard leaves. This project's own.
-- For example where all disks have `00` foreign state has no keys, a partition has no batches and no tables, and nothing is pending.
use Rattle.std.specs.Prelude.{◌≡◌, ◌⊎◌, ◌≤◌, ◌∷◌, ◌++◌, ℕ, List, Bool, true, false, None}
use Rattle.std.specs.List.{AllByRecursion}
use Rattle.edge_io.specs.declared.name.DiskPlace.{DiskPlace}
use Rattle.edge_io.specs.Armed.{RunsOn, Spends}
use Rattle.edge_io.specs.Names.{hosted_name}
use Rattle.gate_journal.specs.Frames.{StandsAs}
use Rattle.share_model.specs.ForeignRules.{ShareStates}
use Rattle.part_log.specs.Starts.{Log}
use Rattle.share_coord.specs.Parts.{StoreParts}
use Rattle.share_coord.specs.Stored.{AreDamaged}
use Rattle.foreign_coord.specs.Shards.{ForeignShardState}
use Rattle.share_part.specs.Hosting.{ArePartText, PartConfParts}
use Rattle.share_part.specs.Opening.{AreDamagedAt}
use Rattle.share_part.specs.Shards.{shard_with}
use Rattle.topic_conf.specs.Configs.{ConfigParts}
use Rattle.broker_model.specs.Hosted.{Hosted, first_of, hosted_of, log_of, second_of, state_a, state_b}
use Rattle.broker_model.specs.Machine.{StandForStates, StandWith}
use Rattle.broker_model.specs.Disks.{Facts, facts_of}
use Rattle.broker_hosts.specs.declared.slot.PartState.TheVariants as part
use Rattle.broker_hosts.specs.Carried.{IsCarried, IsPartCarried, OpenPart}
use Rattle.edge_io.specs.Views.{DiskView}

-- how a disk stands behind an opening
pub record IsOpenedDisk (was now : Facts) : Type 0 where
  pub losses : now.losses ≡ was.losses
  pub arms : now.arms ≡ was.arms
  pub later : was.faults ≤ now.faults
  pub spends : Spends was.armed now.armed was.faults now.faults

-- A store was opened on disks with these contents: it stands for the states that they stand for, with nothing pending.
pub record IsOpened {D : Type 0} (seen : D → DiskView)
    (first second : D) (a b : List ℕ) (store : StoreParts D) : Type 0 where
  pub shard : ForeignShardState
  pub carried : IsCarried seen store shard
  pub stands : StandForStates a b shard.states
  pub only : (states : ShareStates) → StandForStates a b states → shard.states ≡ states
  pub nothing : shard.pending ≡ None
  pub on_first : IsOpenedDisk (facts_of seen first) (facts_of seen store.journal.first.disk)
  pub on_second : IsOpenedDisk (facts_of seen second) (facts_of seen store.journal.second.disk)

-- each image of the two disks is one that its disk had, or stands for the frames of one
pub record ImagesStandAs {D : Type 0} (seen : D → DiskView) (first second new_first new_second : D) : Type 0 where
  pub on_first : (a : List ℕ) → (seen new_first).image a → StandsAs (seen first).image a
  pub on_second : (b : List ℕ) → (seen new_second).image b → StandsAs (seen second).image b

-- an image of the one disk beside one of the other stands for this shard, with or without its pending write
abbrev pub ImagesStand : {D : Type 0} → (D → DiskView) → ForeignShardState → D → D → Type 0
ImagesStand seen shard first second = (a b : List ℕ) → (seen first).image a → (seen second).image b → StandWith shard a b

abbrev pub name_of : Bool → List ℕ
name_of false = state_a
name_of true = state_b

-- this disk of foreign state stands for nothing: at this place stands what the format doesn't allow. Of two such disks the first is named.
abbrev pub IsDamagedState : List ℕ → List ℕ → List ℕ → ℕ → Type 0
IsDamagedState a b name place = (second : Bool) × (name ≡ name_of second) × AreDamaged a b second place

-- the disk of this name is one of the partition's three, and is damaged at this place
abbrev pub IsDamagedPart : Hosted → (log first second : List ℕ) → (name : List ℕ) → (place : ℕ) → Type 0
IsDamagedPart h log first second name place =
    (disk : DiskPlace) × (name ≡ hosted_name h.topic h.conf.part disk) × AreDamagedAt h.conf log first second disk place

-- the contents of a partition's three disks, by their names, stand for a log and tables
abbrev pub StandsForTables : (List ℕ → List ℕ) → Hosted → Type 0
StandsForTables contents h = (log : Log) × (states : ShareStates)
    × ArePartText h.conf (contents (log_of h)) (contents (first_of h)) (contents (second_of h)) log states

-- This disk of the broker stands for nothing, by this place: one of a partition, or of foreign state, behind partitions whose disks stand for
-- logs and tables. The partitions come in the order of the configuration, and foreign state last.
abbrev pub IsDamagedDisk : ConfigParts → (List ℕ → List ℕ) → List ℕ → ℕ → Type 0
IsDamagedDisk conf contents name place =
    ((before after : List Hosted) × (h : Hosted) × (hosted_of conf ≡ before ++ (h ∷ after)) × AllByRecursion (StandsForTables contents) before
    × IsDamagedPart h (contents (log_of h)) (contents (first_of h)) (contents (second_of h)) name place)
    ⊎ (AllByRecursion (StandsForTables contents) (hosted_of conf) × IsDamagedState (contents state_a) (contents state_b) name place)

-- ---- partitions

-- A partition was opened on disks with these contents: it stands for the log and the tables that they stand for, with nothing pending
-- or held and the clock at 0.
pub record IsOpenedPart {D : Type 0} (seen : D → DiskView) (conf : PartConfParts)
    (log first second : D) (l a b : List ℕ) (part : OpenPart D) : Type 0 where
  pub is : Log
  pub states : ShareStates
  pub carried : IsPartCarried seen conf part (shard_with is states)
  pub stands : ArePartText conf l a b is states
  pub only : (other : Log) (others : ShareStates) → ArePartText conf l a b other others → (is ≡ other) × (states ≡ others)
  pub on_log : IsOpenedDisk (facts_of seen log) (facts_of seen part.log.journal.disk)
  pub on_first : IsOpenedDisk (facts_of seen first) (facts_of seen part.states.journal.first.disk)
  pub on_second : IsOpenedDisk (facts_of seen second) (facts_of seen part.states.journal.second.disk)

-- each image of the three disks is one that its disk had, or stands for the frames of one
pub record PartImagesStandAs {D : Type 0} (seen : D → DiskView) (log first second new_log new_first new_second : D) : Type 0 where
  pub on_log : (l : List ℕ) → (seen new_log).image l → StandsAs (seen log).image l
  pub on_first : (a : List ℕ) → (seen new_first).image a → StandsAs (seen first).image a
  pub on_second : (b : List ℕ) → (seen new_second).image b → StandsAs (seen second).image b

-- no power of its three disks was lost, and no fault was armed on them
pub record PartRunsOn {D : Type 0} (seen : D → DiskView) (log first second new_log new_first new_second : D) : Type 0 where
  pub on_log : RunsOn seen log new_log
  pub on_first : RunsOn seen first new_first
  pub on_second : RunsOn seen second new_second
