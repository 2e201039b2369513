-- How a shard in memory and on its disks stands for the machine's. This project's own.
-- For example a store of no keys whose write of `g1` failed at its last sync stands for a shard of no keys with the state of `g1` pending,
-- and a partition whose append of a batch failed so for one with that batch pending.
use Rattle.std.specs.Prelude.{◌≡◌, ◌≤◌, ℕ, List, None, false, is_some, if◌then◌else◌}
use Rattle.edge_io.specs.Disk.{IsTold}
use Rattle.share_coord.specs.Parts.{StoreParts}
use Rattle.share_coord.specs.States.{states_of}
use Rattle.foreign_coord.specs.Shards.{ForeignShardState, Carries as CarriesForeign}
use Rattle.lock_index.specs.Windows.{WindowParts}
use Rattle.share_part.specs.Hosting.{PartConfParts}
use Rattle.part_log.specs.Logs.{log_in}
use Rattle.share_part.specs.Shards.{PartParts, PartShardState, Carries, shard_with}
use Rattle.broker_model.specs.Hosted.{state_a, same_name}
use Rattle.broker_model.specs.Disks.{Disks}
use Rattle.broker_shards.specs.Hosts.{holding}
use Rattle.edge_io.specs.Views.{DiskView}

-- ---- one disk

-- it tells its content, and has found memory at each call
pub record IsFed {D : Type 0} (seen : D → DiskView) (disk : D) : Type 0 where
  pub told : IsTold (seen disk).content
  pub fed : (seen disk).starved ≡ false

-- a disk over calls: its count of faults doesn't fall, and it tells its content where it did
pub record GoesOn {D : Type 0} (seen : D → DiskView) (old new : D) : Type 0 where
  pub later : (seen old).faults ≤ (seen new).faults
  pub told : is_some (seen new).content ≡ is_some (seen old).content

-- ---- foreign state

-- A store on disks that tell their contents and have found memory at each call stands for this shard.
pub record IsCarried {D : Type 0} (seen : D → DiskView)
    (store : StoreParts D) (shard : ForeignShardState) : Type 0 where
  pub carries : CarriesForeign seen store shard
  pub told : IsTold (seen store.journal.first.disk).content
  pub second_told : IsTold (seen store.journal.second.disk).content
  pub fed : (seen store.journal.first.disk).starved ≡ false
  pub second_fed : (seen store.journal.second.disk).starved ≡ false

-- The states stand for what is in memory, whether their disks tell their contents or not: nothing is pending.
abbrev pub AreFreshStates : {D : Type 0} → (D → DiskView) → StoreParts D → Type 0
AreFreshStates seen store = CarriesForeign seen store (record { states = states_of store.entries; pending = None })

-- what the first and the second disk have, by the name
abbrev pub by_name : {A : Type 0} → A → A → List ℕ → A
by_name first second name = if same_name name state_a then first else second

-- what is known of the disks of foreign state, by their names
abbrev pub facts_by : {D : Type 0} → (D → DiskView) → D → D → Disks
facts_by seen first second name = record {
  faults = by_name (seen first).faults (seen second).faults name;
  losses = by_name (seen first).losses (seen second).losses name;
  arms = by_name (seen first).arms (seen second).arms name;
  armed = by_name (seen first).armed (seen second).armed name;
}

-- ---- hosted partitions

-- the shard of a partition in memory
abbrev pub OpenPart : Type 0 → Type 0
OpenPart D = PartParts D WindowParts

-- A partition's shard of this configuration, on disks that tell their contents and have found memory at each call, stands for this one.
pub record IsPartCarried {D : Type 0} (seen : D → DiskView)
    (conf : PartConfParts) (part : OpenPart D) (shard : PartShardState) : Type 0 where
  pub conf_is : part.conf ≡ conf
  pub carries : Carries seen holding part shard
  pub log : IsFed seen part.log.journal.disk
  pub first : IsFed seen part.states.journal.first.disk
  pub second : IsFed seen part.states.journal.second.disk

-- It stands for the log and the tables that it has in memory, whether its disks tell their contents or not: nothing is pending or held, and its
-- clock is 0.
abbrev pub IsFresh : {D : Type 0} → (D → DiskView) → OpenPart D → Type 0
IsFresh seen part = Carries seen holding part (shard_with (log_in part.log) (states_of part.states.entries))
