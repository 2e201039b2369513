-- What a restart of a shard leaves. This project's own.
-- For example after a power loss that left `00` on all disks foreign state has no keys, a partition has no batches and no tables, and
-- nothing is pending.
use Rattle.std.specs.Prelude.{◌≡◌, ◌≢◌, ◌⊎◌, ◌≤◌, ◌∷◌, ◌++◌, [], ℕ, List, Some}
use Rattle.edge_io.specs.declared.fault.Armed.TheVariants.{Nothing}
use Rattle.edge_io.specs.Causes.{Rose}
use Rattle.edge_io.specs.Disk.{IsTold}
use Rattle.share_model.specs.ForeignRules.{ShareStates}
use Rattle.part_log.specs.Logs.{and_pending}
use Rattle.part_log.specs.Shards.{log_at}
use Rattle.part_log.specs.Starts.{Log}
use Rattle.share_coord.specs.Parts.{StoreParts}
use Rattle.share_coord.specs.Raising.{raised_states}
use Rattle.foreign_coord.specs.Shards.{ForeignShardState}
use Rattle.share_part.specs.Hosting.{ArePartText, PartConfParts}
use Rattle.share_part.specs.Leaving.{IsDoneOr}
use Rattle.share_part.specs.Shards.{PartShardState, shard_with}
use Rattle.broker_model.specs.Machine.{StandForStates, Lands}
use Rattle.broker_model.specs.Disks.{IsRestarted, facts_of}
use Rattle.broker_hosts.specs.declared.fault.CoreOpen.{CoreOpen}
use Rattle.broker_hosts.specs.declared.fault.CoreOpen.TheVariants.{Device, Bay, NoMemory}
use Rattle.broker_core.specs.declared.fault.CoreFault.{CoreFault}
use Rattle.broker_core.specs.declared.fault.CoreFault.TheVariants as event_fault
use Rattle.broker_hosts.specs.declared.slot.PartSlot.{PartSlot}
use Rattle.broker_hosts.specs.declared.slot.PartState.TheVariants as part
use Rattle.broker_hosts.specs.Carried.{GoesOn, IsCarried, IsPartCarried, OpenPart}
use Rattle.broker_core.specs.PartCalls.{PartGoesOn}
use Rattle.broker_hosts.specs.Hosts.{PartStandsAlone}
use Rattle.edge_io.specs.Views.{DiskView}
use Rattle.broker_hosts.specs.Openings.{ImagesStand, PartImagesStandAs}

-- The power of both disks was lost with this choice, and the shard was opened again: it is the old one, whose pending write landed or
-- didn't.
pub record IsRestartedShard {D : Type 0} (seen : D → DiskView)
    (choice : ℕ) (old : StoreParts D) (shard : ForeignShardState) (new : StoreParts D) : Type 0 where
  pub a : List ℕ
  pub b : List ℕ
  pub after : ForeignShardState
  pub carried : IsCarried seen new after
  pub lands : Lands shard after
  pub stands : StandForStates a b after.states
  pub were : (seen old.journal.first.disk).image a × (seen old.journal.second.disk).image b
  pub lost : (seen new.journal.first.disk).losses ≡ (seen old.journal.first.disk).losses ++ (choice, a) ∷ []
  pub second_lost : (seen new.journal.second.disk).losses ≡ (seen old.journal.second.disk).losses ++ (choice, b) ∷ []
  pub on_first : IsRestarted (facts_of seen old.journal.first.disk) (facts_of seen new.journal.first.disk)
  pub on_second : IsRestarted (facts_of seen old.journal.second.disk) (facts_of seen new.journal.second.disk)

-- It was not opened again: the pending write landed, or didn't, or the power was not lost. The disks tell their contents.
pub record IsNotRestarted {D : Type 0} (seen : D → DiskView) (shard : ForeignShardState)
    (first second : D) : Type 0 where
  pub after : ForeignShardState
  pub lands : (after ≡ shard) ⊎ Lands shard after
  pub stand : ImagesStand seen after first second
  pub told : IsTold (seen first).content
  pub second_told : IsTold (seen second).content

-- ---- partitions

-- what a power loss with this choice left of a disk
pub record IsLost {D : Type 0} (seen : D → DiskView) (choice : ℕ) (old new : D) (c : List ℕ) : Type 0 where
  pub is : (seen new).content ≡ Some c
  pub was : (seen old).image c
  pub only : (d : List ℕ) → (seen new).image d → d ≡ c
  pub lost : (seen new).losses ≡ (seen old).losses ++ (choice, c) ∷ []
  pub same_arms : (seen new).arms ≡ (seen old).arms
  pub disarmed : (seen new).armed ≡ Nothing
  pub quiet : (seen new).faults ≡ (seen old).faults

-- The power of its three disks was lost with this choice, and it was opened again: it is the old shard, whose pending writes landed or
-- didn't; each table starts where the log does or behind.
pub record IsRestartedPart {D : Type 0} (seen : D → DiskView)
    (choice : ℕ) (conf : PartConfParts) (old : OpenPart D) (shard : PartShardState) (new : OpenPart D) : Type 0 where
  pub l : List ℕ
  pub a : List ℕ
  pub b : List ℕ
  pub is : Log
  pub states : ShareStates
  pub carried : IsPartCarried seen conf new (shard_with is (raised_states is.start states))
  pub log_is : IsDoneOr (log_at shard.log) (and_pending (log_at shard.log) shard.log.pending) is
  pub later : shard.log.start ≤ is.start
  pub states_are : IsDoneOr shard.states shard.pending states
  pub stands : ArePartText conf l a b is (raised_states is.start states)
  pub were : (seen old.log.journal.disk).image l × (seen old.states.journal.first.disk).image a × (seen old.states.journal.second.disk).image b
  pub log_lost : (seen new.log.journal.disk).losses ≡ (seen old.log.journal.disk).losses ++ (choice, l) ∷ []
  pub first_lost : (seen new.states.journal.first.disk).losses ≡ (seen old.states.journal.first.disk).losses ++ (choice, a) ∷ []
  pub second_lost : (seen new.states.journal.second.disk).losses ≡ (seen old.states.journal.second.disk).losses ++ (choice, b) ∷ []
  pub on_log : IsRestarted (facts_of seen old.log.journal.disk) (facts_of seen new.log.journal.disk)
  pub on_first : IsRestarted (facts_of seen old.states.journal.first.disk)
      (facts_of seen new.states.journal.first.disk)
  pub on_second : IsRestarted (facts_of seen old.states.journal.second.disk) (facts_of seen new.states.journal.second.disk)

-- the shard in a slot was opened again
pub record ReopensSlot {D : Type 0} (seen : D → DiskView) (choice : ℕ) (old new : PartSlot D) : Type 0 where
  pub was : OpenPart D
  pub is : OpenPart D
  pub old_is : old.state ≡ part.Open was
  pub new_is : new.state ≡ part.Open is
  pub topic : new.topic ≡ old.topic
  pub conf : new.conf ≡ old.conf
  pub goes : PartGoesOn seen was is
  pub images : PartImagesStandAs seen was.log.journal.disk was.states.journal.first.disk was.states.journal.second.disk
      is.log.journal.disk is.states.journal.first.disk is.states.journal.second.disk
  pub reopens : (s : PartShardState) → IsPartCarried seen old.conf was s
      → IsRestartedPart seen choice old.conf was s is

-- It was not opened again, for this reason. Disks that tell their contents stand for the shard still, with or without its pending writes.
pub record ShutsSlot {D : Type 0} (seen : D → DiskView)
    (fault : CoreFault) (old new : PartSlot D) : Type 0 where
  pub was : OpenPart D
  pub log : D
  pub first : D
  pub second : D
  pub old_is : old.state ≡ part.Open was
  pub new_is : new.state ≡ part.Shut log first second
  pub topic : new.topic ≡ old.topic
  pub conf : new.conf ≡ old.conf
  pub on_log : GoesOn seen was.log.journal.disk log
  pub on_first : GoesOn seen was.states.journal.first.disk first
  pub on_second : GoesOn seen was.states.journal.second.disk second
  pub images : PartImagesStandAs seen was.log.journal.disk was.states.journal.first.disk was.states.journal.second.disk log first second
  pub shuts : (s : PartShardState) → IsPartCarried seen old.conf was s
      → PartStandsAlone seen old.conf s log first second × (fault ≡ event_fault.NoMemory)
  pub device : fault ≡ event_fault.Reopen Device → Rose (seen was.log.journal.disk).faults (seen log).faults
      ⊎ (Rose (seen was.states.journal.first.disk).faults (seen first).faults ⊎ Rose (seen was.states.journal.second.disk).faults (seen second).faults)
  pub never : (f : CoreOpen) → fault ≡ event_fault.Reopen f → (f ≢ Bay) × (f ≢ NoMemory)

-- shards up to one were opened again, that one was not, and those behind it are as they were
abbrev pub StopsAt : {D : Type 0} → (D → DiskView) → ℕ → CoreFault → List (PartSlot D) → List (PartSlot D) → Type 0
StopsAt seen choice fault [] new = ⊥
StopsAt seen choice fault (x ∷ xs) [] = ⊥
StopsAt seen choice fault (x ∷ xs) (y ∷ ys) =
    (ReopensSlot seen choice x y × StopsAt seen choice fault xs ys)
    ⊎ (ShutsSlot seen fault x y × (ys ≡ xs))
