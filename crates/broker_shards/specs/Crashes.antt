-- What a crash finds on the disks of a shard behind a lock, at each moment since an act on it began. This project's own. Each disk that an
-- act doesn't write keeps to what it could be found with before. A produced batch, a delete, or a call on foreign state stores one record, and is found done
-- or not done; a visit or an expiry may write several times, and what is found at a moment between is said of each write alone, by
-- the crate that makes it. What is found behind any act stands for the state that the history has then.
-- For example while a batch is produced, the log of three records is found with or without what was pending, or with the batch, and on the two
-- disks of the tables nothing new is found.
use Rattle.std.specs.Prelude.{◌⊎◌, ℕ, ℤ, List, Some, max}
use Rattle.edge_io.specs.Moments.{LeavesOnly, LeavesPairs}
use Rattle.edge_io.specs.Views.{DiskView}
use Rattle.share_model.specs.Held.{Held}
use Rattle.share_model.specs.declared.foreign.ForeignOp.{ForeignOp}
use Rattle.part_log.specs.Shards.{HasNoFault, HasRoomAt, HasRoomForMark, IsLogOf, at_end, log_at}
use Rattle.part_log.specs.Starts.LogWrite.{Adds}
use Rattle.share_coord.specs.Parts.{StoreParts}
use Rattle.foreign_coord.specs.Shards.{ForeignShardState, IsFound, Carries as CarriesForeign}
use Rattle.share_part.specs.Deleting.{IsFoundDeleting, IsToDelete}
use Rattle.share_part.specs.Following.{HasNothingToWrite}
use Rattle.share_part.specs.Once.{IsNothingDue}
use Rattle.share_part.specs.Shards.{Carries, PartParts, PartShardState}
use Rattle.share_part.specs.Visits.{AreToWrite}
use Rattle.broker_shards.specs.declared.part.PartAsk.{PartAsk}
use Rattle.broker_shards.specs.declared.part.PartAsk.TheVariants as asks

-- at no moment since is anything found on the disk that couldn't be found before
abbrev pub FindsNothingNew : {D : Type 0} → (D → DiskView) → D → D → Type 0
FindsNothingNew seen old new = LeavesOnly seen old new (seen old).image

-- the batch is stored, or its write fails: it has no fault, and there is room for it
abbrev pub IsToAdd : (end : ℕ) → PartShardState → List ℕ → Type 0
IsToAdd end s batch = HasNoFault batch × HasRoomAt end (at_end s.log.batches batch)

-- the mark of a delete is stored, or its write fails
abbrev pub IsToMark : (end : ℕ) → PartShardState → ℤ → Type 0
IsToMark end s to = (target : ℕ) × IsToDelete (log_at s.log) to target × HasRoomForMark end

-- On the disk of the log. With a batch: the log that was carried, with or without its pending write, or with this one; with a delete: that log
-- or the one that starts at the target. Where there is nothing to write, nothing new.
abbrev pub FoundOnLog : {D W : Type 0} → (D → DiskView) → (W → Held) → PartAsk → PartParts D W → PartParts D W → Type 0
FoundOnLog seen holding (asks.Produce batch) old new = (s : PartShardState) → Carries seen holding old s →
    LeavesOnly seen old.log.journal.disk new.log.journal.disk
    (λ c. IsLogOf s.log c ⊎ IsLogOf (record { batches = s.log.batches; start = s.log.start; pending = Some (Adds (at_end s.log.batches batch)) }) c)
    × ((IsToAdd old.log.journal.end s batch → ⊥) → FindsNothingNew seen old.log.journal.disk new.log.journal.disk)
FoundOnLog seen holding (asks.Delete to) old new = (s : PartShardState) → Carries seen holding old s →
    LeavesOnly seen old.log.journal.disk new.log.journal.disk (IsFoundDeleting s.log to)
    × ((IsToMark old.log.journal.end s to → ⊥) → FindsNothingNew seen old.log.journal.disk new.log.journal.disk)
FoundOnLog seen holding (asks.Visit visit) old new = FindsNothingNew seen old.log.journal.disk new.log.journal.disk
FoundOnLog seen holding (asks.Look group) old new = FindsNothingNew seen old.log.journal.disk new.log.journal.disk
FoundOnLog seen holding (asks.Offer group) old new = FindsNothingNew seen old.log.journal.disk new.log.journal.disk
FoundOnLog seen holding asks.Expire old new = FindsNothingNew seen old.log.journal.disk new.log.journal.disk

-- on both disks of the states
abbrev pub StatesFindNothingNew : {D : Type 0} → (D → DiskView) → StoreParts D → StoreParts D → Type 0
StatesFindNothingNew seen old new =
    FindsNothingNew seen old.journal.first.disk new.journal.first.disk × FindsNothingNew seen old.journal.second.disk new.journal.second.disk

-- a visit that has nothing to store, and an expiry of nothing that is due, don't write them
abbrev pub FoundOnStates : {D W : Type 0} → (D → DiskView) → (W → Held) → (now : ℕ) → PartAsk → PartParts D W → PartParts D W → Type 0
FoundOnStates seen holding now (asks.Visit visit) old new = (s : PartShardState) → Carries seen holding old s → (AreToWrite s visit → ⊥)
    → HasNothingToWrite old.conf s visit visit.then → StatesFindNothingNew seen old.states new.states
FoundOnStates seen holding now (asks.Produce batch) old new = StatesFindNothingNew seen old.states new.states
FoundOnStates seen holding now (asks.Delete to) old new = StatesFindNothingNew seen old.states new.states
FoundOnStates seen holding now (asks.Look group) old new = StatesFindNothingNew seen old.states new.states
FoundOnStates seen holding now (asks.Offer group) old new = StatesFindNothingNew seen old.states new.states
FoundOnStates seen holding now asks.Expire old new =
    IsNothingDue holding old.windows (max old.clock now) → StatesFindNothingNew seen old.states new.states

-- what a crash at a moment of an act on a partition finds on its three disks
pub record FoundWithin {D W : Type 0} (seen : D → DiskView) (holding : W → Held) (now : ℕ) (asked : PartAsk) (old new : PartParts D W) : Type 0 where
  pub log : FoundOnLog seen holding asked old new
  pub states : FoundOnStates seen holding now asked old new

-- At each moment of a call on foreign state a crash finds the states that were carried, with or without the pending write, or what the call
-- leaves where it is granted.
abbrev pub FoundOnForeign : {D : Type 0} → (D → DiskView) → ForeignOp → StoreParts D → StoreParts D → Type 0
FoundOnForeign seen op old new = (s : ForeignShardState) → CarriesForeign seen old s → LeavesPairs seen
    old.journal.first.disk new.journal.first.disk
    old.journal.second.disk new.journal.second.disk (IsFound s op)
