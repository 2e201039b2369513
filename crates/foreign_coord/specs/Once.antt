-- What a call on the foreign shard does, as one record: the contracts of its parts, which `act` has clause by clause. This project's own.
-- For example a call that finds no memory changes nothing.
use Rattle.std.specs.Prelude.{◌≡◌, ◌≢◌, ◌⊎◌, ◌+◌, ◌^◌, ◌<◌, ◌≤◌, length, true, false, Option, Result, IfOk, OnErr}
use Rattle.edge_io.specs.Armed.{StarvesUnarmed}
use Rattle.edge_io.specs.Causes.{Rose}
use Rattle.edge_io.specs.Moments.{LeavesPairs}
use Rattle.flex_fields.specs.declared.fault.NoMemory.{NoMemory}
use Rattle.coord_checkpoint.specs.Writes.{IsQuietBut, MayCheckpoint}
use Rattle.share_model.specs.declared.fault.StoreFault.{StoreFault}
use Rattle.share_model.specs.ErrorCodes.{KAFKA_STORAGE_ERROR}
use Rattle.share_model.specs.declared.foreign.ForeignAnswer.{ForeignAnswer}
use Rattle.share_model.specs.declared.foreign.ForeignOp.{ForeignOp}
use Rattle.share_coord.specs.Parts.{StoreParts}
use Rattle.share_coord.specs.Recorded.{HasRoomFor, IsPending, IsStored}
use Rattle.share_coord.specs.States.{states_of}
use Rattle.share_coord.specs.Stored.{snapshot_frames}
use Rattle.state_records.specs.Spelling.{record_bytes}
use Rattle.state_records.specs.declared.record.StateRecord.{StateRecord}
use Rattle.foreign_coord.specs.Shards.{ForeignShardState, StepsForeign, HasNoRoom, Carries, IsFound, IsRecordOf, writes}
use Rattle.edge_io.specs.Views.{DiskView}

-- the count of faults of one of both disks rose
abbrev pub HasRisen : {D : Type 0} → (D → DiskView) → StoreParts D → StoreParts D → Type 0
HasRisen seen before after = Rose (seen before.journal.first.disk).faults (seen after.journal.first.disk).faults
    ⊎ Rose (seen before.journal.second.disk).faults (seen after.journal.second.disk).faults

-- no call of both disks failed, but those of a checkpoint on one of them
abbrev pub HasFailedNone : {D : Type 0} → (D → DiskView) → StoreParts D → StoreParts D → Type 0
HasFailedNone seen before after = IsQuietBut seen (MayCheckpoint before.journal (snapshot_frames before.entries)) before.journal after.journal

-- a store that carried a state carries one that a step leads to
abbrev pub Carried : {D : Type 0} → (D → DiskView) → ForeignOp → StoreParts D → StoreParts D → ForeignAnswer → Type 0
Carried seen op before after answer = (old : ForeignShardState) → Carries seen before old → (new : ForeignShardState) × (fault : Option StoreFault)
    × Carries seen after new × StepsForeign (HasRisen seen before after) before.journal.end old op answer fault new

-- its record, and no other, is stored, and it had room
abbrev pub PutsRecord : {D : Type 0} → (D → DiskView) → ForeignOp → StoreParts D → StoreParts D → Type 0
PutsRecord seen op before after = ((one : StateRecord) × IsRecordOf before.entries op one × IsStored seen (snapshot_frames before.entries) before.journal after.journal one)
    × ((one : StateRecord) × IsRecordOf before.entries op one × HasRoomFor before.journal.end one)

-- it may be pending, or it had no room
abbrev pub FailsToPut : {D : Type 0} → (D → DiskView) → ForeignOp → StoreParts D → StoreParts D → Type 0
FailsToPut seen op before after = (one : StateRecord) × IsRecordOf before.entries op one
    × (IsPending seen (snapshot_frames before.entries) before.journal after.journal one ⊎ (2 ^ 62 < before.journal.end + (length (record_bytes one) + 5)))

-- What a call does.
pub record ActsOnce {D : Type 0} (seen : D → DiskView) (op : ForeignOp) (before after : StoreParts D) (result : Result ForeignAnswer NoMemory) : Type 0 where
  pub ok : IfOk result (Carried seen op before after)
  pub memory : OnErr result (after ≡ before)
  pub sound : IfOk result (λ answer. answer.code ≡ KAFKA_STORAGE_ERROR →
      StarvesUnarmed seen before.journal.first.disk after.journal.first.disk
      ⊎ (StarvesUnarmed seen before.journal.second.disk after.journal.second.disk ⊎ HasNoRoom before.journal.end (states_of before.entries) op))
  -- no device call failed but those of a checkpoint, unless the answer tells it
  pub quiet : IfOk result (λ answer. answer.code ≢ KAFKA_STORAGE_ERROR → HasFailedNone seen before after)
  -- what writes no record changes nothing
  pub unwritten : IfOk result (λ answer. writes (states_of before.entries) op answer ≡ false → answer.code ≢ KAFKA_STORAGE_ERROR → after ≡ before)
  -- what it stores, and what may be pending where it couldn't
  pub stored : IfOk result (λ answer. writes (states_of before.entries) op answer ≡ true →
      answer.code ≢ KAFKA_STORAGE_ERROR → PutsRecord seen op before after)
  pub unstored : IfOk result (λ answer. answer.code ≡ KAFKA_STORAGE_ERROR → FailsToPut seen op before after)
  pub any_moment : (old : ForeignShardState) → Carries seen before old →
      LeavesPairs seen before.journal.first.disk after.journal.first.disk before.journal.second.disk after.journal.second.disk (IsFound old op)
