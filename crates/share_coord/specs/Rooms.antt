-- The memory that a store has set aside for writes that take none. This project's own.
-- For example with room for 6000 runs a key of 2000 may be written 2000 more: they leave at most 6000, and the frame of the record has
-- at most 114315 bytes.
use Rattle.std.specs.Prelude.{◌≡◌, ◌≤◌, ◌+◌, ◌*◌, ℕ, ℤ, List, length, vec_capacity, Some, None, false}
use Rattle.share_model.specs.Keys.{KeyParts}
use Rattle.share_model.specs.declared.run.Run.{Run}
use Rattle.offset_runs.specs.Changes.{room_of}
use Rattle.share_coord.specs.Calls.{IsWritten, write_refusal}
use Rattle.share_coord.specs.Parts.{KeptState}
use Rattle.share_coord.specs.Recorded.{IsWriteRecord}
use Rattle.share_coord.specs.Stored.{Entries, kept_at}
use Rattle.share_coord.specs.declared.store.Store.{Store}
use Rattle.state_records.specs.declared.record.StateRecord.{StateRecord}

-- Room for so many runs: in the rows of each key, in those that a write leaves in their place, in those that it writes, and in the buffer
-- of its frame. A record of version 1 has at most 315 bytes beside 19 for each run, and stands behind four bytes and before one.
pub record HasRoom {D : Type 0} (store : Store D) : Type 0 where
  pub table : store.room ≤ store.table.room
  pub written : store.room ≤ room_of store.written
  pub laid : store.room ≤ room_of store.laid
  pub buffer : 320 + 19 * store.room ≤ vec_capacity store.buffer

-- A write with its key's own epochs that takes no memory: the key is there, no number is out of range, and there is room for its runs.
pub record IsGranted (entries : Entries) (key : KeyParts) (start : ℤ) (runs : List Run) (room : ℕ) : Type 0 where
  pub kept : KeptState
  pub known : kept_at entries key ≡ Some kept
  pub valid : write_refusal (kept_at entries key) kept.view.state_epoch kept.view.leader_epoch start runs ≡ None
  pub fits : length kept.view.runs + 2 * length runs ≤ room
  pub few : length kept.view.runs + 2 * length runs ≤ 1000000

-- what it leaves, and the record that it stores; no checkpoint is made before it
pub record IsOwnWritten (old : Entries) (key : KeyParts) (start : ℤ) (runs : List Run) (new : Entries) : Type 0 where
  pub kept : KeptState
  pub known : kept_at old key ≡ Some kept
  pub is : IsWritten old key kept.view.state_epoch kept.view.leader_epoch start runs new
  pub plain : is.checkpointed ≡ false

pub record IsOwnRecord (old : Entries) (key : KeyParts) (start : ℤ) (runs : List Run) (one : StateRecord) : Type 0 where
  pub kept : KeptState
  pub known : kept_at old key ≡ Some kept
  pub is : IsWriteRecord old key kept.view.state_epoch kept.view.leader_epoch start runs one
  pub plain : is.checkpointed ≡ false
