-- Which record a call stores, and what stands of it on the disks. This project's own.
-- Worked example: a key has start 7, and a row at 8. A write of a row at 9 with start 7 stores an update with start 7
-- and the one run from 9 to 9, and with start -1 the same with -1. Where the key has 500 updates since its last
-- snapshot, either stores a snapshot with start 7 and the rows at 8 and 9. Behind a checkpoint the key has no update since. Where the start was
-- raised to 7, the write with start -1 stores the update with start 7.
use Rattle.std.specs.Prelude.{◌≡◌, ◌⊎◌, ◌<◌, ◌≤◌, ◌+◌, ◌^◌, ℕ, ℤ, pos, List, [], ◌∷◌, ◌++◌, length}
use Rattle.std.specs.Prelude.{int_lt, nat_lt, ◌&&◌, if◌then◌else◌, Some, None, Bool, Result, Err, OnOk}
use Rattle.std.specs.declared.option.Option.{Option}
use Rattle.coord_checkpoint.specs.Stores.{Keeps, MaySeal, StoreParts as JournalParts}
use Rattle.checkpoint_journal.specs.Checkpoints.{IsCheckpoint}
use Rattle.edge_io.specs.Views.{DiskView}
use Rattle.share_model.specs.Keys.{KeyParts}
use Rattle.share_model.specs.ShareStates.{AreWritten, AreLaid, start_after}
use Rattle.share_model.specs.declared.fault.StoreFault.TheVariants.{Device, Full}
use Rattle.share_model.specs.declared.run.Run.{Run}
use Rattle.offset_runs.specs.Complete.{complete_rows}
use Rattle.state_records.specs.Spelling.{record_bytes}
use Rattle.state_records.specs.declared.record.StateRecord.{StateRecord}
use Rattle.state_records.specs.declared.record.StateRecord.TheVariants.{Snapshot, Update}
use Rattle.share_coord.specs.Calls.{counted}
use Rattle.share_coord.specs.Stored.{Entries, based, based_kept, kept_at, next_snapshot}
use Rattle.share_coord.specs.declared.fault.CoordFault.{CoordFault}
use Rattle.share_coord.specs.declared.fault.CoordFault.TheVariants.{Store as store_fault}
use Rattle.share_coord.specs.Parts.{KeptState}

-- ---- which record

-- an initialisation stores a snapshot of leader epoch 0 and no rows
abbrev pub init_record : Entries → KeyParts → ℤ → ℤ → StateRecord
init_record old key state_epoch start = Snapshot (record {
  key = key;
  snapshot = next_snapshot (kept_at old key);
  state_epoch = state_epoch;
  leader_epoch = pos 0;
  start = start;
  complete = Some 0;
  runs = [];
})

-- The start that a record tells is the one that is given; where none is, and the key's was raised since a call stored it, it is the key's.
abbrev pub start_told : KeptState → ℤ → ℤ
start_told kept start = if kept.tells && int_lt start (pos 0) then kept.view.start else start

-- A write stores an update with the epochs that were given, the start that is told and the rows that it writes; behind 500 updates it
-- stores a snapshot of all that the key then has. Either tells how many rows of the key are complete then.
abbrev pub write_record : KeyParts → KeptState → ℤ → ℤ → ℤ → (written laid : List Run) → StateRecord
write_record key kept state_epoch leader_epoch start written laid = if nat_lt kept.updates 500
    then Update (record {
      key = key;
      snapshot = kept.snapshot;
      state_epoch = state_epoch;
      leader_epoch = leader_epoch;
      start = start;
      complete = Some (complete_rows laid);
      runs = written;
    })
    else Snapshot (record {
      key = key;
      snapshot = kept.snapshot + 1;
      state_epoch = state_epoch;
      leader_epoch = leader_epoch;
      start = start_after kept.view.start start;
      complete = Some (complete_rows laid);
      runs = laid;
    })

-- the record of an initialisation, where no checkpoint was made before it, or behind one
abbrev pub IsInitRecord : Entries → KeyParts → ℤ → ℤ → StateRecord → Type 0
IsInitRecord old key state_epoch start one = (checkpointed : Bool) × (one ≡ init_record (based checkpointed old) key state_epoch start)

-- the record of a write, of which there is one where no checkpoint was made before it, and one behind one
pub record IsWriteRecord (old : Entries) (key : KeyParts) (state_epoch leader_epoch start : ℤ) (runs : List Run)
    (one : StateRecord) : Type 0 where
  pub checkpointed : Bool
  pub kept : KeptState
  pub written : List Run
  pub laid : List Run
  pub known : kept_at old key ≡ Some kept
  pub are_written : AreWritten runs written
  pub are_laid : AreLaid (start_after kept.view.start start) kept.view.runs written laid
  pub is : one ≡ write_record key (based_kept checkpointed (counted kept (start_after kept.view.start start))) state_epoch leader_epoch
      (start_told kept start) written laid

-- ---- what stands of it

-- Behind a journal that ends there the frame of the record ends at 2^62 or below. With the frame stand its length in
-- four bytes and a gate.
abbrev pub HasRoomFor : ℕ → StateRecord → Type 0
HasRoomFor end one = end + (length (record_bytes one) + 5) ≤ 2 ^ 62

-- the frames that were there; or those of a checkpoint of these snapshots in their place
abbrev pub IsBased : (snapshots : List (List ℕ)) → List (List ℕ) → List (List ℕ) → Type 0
IsBased snapshots frames base = (base ≡ frames) ⊎ IsCheckpoint snapshots base

-- the frame of the record stands behind those that were there, or behind those of a checkpoint, and nothing is pending
abbrev pub IsStored : {D : Type 0} → (D → DiskView) → (snapshots : List (List ℕ)) → JournalParts D → JournalParts D → StateRecord → Type 0
IsStored seen snapshots old new one = (frames : List (List ℕ)) (sealing : Option (List (List ℕ))) (pending : Option (List ℕ)) →
    Keeps seen old frames sealing pending →
    (base : List (List ℕ)) × IsBased snapshots frames base × Keeps seen new (base ++ record_bytes one ∷ []) None None

-- The frames are those that were there, or those of a checkpoint, and what is pending is that of the record, or none, or the frame from before,
-- which no checkpoint leaves.
-- A checkpoint whose seal may still land is the one from before, or one of these snapshots.
abbrev pub IsPending : {D : Type 0} → (D → DiskView) → (snapshots : List (List ℕ)) → JournalParts D → JournalParts D → StateRecord → Type 0
IsPending seen snapshots old new one = (frames : List (List ℕ)) (sealing : Option (List (List ℕ))) (pending : Option (List ℕ)) →
    Keeps seen old frames sealing pending →
    (base : List (List ℕ)) × (seals : Option (List (List ℕ))) × (waits : Option (List ℕ)) × IsBased snapshots frames base
    × MaySeal sealing snapshots seals × (((base ≡ frames) × (waits ≡ pending)) ⊎ ((waits ≡ None) ⊎ (waits ≡ Some (record_bytes one))))
    × Keeps seen new base seals waits

-- A call that stores one record, which `Is` tells: its frame, and no other but those of a checkpoint of these snapshots before it, is stored,
-- may be pending after a device fault, or has no room. So the call is refused as full where this frame has no room, and nowhere else.
pub record StoresOne {D T : Type 0} (seen : D → DiskView) (snapshots : List (List ℕ)) (Is : StateRecord → Type 0) (old new : JournalParts D)
    (result : Result T CoordFault) : Type 0 where
  pub stored : OnOk result ((one : StateRecord) × Is one × IsStored seen snapshots old new one)
  pub pending : result ≡ Err (store_fault Device) → (one : StateRecord) × Is one × IsPending seen snapshots old new one
  pub full : (end : ℕ) → result ≡ Err (store_fault (Full end)) →
      (end ≡ old.end) × ((one : StateRecord) × Is one × (2 ^ 62 < end + (length (record_bytes one) + 5)))
  pub room : OnOk result ((one : StateRecord) × Is one × HasRoomFor old.end one)
