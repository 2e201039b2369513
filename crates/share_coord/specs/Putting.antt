-- One record that a call puts into the journal, behind a checkpoint or without one. This project's own.
-- For example a removal that is put behind a checkpoint of one key leaves its head, the key's snapshot, the seal and the removal; where
-- the checkpoint fails before its seal, the removal stands behind the frames that there were.
use Rattle.std.specs.Prelude.{◌≡◌, ◌⊎◌, ◌+◌, ◌<◌, ◌^◌, ◌++◌, ℕ, List, [], ◌∷◌, length, Bool, true, false, Some, None, Result, Ok, Err, OnOk, OnErr, IfErr, IfSome}
use Rattle.std.specs.declared.option.Option.{Option}
use Rattle.edge_io.specs.Armed.{RunsOn}
use Rattle.edge_io.specs.Moments.{LeavesPairs}
use Rattle.edge_io.specs.Views.{DiskView}
use Rattle.gate_journal.specs.Frames.{IsFrame}
use Rattle.checkpoint_journal.specs.Checkpoints.{IsCheckpoint}
use Rattle.coord_checkpoint.specs.Disks.{HasFailed}
use Rattle.coord_checkpoint.specs.Stores.{Finds, IsBase, IsLeft, Keeps, StoreParts as JournalParts}
use Rattle.coord_checkpoint.specs.Writes.{IsQuietBut, MayCheckpoint}
use Rattle.share_model.specs.declared.fault.StoreFault.{StoreFault}
use Rattle.share_model.specs.declared.fault.StoreFault.TheVariants.{Device, Full}
use Rattle.state_records.specs.Spelling.{IsRecord, record_bytes}
use Rattle.state_records.specs.declared.record.StateRecord.{StateRecord}
use Rattle.state_records.specs.declared.record.StateRecord.TheVariants.{Snapshot, Update, Removal, Head, Seal}
use Rattle.share_coord.specs.Recorded.{HasRoomFor}
use Rattle.share_coord.specs.declared.fault.CoordFault.{CoordFault}
use Rattle.share_coord.specs.declared.fault.CoordFault.TheVariants.{Store, NoMemory}

-- the record where no checkpoint was completed, and the one behind a checkpoint, if one is tried
abbrev pub IsPut : StateRecord → Option StateRecord → Bool → StateRecord → Type 0
IsPut plain fresh false one = one ≡ plain
IsPut plain fresh true one = fresh ≡ Some one

-- a record of one key, which no head and no seal is
abbrev pub IsOfKey : StateRecord → Type 0
IsOfKey (Snapshot state) = Unit {0}
IsOfKey (Update state) = Unit {0}
IsOfKey (Removal key) = Unit {0}
IsOfKey (Head generation) = ⊥
IsOfKey Seal = ⊥

-- a record of one key that fits a frame, and so does the other one
abbrev pub FitsFrame : StateRecord → Type 0
FitsFrame one = IsFrame (record_bytes one) × IsOfKey one

abbrev pub FitFrames : StateRecord → Option StateRecord → Type 0
FitFrames plain fresh = FitsFrame plain × IfSome fresh FitsFrame

-- it is stored, and nothing is pending
pub record HasPut {D : Type 0} (seen : D → DiskView) (new : JournalParts D) (frames snapshots : List (List ℕ)) (plain : StateRecord)
    (fresh : Option StateRecord) (checkpointed : Bool) : Type 0 where
  pub base : List (List ℕ)
  pub one : StateRecord
  pub from : IsBase frames snapshots checkpointed base
  pub is : IsPut plain fresh checkpointed one
  pub valid : IsRecord one
  pub few : length base < 2 ^ 62
  pub keeps : Keeps seen new (base ++ record_bytes one ∷ []) None None

-- It isn't stored. What is pending is nothing, or the frame from before, where no checkpoint was completed, or this one.
pub record HasNotPut {D : Type 0} (seen : D → DiskView) (new : JournalParts D) (frames : List (List ℕ)) (sealing : Option (List (List ℕ)))
    (pending : Option (List ℕ)) (snapshots : List (List ℕ)) (plain : StateRecord) (fresh : Option StateRecord) (checkpointed : Bool) : Type 0 where
  pub base : List (List ℕ)
  pub seals : Option (List (List ℕ))
  pub waits : Option (List ℕ)
  pub from : IsBase frames snapshots checkpointed base
  pub may : (landed : List (List ℕ)) → seals ≡ Some landed → (checkpointed ≡ false) × ((sealing ≡ Some landed) ⊎ IsCheckpoint snapshots landed)
  pub which : (waits ≡ None) ⊎ (((checkpointed ≡ false) × (waits ≡ pending))
      ⊎ ((one : StateRecord) × IsPut plain fresh checkpointed one × IsRecord one × (waits ≡ Some (record_bytes one))))
  pub keeps : Keeps seen new base seals waits

-- what a crash finds at a moment of it: as at entry, or a checkpoint, or the record behind the frames or the checkpoint
abbrev pub IsPutWithin : List (List ℕ) → Option (List (List ℕ)) → Option (List ℕ) → List (List ℕ) → StateRecord → Option StateRecord → List (List ℕ) → Type 0
IsPutWithin frames sealing pending snapshots plain fresh found = IsLeft frames sealing pending found ⊎ (IsCheckpoint snapshots found
    ⊎ ((checkpointed : Bool) × (base : List (List ℕ)) × (one : StateRecord) × IsBase frames snapshots checkpointed base
    × IsPut plain fresh checkpointed one × IsRecord one × (found ≡ base ++ record_bytes one ∷ [])))

-- how an append ended, as it is told
abbrev pub told_as : Result ℕ StoreFault → Result (Unit {0}) CoordFault
told_as (Ok number) = Ok tt
told_as (Err fault) = Err (Store fault)

-- the same of a call that is refused for no other reason
abbrev pub stored_as : Result (Unit {0}) StoreFault → Result (Unit {0}) CoordFault
stored_as (Ok done) = Ok done
stored_as (Err fault) = Err (Store fault)

-- The record is put into the journal, or it is told why not. `snapshots` are those of all keys.
pub record Puts {D : Type 0} (seen : D → DiskView) (snapshots : List (List ℕ)) (plain : StateRecord) (fresh : Option StateRecord)
    (old new : JournalParts D) (checkpointed : Bool) (result : Result (Unit {0}) CoordFault) : Type 0 where
  -- the record that is put
  pub chosen : StateRecord
  pub is : IsPut plain fresh checkpointed chosen
  pub kept : OnOk result ((frames : List (List ℕ)) (sealing : Option (List (List ℕ))) (pending : Option (List ℕ)) →
      Keeps seen old frames sealing pending → HasPut seen new frames snapshots plain fresh checkpointed)
  pub failed : OnErr result ((frames : List (List ℕ)) (sealing : Option (List (List ℕ))) (pending : Option (List ℕ)) →
      Keeps seen old frames sealing pending → HasNotPut seen new frames sealing pending snapshots plain fresh checkpointed)
  pub causes : IfErr result (λ e. (e ≡ NoMemory) ⊎ ((fault : StoreFault) × (e ≡ Store fault)))
  pub device : result ≡ Err (Store Device) → HasFailed seen old.first.disk new.first.disk ⊎ HasFailed seen old.second.disk new.second.disk
  -- it has no room behind the journal at entry, or no memory is found: nothing is changed
  pub full : (frames : List (List ℕ)) (sealing : Option (List (List ℕ))) (pending : Option (List ℕ)) → Keeps seen old frames sealing pending →
      (end : ℕ) → result ≡ Err (Store (Full end)) → (end ≡ old.end) × IsRecord plain
      × (2 ^ 62 < end + (length (record_bytes plain) + 5)) × (new ≡ old) × (checkpointed ≡ false)
  pub memory : result ≡ Err NoMemory → (new ≡ old) × (checkpointed ≡ false)
  pub room : OnOk result ((frames : List (List ℕ)) (sealing : Option (List (List ℕ))) (pending : Option (List ℕ)) → Keeps seen old frames sealing pending →
      HasRoomFor old.end plain)
  pub quiet : OnOk result (IsQuietBut seen (MayCheckpoint old snapshots) old new)
  -- the same disk is live where no checkpoint was completed
  pub turned : checkpointed ≡ false → new.on_second ≡ old.on_second
  pub any_moment : (frames : List (List ℕ)) (sealing : Option (List (List ℕ))) (pending : Option (List ℕ)) → Keeps seen old frames sealing pending →
      LeavesPairs seen old.first.disk new.first.disk old.second.disk new.second.disk
      (Finds (IsPutWithin frames sealing pending snapshots plain fresh))
  pub runs : RunsOn seen old.first.disk new.first.disk × RunsOn seen old.second.disk new.second.disk
