-- The shard of foreign state as a machine: its states, the write that is pending, and what each call answers and leaves of both
-- (KIP-932, the share-group state calls; code 56 and the pending write are this project's own).
-- Worked example: a shard has no keys and nothing is pending. An initialisation of `g1` with epoch 3 and start 7 meets a device
-- fault at its last sync: it is answered with code 56, there is still no key, and the state of `g1` is pending. A read of `g1` is
-- answered with code 3, and leaves both. The same initialisation again is answered with code 0: `g1` is there, and nothing is pending.
use Rattle.std.specs.Prelude.{◌≡◌, ◌⊎◌, ◌<◌, ◌+◌, ◌^◌, ℕ, List, length, Bool, true, false, Option, Some, None, is_some, if◌then◌else◌}
use Rattle.std.specs.Option.{option_map}
use Rattle.std.specs.Ordering.{int_eq}
use Rattle.share_model.specs.ForeignRules.{code_alone}
use Rattle.share_model.specs.ForeignRules.{ShareStates, Does, runs_of, share_state_at}
use Rattle.share_model.specs.Pending.{WithPending}
use Rattle.share_model.specs.declared.fault.StoreFault.{StoreFault}
use Rattle.share_model.specs.declared.fault.StoreFault.TheVariants.{Device, Full}
use Rattle.share_model.specs.ErrorCodes.{NONE, KAFKA_STORAGE_ERROR}
use Rattle.share_model.specs.declared.foreign.ForeignAnswer.{ForeignAnswer}
use Rattle.share_model.specs.declared.foreign.ForeignOp.{ForeignOp}
use Rattle.share_model.specs.declared.foreign.ForeignOp.TheVariants.{Init, Read, Write, Delete}
use Rattle.share_model.specs.declared.run.Run.{Run}
use Rattle.state_records.specs.Spelling.{record_bytes}
use Rattle.state_records.specs.declared.record.StateRecord.{StateRecord}
use Rattle.state_records.specs.declared.record.StateRecord.TheVariants.{Removal}
use Rattle.share_coord.specs.Holding.{Holds}
use Rattle.share_coord.specs.Parts.{StoreParts}
use Rattle.share_coord.specs.Recorded.{IsInitRecord, IsWriteRecord}
use Rattle.share_coord.specs.Stored.{Entries}
use Rattle.share_coord.specs.States.{states_of, AreStates}
use Rattle.share_coord.specs.Unwritten.{NeverRaised}
use Rattle.edge_io.specs.Views.{DiskView}

-- the shard of foreign state: the states, and what the pending write would leave
pub record ForeignShardState : Type 0 where
  pub states : ShareStates
  pub pending : Option ShareStates

-- code 0
abbrev pub is_granted : ForeignAnswer → Bool
is_granted answer = int_eq answer.code.0 NONE.0

-- whether a call that is answered so writes a record: an initialisation and a write that are granted, and a delete of a key that is
-- there
abbrev pub writes : ShareStates → ForeignOp → ForeignAnswer → Bool
writes states (Init key state_epoch start) answer = is_granted answer
writes states (Read key leader_epoch) answer = false
writes states (Write key state_epoch leader_epoch start batches) answer = is_granted answer
writes states (Delete key) answer = is_some (share_state_at states key)

-- what a call leaves where it is granted and writes
abbrev pub Grants : ShareStates → ForeignOp → ShareStates → Type 0
Grants old op new = Does old op (code_alone NONE) new × (writes old op (code_alone NONE) ≡ true)

-- a call that met no store fault is done by the rules; where it wrote, nothing is pending
pub record IsDone (op : ForeignOp) (answer : ForeignAnswer) (old new : ForeignShardState) : Type 0 where
  pub does : Does old.states op answer new.states
  pub pending : new.pending ≡ (if writes old.states op answer then None else old.pending)

-- its record could not be stored: the states are as before, and the pending write is the one from before, or none, or this one
pub record IsUnstored (op : ForeignOp) (old new : ForeignShardState) : Type 0 where
  pub granted : (lost : ShareStates) × Grants old.states op lost
  pub same : new.states ≡ old.states
  pub pending : (new.pending ≡ old.pending) ⊎ ((new.pending ≡ None) ⊎ ((lost : ShareStates) × Grants old.states op lost × (new.pending ≡ Some lost)))

-- the one record that a call stores where it is granted and writes
abbrev pub IsRecordOf : Entries → ForeignOp → StateRecord → Type 0
IsRecordOf old (Init key state_epoch start) one = IsInitRecord old key state_epoch start one
IsRecordOf old (Read key leader_epoch) one = ⊥
IsRecordOf old (Write key state_epoch leader_epoch start batches) one =
    (runs : List Run) × (runs_of batches ≡ Some runs) × IsWriteRecord old key state_epoch leader_epoch start runs one
IsRecordOf old (Delete key) one = one ≡ Removal key

-- the journal, whose last gate ends at `end`, has no room for the frame of this call's record below 2^62
pub record HasNoRoom (end : ℕ) (states : ShareStates) (op : ForeignOp) : Type 0 where
  pub before : Entries
  pub after : ShareStates
  pub one : StateRecord
  pub is_before : states_of before ≡ states
  pub granted : Grants states op after
  pub is_one : IsRecordOf before op one
  pub past : 2 ^ 62 < end + (length (record_bytes one) + 5)

-- A step of the shard. `rose` says that the count of faults of one of its disks rose, `end` is where its live journal ends; `fault` is what
-- the store met.
abbrev pub StepsForeign : (rose : Type 0) (end : ℕ) → ForeignShardState → ForeignOp → ForeignAnswer → Option StoreFault → ForeignShardState → Type 0
StepsForeign rose end old op answer None new = IsDone op answer old new
StepsForeign rose end old op answer (Some Device) new = (answer ≡ code_alone KAFKA_STORAGE_ERROR) × rose × IsUnstored op old new
StepsForeign rose end old op answer (Some (Full at)) new = (answer ≡ code_alone KAFKA_STORAGE_ERROR) × (at ≡ end) × (new ≡ old) × HasNoRoom end old.states op

-- A store in memory and its disks stand for the shard's state.
pub record Carries {D : Type 0} (seen : D → DiskView) (store : StoreParts D) (shard : ForeignShardState) : Type 0 where
  pub pending : Option Entries
  pub holds : Holds seen store pending
  pub states : shard.states ≡ states_of store.entries
  pub pending_is : shard.pending ≡ option_map states_of pending
  -- no start of its keys is ever raised, so the disks stand for the states themselves
  pub unraised : NeverRaised store.entries pending

-- contents found at a moment of a call: those of what stood at entry, with or without its pending write, or of what the call leaves
-- where it is granted
abbrev pub IsFound : ForeignShardState → ForeignOp → List ℕ → List ℕ → Type 0
IsFound old op a b = WithPending (AreStates a b) old.states old.pending ⊎ ((new : ShareStates) × Grants old.states op new × AreStates a b new)
