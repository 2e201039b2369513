-- What became of the one write that stores acts, and which record it stores. Of these public clauses cite
-- `IsActsStored`, by `Writes`, and the private ones the others.
-- For example a write that fails at the device is told by its fault, and leaves the states.
use Rattle.std.specs.Prelude.{◌≡◌, ◌⊎◌, ◌≤◌, ◌+◌, ◌*◌, ℕ, pos, List, length, Bool, Option, Some, None, Result, Ok, Err}
use Rattle.share_model.specs.ForeignRules.{share_state_at}
use Rattle.share_model.specs.Held.{Held}
use Rattle.share_model.specs.Keys.{KeyParts}
use Rattle.share_model.specs.Logs.{Batch}
use Rattle.share_model.specs.Runs.{IsCanonical}
use Rattle.share_model.specs.ShareStates.{ShareState}
use Rattle.ack_ranges.specs.Batches.{IsWellFormed}
use Rattle.ack_ranges.specs.Faults.{IsFirstFault}
use Rattle.share_model.specs.declared.ack.AckBatch.{AckBatch}
use Rattle.share_model.specs.declared.ack.AckFault.{AckFault}
use Rattle.share_model.specs.declared.visit.AckOutcome.{AckOutcome}
use Rattle.share_model.specs.declared.visit.AckOutcome.TheVariants.{Done, Malformed, NotHeld, Store as refused}
use Rattle.part_log.specs.Starts.{Log}
use Rattle.share_part.specs.Acknowledging.{IsRecordOf, NameNone, NameOne, start_number}
use Rattle.share_part.specs.Hosting.{PartConfParts, key_of}
use Rattle.share_coord.specs.States.{states_of}
use Rattle.share_part.specs.Named.{named_from}
use Rattle.share_part.specs.Settling.{Acts, AreHeldBy, Change, IsChange, IsLeastMissing}
use Rattle.share_part.specs.Tables.{table_of}
use Rattle.share_model.specs.declared.fault.StoreFault.{StoreFault}
use Rattle.share_model.specs.declared.run.Run.{Run}
use Rattle.share_coord.specs.Calls.{IsWritten}
use Rattle.edge_io.specs.Moments.{LeavesPairs}
use Rattle.share_coord.specs.Holding.{Holds, IsWithin, WritesTidied}
use Rattle.share_coord.specs.Parts.{KeptState, StoreParts}
use Rattle.share_coord.specs.Recorded.{StoresOne}
use Rattle.state_records.specs.declared.record.StateRecord.{StateRecord}
use Rattle.share_coord.specs.Stored.{Entries, kept_at, snapshot_frames}
use Rattle.share_coord.specs.declared.fault.CoordFault.{CoordFault}
use Rattle.share_coord.specs.declared.fault.CoordFault.TheVariants.{Store}
use Rattle.edge_io.specs.Views.{DiskView}

-- what acts write of a key
abbrev pub IsStored : Entries → KeyParts → Option ℕ → List Run → Entries → Type 0
IsStored old key start runs new = IsWritten old key (pos 0) (pos 0) (start_number start) runs new

-- what the store answers, by the fault that is told of it
abbrev pub answer_of : Option StoreFault → Result (Unit {0}) CoordFault
answer_of None = Ok tt
answer_of (Some fault) = Err (Store fault)

-- what it answers, by what acknowledgements come to: where they store nothing it isn't asked
abbrev pub answer_to : AckOutcome → Result (Unit {0}) CoordFault
answer_to Done = Ok tt
answer_to (Malformed fault) = Ok tt
answer_to (NotHeld offset) = Ok tt
answer_to (refused fault) = Err (Store fault)

-- Acts that are stored, or aren't, by the fault that is told; behind a checkpoint that is tried where one is due, if one `tries`.
pub record StoresOnce {D : Type 0} (seen : D → DiskView) (Failed : D → D → Type 0)
    (Written : Entries → Type 0) (Is : StateRecord → Type 0) (tries : Bool) (old new : StoreParts D) (fault : Option StoreFault) : Type 0 where
  pub once : WritesTidied seen Failed Written tries old new (answer_of fault)
  pub one : StoresOne seen (snapshot_frames old.entries) Is old.journal new.journal (answer_of fault)

-- at each moment since a write began that tries no checkpoint, a crash leaves what stood at entry, or what it writes
abbrev pub WritesWithin : {D : Type 0} → (D → DiskView) → (Written : Entries → Type 0) → (old new : StoreParts D) → Type 0
WritesWithin seen Written old new = (pending : Option Entries) → Holds seen old pending →
    LeavesPairs seen old.journal.first.disk new.journal.first.disk old.journal.second.disk new.journal.second.disk
    (IsWithin Written old.entries pending)

-- the runs of a stored state are canonical
abbrev pub AreCanonical : Option ShareState → Type 0
AreCanonical state = (its : ShareState) → state ≡ Some its → IsCanonical its.runs

-- Rows that a write with the key's own epochs, which are 0, stores in memory that is set aside: with room for 6000 runs of each key, the key's
-- rows and two runs for each of these are no more.
pub record IsReserved (entries : Entries) (key : KeyParts) (runs : List Run) (room : ℕ) : Type 0 where
  pub kept : KeptState
  pub known : kept_at entries key ≡ Some kept
  pub epochs : (kept.view.state_epoch ≡ pos 0) × (kept.view.leader_epoch ≡ pos 0)
  pub fits : length kept.view.runs + 2 * length runs ≤ 6000
  pub room_is : 6000 ≤ room

-- ---- acts on the table of a group

-- the group has a table, and this came of the write of what acts change of it
pub record IsActsStored {D : Type 0} (seen : D → DiskView) (Failed : D → D → Type 0)
    (conf : PartConfParts) (log : List Batch) (group : List ℕ) (acts : Acts) (held : Held) (tries : Bool) (old new : StoreParts D)
    (fault : Option StoreFault) : Type 0 where
  pub state : ShareState
  pub change : Change
  pub known : share_state_at (states_of old.entries) (key_of conf group) ≡ Some state
  pub is : IsChange conf.limit acts log (table_of state held) change
  pub once : WritesTidied seen Failed (IsStored old.entries (key_of conf group) change.start change.runs) tries old new (answer_of fault)
  pub one : StoresOne seen (snapshot_frames old.entries) (IsRecordOf old.entries (key_of conf group) change.start change.runs)
      old.journal new.journal (answer_of fault)

-- Acts on the table of a group, by the fault that is told: `was` is what the group held, `same` says that all groups hold what they did, and
-- `ends` that the named offsets aren't held any more.
abbrev pub StoresGroup : {D : Type 0} (seen : D → DiskView) (Failed : D → D → Type 0)
    (conf : PartConfParts) (log : List Batch) (group : List ℕ) (acts : Acts) (was : Held) (tries : Bool) (old new : StoreParts D) (same ends : Type 0)
    → Option StoreFault → Type 0
StoresGroup seen Failed conf log group acts was tries old new same ends None =
    (NameNone acts × (new ≡ old) × same) ⊎ (NameOne acts × IsActsStored seen Failed conf log group acts was tries old new None × ends)
StoresGroup seen Failed conf log group acts was tries old new same ends (Some fault) =
    NameOne acts × IsActsStored seen Failed conf log group acts was tries old new (Some fault) × same

-- ---- the acknowledgements of a group

-- the acknowledgements of a group, by their answer
abbrev pub SettlesGroup : {D : Type 0} (seen : D → DiskView) (Failed : D → D → Type 0)
    (conf : PartConfParts) (log : List Batch) (group member : List ℕ) (acts : Acts) (was : Held) (tries : Bool) (old new : StoreParts D) (same ends : Type 0)
    → AckOutcome → Type 0
SettlesGroup seen Failed conf log group member acts was tries old new same ends (NotHeld offset) =
    IsLeastMissing member acts was offset × (new ≡ old) × same
SettlesGroup seen Failed conf log group member acts was tries old new same ends (Malformed fault) = ⊥
SettlesGroup seen Failed conf log group member acts was tries old new same ends Done =
    AreHeldBy member acts was × StoresGroup seen Failed conf log group acts was tries old new same ends None
SettlesGroup seen Failed conf log group member acts was tries old new same ends (refused fault) =
    AreHeldBy member acts was × StoresGroup seen Failed conf log group acts was tries old new same ends (Some fault)

-- Acknowledgements, where the log starts there: they aren't well formed, or name no offset from there on, or are done for the group.
-- `still` says that nothing changed, and `Settles` what is done for the group.
abbrev pub AcksOnce : (start : ℕ) → List AckBatch → (still : Type 0) → (AckOutcome → Type 0) → AckOutcome → Type 0
AcksOnce start acks still Settles ack = ((fault : AckFault) × (ack ≡ Malformed fault) × IsFirstFault acks fault × still)
    ⊎ ((IsWellFormed acks × NameNone (named_from start acks) × (ack ≡ Done) × still)
    ⊎ (IsWellFormed acks × NameOne (named_from start acks) × Settles ack))

-- what the write of acknowledgements leaves of the store: they are well formed, and of what the member holds
pub record IsAcksWritten (conf : PartConfParts) (log : Log) (group member : List ℕ) (acks : List AckBatch) (held : Held)
    (old new : Entries) : Type 0 where
  pub formed : IsWellFormed acks
  pub theirs : AreHeldBy member (named_from log.start acks) held
  pub state : ShareState
  pub change : Change
  pub known : share_state_at (states_of old) (key_of conf group) ≡ Some state
  pub is : IsChange conf.limit (named_from log.start acks) log.batches (table_of state held) change
  pub stored : IsStored old (key_of conf group) change.start change.runs new
