-- What the acknowledgements of a visit are answered, and leave of a shard (KIP-932; Kafka's ShareAcknowledge). They are all taken, or none is.
-- Offsets below the log's start are passed over. The first that applies: they aren't well formed; the member doesn't hold an offset that they
-- name from there on, as where the group has no table; they name none from there on; the write fails; they are done.
-- Worked example: a log has one batch from 0 to 2, and `a` holds 0 to 2 with count 1. An accept from 0 to 2^63 - 1 is told that 3 isn't held,
-- and leaves all. An accept from 0 to 2 stores the start 3 with no rows, and nothing is held any more; where the device fails, all three
-- are held as before, and the write is pending. Where the power is lost meanwhile, the start is 0 or 3. Had a delete raised the log's start to
-- 2 before, then an accept of 0 and 1 would be done with no write, of whichever member, and one from 0 to 2 would store the start 3.
use Rattle.std.specs.Prelude.{◌≡◌, ◌⊎◌, ◌+◌, ◌<◌, ◌^◌, ℕ, ℤ, pos, negsuc, List, length, Option, Some, None, IsSome}
use Rattle.std.specs.BTreeMap.{insert_entry}
use Rattle.ack_ranges.specs.Batches.{IsWellFormed}
use Rattle.ack_ranges.specs.Faults.{IsFirstFault}
use Rattle.gate_journal.specs.Frames.{IsFrame}
use Rattle.share_model.specs.ForeignRules.{ShareStates, share_state_at}
use Rattle.share_model.specs.Keys.{KeyParts, key_cmp}
use Rattle.share_model.specs.Pending.{WithPending}
use Rattle.share_model.specs.ShareStates.{ShareState}
use Rattle.share_model.specs.declared.run.Run.{Run}
use Rattle.share_model.specs.declared.fault.StoreFault.{StoreFault}
use Rattle.share_model.specs.declared.fault.StoreFault.TheVariants.{Device, Full}
use Rattle.share_model.specs.declared.visit.AckOutcome.{AckOutcome}
use Rattle.share_model.specs.declared.visit.AckOutcome.TheVariants.{Done, Malformed, NotHeld, Store}
use Rattle.share_model.specs.declared.visit.Visit.{Visit}
use Rattle.share_coord.specs.Holding.{GoesTo}
use Rattle.share_coord.specs.Recorded.{IsWriteRecord}
use Rattle.share_coord.specs.Stored.{Entries}
use Rattle.state_records.specs.Spelling.{record_bytes}
use Rattle.state_records.specs.declared.record.StateRecord.{StateRecord}
use Rattle.share_part.specs.Hosting.{PartConfParts, key_of}
use Rattle.share_coord.specs.Raising.{raised_states}
use Rattle.share_coord.specs.States.{AreStates, states_of}
use Rattle.share_part.specs.Named.{named_from}
use Rattle.share_part.specs.Settling.{Acts, AreHeldBy, Change, IsChange, IsLeastMissing, IsSettled, held_after}
use Rattle.share_part.specs.Shards.{IsStill, PartShardState, with_held}
use Rattle.share_part.specs.Tables.{table_of}

-- the states once acts on a group's table are stored
pub record AreSettled (conf : PartConfParts) (old : PartShardState) (group : List ℕ) (acts : Acts) (states : ShareStates) : Type 0 where
  pub state : ShareState
  pub next : ShareState
  pub known : share_state_at old.states (key_of conf group) ≡ Some state
  pub settled : IsSettled conf.limit acts old.log.batches (table_of state (old.held group)) next
  pub is : states ≡ insert_entry key_cmp old.states (key_of conf group) next

-- they are stored, and end what is held
pub record IsActedOn (conf : PartConfParts) (old : PartShardState) (group : List ℕ) (acts : Acts) (new : PartShardState) : Type 0 where
  pub states : AreSettled conf old group acts new.states
  pub nothing : new.pending ≡ None
  pub held : new.held ≡ with_held old.held group (held_after acts (old.held group))

-- A write that would leave such states couldn't be stored: all is as before, and the pending write is the one from before, or none, or this one.
pub record IsNotStored (Leaves : ShareStates → Type 0) (old new : PartShardState) : Type 0 where
  pub states : new.states ≡ old.states
  pub held : new.held ≡ old.held
  pub pending : (new.pending ≡ old.pending) ⊎ ((new.pending ≡ None) ⊎ ((lost : ShareStates) × (new.pending ≡ Some lost) × Leaves lost))

-- a journal that ends at `end` has no room below 2^62 for the frame of a write that would leave such states
pub record HasNoRoom (Leaves : ShareStates → Type 0) (end : ℕ) (old : PartShardState) : Type 0 where
  pub before : Entries
  pub after : Entries
  pub frame : List ℕ
  pub is_before : states_of before ≡ old.states
  pub is_after : Leaves (states_of after)
  pub accepted : GoesTo before frame after
  pub fits : IsFrame frame
  pub past : 2 ^ 62 < end + (length frame + 5)

-- a start as a write carries it: -1 where it doesn't move
abbrev pub start_number : Option ℕ → ℤ
start_number None = negsuc 0
start_number (Some start) = pos start

-- the record that acts store: the rows as they are given, and the start, or -1 where it doesn't move and wasn't raised
abbrev pub IsRecordOf : Entries → KeyParts → Option ℕ → List Run → StateRecord → Type 0
IsRecordOf old key start runs one = IsWriteRecord old key (pos 0) (pos 0) (start_number start) runs one

-- it has none for the record that acts on a group's table store, which is an update or a snapshot
pub record HasNoRoomFor (conf : PartConfParts) (end : ℕ) (old : PartShardState) (group : List ℕ) (acts : Acts) : Type 0 where
  pub before : Entries
  pub state : ShareState
  pub change : Change
  pub one : StateRecord
  pub is_before : states_of before ≡ old.states
  pub known : share_state_at old.states (key_of conf group) ≡ Some state
  pub is_change : IsChange conf.limit acts old.log.batches (table_of state (old.held group)) change
  pub is_one : IsRecordOf before (key_of conf group) change.start change.runs one
  pub past : 2 ^ 62 < end + (length (record_bytes one) + 5)

-- acts that name no offset, and acts that name one
abbrev pub NameNone : Acts → Type 0
NameNone acts = (offset : ℕ) → acts offset ≡ None

abbrev pub NameOne : Acts → Type 0
NameOne acts = (offset : ℕ) × IsSome (acts offset)

-- Acts on a group's table that are stored by one write, by the fault that it met, if it met one; where they name no offset there is no write.
-- `rose` says that more calls of the two state disks have failed, `end` is where the live journal of the states ends.
abbrev pub StoresActs : PartConfParts → (rose : Type 0) → (end : ℕ) → PartShardState → (group : List ℕ) → Acts → PartShardState
    → Option StoreFault → Type 0
StoresActs conf rose end old group acts new None = (NameNone acts × IsStill old new) ⊎ (NameOne acts × IsActedOn conf old group acts new)
StoresActs conf rose end old group acts new (Some Device) = NameOne acts × rose × IsNotStored (AreSettled conf old group acts) old new
StoresActs conf rose end old group acts new (Some (Full at)) = NameOne acts × (at ≡ end) × IsStill old new × HasNoRoomFor conf end old group acts

-- each offset that is named from the log's start on is held by the member
abbrev pub AreTheirs : PartShardState → Visit → Type 0
AreTheirs old visit = IsWellFormed visit.acks × AreHeldBy visit.member (named_from old.log.start visit.acks) (old.held visit.group)

-- the acknowledgements of a visit, by their answer
abbrev pub Acknowledges : PartConfParts → (rose : Type 0) → (end : ℕ) → PartShardState → Visit → PartShardState → AckOutcome → Type 0
Acknowledges conf rose end old visit new (Malformed fault) = IsFirstFault visit.acks fault × IsStill old new
Acknowledges conf rose end old visit new (NotHeld offset) =
    IsWellFormed visit.acks × IsLeastMissing visit.member (named_from old.log.start visit.acks) (old.held visit.group) offset × IsStill old new
Acknowledges conf rose end old visit new Done = AreTheirs old visit × StoresActs conf rose end old visit.group (named_from old.log.start visit.acks) new None
Acknowledges conf rose end old visit new (Store fault) =
    AreTheirs old visit × StoresActs conf rose end old visit.group (named_from old.log.start visit.acks) new (Some fault)

-- the contents of the two state disks stand for states that are these, once each that starts below this offset starts there
abbrev pub AreStatesFrom : (start : ℕ) → (first second : List ℕ) → ShareStates → Type 0
AreStatesFrom start first second states =
    (written : ShareStates) × AreStates first second written × (states ≡ raised_states start written)

-- Contents of the two state disks, found at a moment of a call that stores the acknowledgements of a visit and tries no checkpoint. Raised
-- to where the log starts, they stand for the states at entry, with or without the write that was pending then, or for those with the
-- acknowledgements.
abbrev pub AreWithinAcks : PartConfParts → PartShardState → Visit → (first second : List ℕ) → Type 0
AreWithinAcks conf old visit first second =
    WithPending (AreStatesFrom old.log.start first second) old.states old.pending
    ⊎ ((states : ShareStates) × AreTheirs old visit × AreSettled conf old visit.group (named_from old.log.start visit.acks) states
    × AreStatesFrom old.log.start first second states)
