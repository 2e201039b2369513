-- Which records of the state journal stand for which share-partition states: the records are taken one after another, from no
-- keys on. This project's own; the states are KIP-932's.
--
-- A snapshot gives its key this state, whatever it had. An update sets both epochs, the start unless it is -1, and the rows of its
-- runs. A removal takes its key away. Rows below the start go, also those of a snapshot, and at most 1000000 runs are left. The
-- first snapshot of a key has snapshot epoch 0 and each later one has one more; an update has the epoch of its key's last
-- snapshot; a key that was removed begins anew. A record of version 1 tells how many rows its key then has that are acknowledged or
-- archived; one that tells another number breaks the rules. A head stands before all records or nowhere, and a seal once, behind a head and the
-- snapshots that follow it, or nowhere; neither changes a state. Records that break these rules stand for nothing.
-- Worked example: the snapshot of `g1` with snapshot epoch 0, state epoch 3, start 7 and no runs stands for that one key, also between
-- a head and a seal; a second snapshot with snapshot epoch 0 behind it stands for nothing, and so does a second seal.
use Rattle.std.specs.Prelude.{◌≡◌, ◌⊎◌, ◌≤◌, ◌+◌, ℕ, min, List, [], ◌∷◌, ◌++◌, length, map, Some, None, IfSome, Bool, true, false, if◌then◌else◌}
use Rattle.std.specs.declared.option.Option.{Option}
use Rattle.std.specs.BTreeMap.{insert_entry, is_at}
use Rattle.std.specs.Map.{lookup, remove_entry}
use Rattle.gate_journal.specs.Frames.{blocks}
use Rattle.share_model.specs.Keys.{KeyParts, key_cmp}
use Rattle.share_model.specs.ShareStates.{ShareState, AreLaid, start_after}
use Rattle.share_model.specs.declared.run.Run.{Run}
use Rattle.offset_runs.specs.Complete.{complete_rows}
use Rattle.state_records.specs.States.{StateParts}
use Rattle.state_records.specs.Spelling.{IsRecord, record_bytes}
use Rattle.state_records.specs.declared.record.StateRecord.{StateRecord}
use Rattle.state_records.specs.declared.record.StateRecord.TheVariants.{Snapshot, Update, Removal, Head, Seal}
use Rattle.checkpoint_journal.specs.Generations.{IsListed, IsLiveOn, IsUnlisted, mark_of}
use Rattle.checkpoint_journal.specs.declared.mark.Mark.{Mark}
use Rattle.checkpoint_journal.specs.declared.mark.Mark.TheVariants as marks
use Rattle.share_coord.specs.Parts.{KeptState}
use Rattle.share_coord.specs.declared.walk.Walk.{Walk}
use Rattle.share_coord.specs.declared.walk.Walk.TheVariants.{First, Snapshots, Records}

-- what is kept of each key, in the order of the keys
abbrev pub Entries : Type 0
Entries = List (KeyParts × KeptState)

abbrev pub kept_at : Entries → KeyParts → Option KeptState
kept_at entries key = lookup (is_at (key_cmp key)) entries

abbrev pub with_kept : Entries → KeyParts → KeptState → Entries
with_kept entries key kept = insert_entry key_cmp entries key kept

abbrev pub without_key : Entries → KeyParts → Entries
without_key entries key = remove_entry (is_at (key_cmp key)) entries

-- the snapshot epoch of a key's next snapshot
abbrev pub next_snapshot : Option KeptState → ℕ
next_snapshot None = 0
next_snapshot (Some kept) = kept.snapshot + 1

-- what a snapshot leaves of its key, with these runs
abbrev pub snapshot_of : StateParts → List Run → KeptState
snapshot_of state runs = record {
  view = record { state_epoch = state.state_epoch; leader_epoch = state.leader_epoch; start = state.start; runs = runs };
  snapshot = state.snapshot;
  updates = 0;
  raised = false;
  tells = false;
}

-- what an update leaves of its key, with these runs; updates are counted up to 500
abbrev pub update_of : KeptState → StateParts → List Run → KeptState
update_of kept state runs = record {
  view = record { state_epoch = state.state_epoch; leader_epoch = state.leader_epoch; start = start_after kept.view.start state.start; runs = runs };
  snapshot = kept.snapshot;
  updates = min (kept.updates + 1) 500;
  raised = false;
  tells = false;
}

-- the number that a record tells, if it tells one, is that of the complete rows of these runs
abbrev pub Tells : Option ℕ → List Run → Type 0
Tells complete runs = IfSome complete (λ n. n ≡ complete_rows runs)

pub record IsSnapshotted (old : Entries) (state : StateParts) (new : Entries) : Type 0 where
  pub runs : List Run
  pub next : state.snapshot ≡ next_snapshot (kept_at old state.key)
  pub laid : AreLaid state.start [] state.runs runs
  pub few : length runs ≤ 1000000
  pub told : Tells state.complete runs
  pub is : new ≡ with_kept old state.key (snapshot_of state runs)

pub record IsUpdated (old : Entries) (state : StateParts) (new : Entries) : Type 0 where
  pub kept : KeptState
  pub runs : List Run
  pub known : kept_at old state.key ≡ Some kept
  pub same : state.snapshot ≡ kept.snapshot
  pub laid : AreLaid (start_after kept.view.start state.start) kept.view.runs state.runs runs
  pub few : length runs ≤ 1000000
  pub told : Tells state.complete runs
  pub is : new ≡ with_kept old state.key (update_of kept state runs)

pub record IsRemoved (old : Entries) (key : KeyParts) (new : Entries) : Type 0 where
  pub kept : KeptState
  pub known : kept_at old key ≡ Some kept
  pub is : new ≡ without_key old key

-- One record more. A head and a seal belong to no key, and follow no states.
abbrev pub Follows : Entries → StateRecord → Entries → Type 0
Follows old (Snapshot state) new = IsSnapshotted old state new
Follows old (Update state) new = IsUpdated old state new
Follows old (Removal key) new = IsRemoved old key new
Follows old (Head generation) new = ⊥
Follows old Seal new = ⊥

-- one frame more, which is the bytes of a record
pub record Accepts (old : Entries) (frame : List ℕ) (new : Entries) : Type 0 where
  pub written : StateRecord
  pub valid : IsRecord written
  pub bytes : frame ≡ record_bytes written
  pub follows : Follows old written new

-- frames, one after another
abbrev pub AreAccepted : Entries → List (List ℕ) → Entries → Type 0
AreAccepted old [] new = new ≡ old
AreAccepted old (frame ∷ frames) new = (mid : Entries) × Accepts old frame mid × AreAccepted mid frames new

-- ---- the records among the frames of a journal

-- A head is passed over where it is the first frame, and a seal behind a head and snapshots.
abbrev pub is_passed : Walk → Mark → Bool
is_passed First (marks.Head n) = true
is_passed First marks.Snapshot = false
is_passed First marks.Seal = false
is_passed First marks.Other = false
is_passed Snapshots (marks.Head n) = false
is_passed Snapshots marks.Snapshot = false
is_passed Snapshots marks.Seal = true
is_passed Snapshots marks.Other = false
is_passed Records mark = false

-- where the walk stands behind a frame
abbrev pub walked : Walk → Mark → Walk
walked First (marks.Head n) = Snapshots
walked First marks.Snapshot = Records
walked First marks.Seal = Records
walked First marks.Other = Records
walked Snapshots (marks.Head n) = Records
walked Snapshots marks.Snapshot = Snapshots
walked Snapshots marks.Seal = Records
walked Snapshots marks.Other = Records
walked Records mark = Records

abbrev pub walk_of : Walk → List (List ℕ) → Walk
walk_of walk [] = walk
walk_of walk (frame ∷ frames) = walk_of (walked walk (mark_of frame)) frames

-- the frames without those that are passed over
abbrev pub records_from : Walk → List (List ℕ) → List (List ℕ)
records_from walk [] = []
records_from walk (frame ∷ frames) =
    (if is_passed walk (mark_of frame) then [] else frame ∷ []) ++ records_from (walked walk (mark_of frame)) frames

-- the frames of a journal stand for this
abbrev pub AreTaken : List (List ℕ) → Entries → Type 0
AreTaken frames entries = AreAccepted [] (records_from First frames) entries

-- the contents of the two disks stand for this
pub record AreStored (first second : List ℕ) (entries : Entries) : Type 0 where
  pub frames : List (List ℕ)
  pub listed : IsListed first second frames
  pub taken : AreTaken frames entries

-- the frame behind the open gate at this place doesn't go on from those before it
pub record IsRefused (frames : List (List ℕ)) (place : ℕ) : Type 0 where
  pub before : List (List ℕ)
  pub frame : List ℕ
  pub behind : List (List ℕ)
  pub entries : Entries
  pub parts : frames ≡ before ++ frame ∷ behind
  pub taken : AreTaken before entries
  pub refused : (new : Entries) → AreTaken (before ++ frame ∷ []) new → ⊥
  pub at : place ≡ length (blocks before)

-- the contents keep frames, of which one is refused; the disk is the live one
pub record IsRefusedOn (first second : List ℕ) (on_second : Bool) (place : ℕ) : Type 0 where
  pub frames : List (List ℕ)
  pub live : IsLiveOn first second on_second frames
  pub refused : IsRefused frames place

-- The contents stand for nothing, by this place of this disk: they keep no list of frames; or a frame of the live journal is refused.
-- The first of these that applies is named.
abbrev pub AreDamaged : List ℕ → List ℕ → Bool → ℕ → Type 0
AreDamaged first second on_second place = IsUnlisted first second on_second place ⊎ IsRefusedOn first second on_second place

-- ---- what a checkpoint leaves

-- its last snapshot is its first, no update follows, and what is kept is written
abbrev pub renewed_kept : KeptState → KeptState
renewed_kept kept = record { view = kept.view; snapshot = 0; updates = 0; raised = false; tells = kept.tells }

abbrev pub renewed : Entries → Entries
renewed entries = map (λ e. (e.0, renewed_kept e.1)) entries

-- what its snapshots stand for
abbrev pub settled_kept : KeptState → KeptState
settled_kept kept = record { view = kept.view; snapshot = 0; updates = 0; raised = false; tells = false }

abbrev pub settled : Entries → Entries
settled entries = map (λ e. (e.0, settled_kept e.1)) entries

-- the entries from which a call goes on: as they were, or as a checkpoint leaves them
abbrev pub based : Bool → Entries → Entries
based checkpointed entries = if checkpointed then renewed entries else entries

abbrev pub based_kept : Bool → KeptState → KeptState
based_kept checkpointed kept = if checkpointed then renewed_kept kept else kept

-- what a checkpoint stores of a key
abbrev pub snapshot_record : KeyParts → ShareState → StateRecord
snapshot_record key view = Snapshot (record {
  key = key;
  snapshot = 0;
  state_epoch = view.state_epoch;
  leader_epoch = view.leader_epoch;
  start = view.start;
  complete = Some (complete_rows view.runs);
  runs = view.runs;
})

abbrev pub snapshot_frames : Entries → List (List ℕ)
snapshot_frames entries = map (λ e. record_bytes (snapshot_record e.0 e.1.view)) entries

-- the entries without those of this key, if one is named
abbrev pub kept_left : Option KeyParts → Entries → Entries
kept_left None entries = entries
kept_left (Some key) entries = without_key entries key
