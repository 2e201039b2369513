-- What one write to a store leaves, and when it is refused. This project's own.
-- For example a write of `61` to a store whose checkpoint is due and is made leaves that checkpoint and `61` behind it; where the
-- checkpoint fails before its seal, `61` stands behind the frames that there were.
use Rattle.std.specs.Prelude.{◌≡◌, ◌≢◌, ◌⊎◌, ◌↔◌, ◌+◌, ◌<◌, ◌≤◌, ◌^◌, ℕ, Bool, true, not, List, [], ◌∷◌, ◌++◌, length, Some, None, Result, Err, OnOk, OnErr, false}
use Rattle.std.specs.Prelude.{if◌then◌else◌}
use Rattle.std.specs.declared.option.Option.{Option}
use Rattle.edge_io.specs.Armed.{RunsOn}
use Rattle.edge_io.specs.Moments.{LeavesPairs}
use Rattle.edge_io.specs.Views.{DiskView}
use Rattle.gate_journal.specs.Journals.{IsQuiet}
use Rattle.share_model.specs.declared.fault.StoreFault.{StoreFault}
use Rattle.share_model.specs.declared.fault.StoreFault.TheVariants.{Device, Full}
use Rattle.coord_checkpoint.specs.Disks.{HasFailed, RoseTwice}
use Rattle.coord_checkpoint.specs.Stores.{Finds, IsBase, IsDue, IsLeft, IsLeftWithin, Keeps, MayMake, MaySeal, StoreParts, idle_side, live_side}
use Rattle.checkpoint_journal.specs.Checkpoints.{IsCheckpoint}
use Rattle.checkpoint_journal.specs.Making.{HasStopped}
use Rattle.gate_journal.specs.declared.writer.Writer.{Writer}

-- A write at Ok: its frame stands behind the frames, or the other one behind a checkpoint of them; no seal may land and nothing is pending.
pub record Adds {D : Type 0} (seen : D → DiskView) (new : StoreParts D) (frames snapshots : List (List ℕ)) (frame fresh : List ℕ)
    (checkpointed : Bool) : Type 0 where
  pub base : List (List ℕ)
  pub from : IsBase frames snapshots checkpointed base
  pub few : length base < 2 ^ 62
  pub keeps : Keeps seen new (base ++ (if checkpointed then fresh else frame) ∷ []) None None

-- A write at Err: the store keeps the frames, or a checkpoint of them. What is pending is nothing, or the write from before, where no
-- checkpoint was completed, or this one.
pub record Stays {D : Type 0} (seen : D → DiskView) (new : StoreParts D) (frames : List (List ℕ)) (sealing : Option (List (List ℕ)))
    (pending : Option (List ℕ)) (snapshots : List (List ℕ)) (frame fresh : List ℕ) (checkpointed : Bool) : Type 0 where
  pub base : List (List ℕ)
  pub seals : Option (List (List ℕ))
  pub waits : Option (List ℕ)
  pub from : IsBase frames snapshots checkpointed base
  pub may : (found : List (List ℕ)) → seals ≡ Some found → (checkpointed ≡ false) × ((sealing ≡ Some found) ⊎ IsCheckpoint snapshots found)
  pub which : (waits ≡ None) ⊎ ((checkpointed ≡ false) × (waits ≡ pending)) ⊎ (waits ≡ Some (if checkpointed then fresh else frame))
  pub keeps : Keeps seen new base seals waits

-- It is refused as full exactly where the frame would end past 2^62 bytes behind the live journal at entry, and then nothing is changed.
pub record Fills {D : Type 0} (seen : D → DiskView) (old new : StoreParts D) (len : ℕ) (checkpointed : Bool) (result : Result ℕ StoreFault) : Type 0 where
  pub exact : (frames : List (List ℕ)) (sealing : Option (List (List ℕ))) (pending : Option (List ℕ)) → Keeps seen old frames sealing pending →
      (end : ℕ) → (result ≡ Err (Full end)) ↔ ((end ≡ old.end) × (2 ^ 62 < old.end + len))
  pub same : (frames : List (List ℕ)) (sealing : Option (List (List ℕ))) (pending : Option (List ℕ)) → Keeps seen old frames sealing pending →
      (end : ℕ) → result ≡ Err (Full end) → (new ≡ old) × (checkpointed ≡ false)

-- the second disk or the first
abbrev pub side : {D : Type 0} → Bool → StoreParts D → D
side on_second store = if on_second then store.second.disk else store.first.disk

-- A device refuses a write only where a call failed on the disk that was live; or on the other one, where that has become live, or
-- where a seal may still land there and its gate couldn't be closed. So a checkpoint that fails before its seal refuses nothing; and where
-- it is this write's seal, two calls failed: one of the seal, and one of the closing of the gate.
abbrev pub RefusesDevice : {D : Type 0} → (D → DiskView) → StoreParts D → StoreParts D → Type 0
RefusesDevice seen old new = HasFailed seen (side old.on_second old) (side old.on_second new)
    ⊎ (HasFailed seen (side (not old.on_second) old) (side (not old.on_second) new) × ((new.on_second ≢ old.on_second) ⊎ ((new.sealing ≡ true)
    × (old.sealing ≡ false → RoseTwice (seen (side (not old.on_second) old)).faults (seen (side (not old.on_second) new)).faults))))

-- calls for a checkpoint may be made: one is due, or the seal of one may still land
abbrev pub MayCheckpoint : {D : Type 0} → StoreParts D → List (List ℕ) → Type 0
MayCheckpoint store snapshots = IsDue store snapshots ⊎ (store.sealing ≡ true)

-- No call of the two disks failed; or calls for a checkpoint were made, which wasn't completed, and none failed of the disk that is live. So
-- those that failed are the checkpoint's own: where it was completed, and of the write itself, none did.
abbrev pub IsQuietBut : {D : Type 0} → (D → DiskView) → Type 0 → StoreParts D → StoreParts D → Type 0
IsQuietBut seen checkpoint old new = (IsQuiet seen old.first.disk new.first.disk × IsQuiet seen old.second.disk new.second.disk)
    ⊎ (checkpoint × (new.on_second ≡ old.on_second) × IsQuiet seen (side old.on_second old) (side old.on_second new))

-- A write to a store of keys with these snapshots: of the one frame, in a buffer of so many bytes, or behind a completed checkpoint of the
-- other one.
pub record Writes {D : Type 0} (seen : D → DiskView) (frame fresh : List ℕ) (snapshots : List (List ℕ)) (len : ℕ) (old new : StoreParts D)
    (checkpointed : Bool) (result : Result ℕ StoreFault) : Type 0 where
  pub kept : OnOk result ((frames : List (List ℕ)) (sealing : Option (List (List ℕ))) (pending : Option (List ℕ)) →
      Keeps seen old frames sealing pending → Adds seen new frames snapshots frame fresh checkpointed)
  pub failed : OnErr result ((frames : List (List ℕ)) (sealing : Option (List (List ℕ))) (pending : Option (List ℕ)) →
      Keeps seen old frames sealing pending → Stays seen new frames sealing pending snapshots frame fresh checkpointed)
  pub full : Fills seen old new len checkpointed result
  pub device : result ≡ Err Device → RefusesDevice seen old new
  pub quiet : OnOk result (IsQuietBut seen (MayCheckpoint old snapshots) old new)
  -- the other disk is live exactly where a checkpoint was completed
  pub turned : new.on_second ≡ (if checkpointed then not old.on_second else old.on_second)
  -- at each moment since it began a crash of each disk leaves what it kept, a checkpoint, or a frame behind the frames or a checkpoint
  pub any_moment : (frames : List (List ℕ)) (sealing : Option (List (List ℕ))) (pending : Option (List ℕ)) →
      Keeps seen old frames sealing pending → LeavesPairs seen old.first.disk new.first.disk old.second.disk new.second.disk
      (Finds (IsLeftWithin frames sealing pending snapshots frame fresh))
  pub runs_first : RunsOn seen old.first.disk new.first.disk
  pub runs_second : RunsOn seen old.second.disk new.second.disk

-- ---- a write with no checkpoint, and a checkpoint with no write

-- A write that tries no checkpoint: the same disk is live. The other one is touched only where a seal may still land on it; and where it is done
-- no call of the live one failed. For example a write to a store that was just opened touches one disk alone.
pub record StaysOn {D T E : Type 0} (seen : D → DiskView) (old new : StoreParts D) (result : Result T E) : Type 0 where
  pub same : new.on_second ≡ old.on_second
  pub other : old.sealing ≡ false → idle_side new ≡ idle_side old
  pub quiet : OnOk result (IsQuiet seen (side old.on_second old) (side old.on_second new))

-- found at a moment of a checkpoint: as at entry, or the checkpoint
abbrev pub IsLeftTrying : List (List ℕ) → Option (List (List ℕ)) → Option (List ℕ) → List (List ℕ) → List (List ℕ) → Type 0
IsLeftTrying frames sealing pending snapshots found = IsLeft frames sealing pending found ⊎ IsCheckpoint snapshots found

-- A checkpoint of these snapshots is to be tried: it is due, it can be made, and the largest frame has room behind the live journal.
abbrev pub IsTimely : {D : Type 0} → StoreParts D → List (List ℕ) → Type 0
IsTimely store snapshots = IsDue store snapshots × MayMake store (length snapshots) × (store.end + 33554437 ≤ 2 ^ 62)

-- behind a call, the journal of the disk that wasn't live before it
abbrev pub other_side : {D : Type 0} → (old new : StoreParts D) → Writer D
other_side old new = if old.on_second then new.first else new.second

-- None was to be tried, and nothing is changed; or one was, and then it was made, or the disk that isn't live tells that it was begun. The
-- largest frame has room behind the journal afterwards too.
abbrev pub TriesTimely : {D : Type 0} → (D → DiskView) → List (List ℕ) → StoreParts D → StoreParts D → Bool → Type 0
TriesTimely seen snapshots old new made = ((new ≡ old) × (made ≡ false) × (IsTimely old snapshots → ⊥))
    ⊎ (IsTimely old snapshots × (new.end + 33554437 ≤ 2 ^ 62)
    × (made ≡ false → HasStopped seen (idle_side old) (other_side old new) (old.generation + 1)))

-- A checkpoint of these snapshots is tried exactly where one is due and can be made, and the largest frame has room behind the live journal.
-- Once it is made nothing is pending, and no call failed; where it fails the store keeps its frames, and what was pending. The disk that was
-- live isn't touched. For example none is tried for a journal of 4095 frames, and one is for 4098 frames of one key.
pub record Tries {D : Type 0} (seen : D → DiskView) (snapshots : List (List ℕ)) (old new : StoreParts D) (is_made : Bool) : Type 0 where
  pub made : is_made ≡ true → (frames : List (List ℕ)) (sealing : Option (List (List ℕ))) (pending : Option (List ℕ)) → Keeps seen old frames sealing pending →
      (base : List (List ℕ)) × IsCheckpoint snapshots base × Keeps seen new base None None
  pub kept : is_made ≡ false → (frames : List (List ℕ)) (sealing : Option (List (List ℕ))) (pending : Option (List ℕ)) → Keeps seen old frames sealing pending →
      (seals : Option (List (List ℕ))) × MaySeal sealing snapshots seals × Keeps seen new frames seals pending
  pub turned : (is_made ≡ true → (new.on_second ≡ not old.on_second) × (new.sealing ≡ false)) × (is_made ≡ false → new.on_second ≡ old.on_second)
  pub live : (if old.on_second then new.second else new.first) ≡ live_side old
  pub quiet : is_made ≡ true → IsQuiet seen (idle_side old).disk (other_side old new).disk
  pub due : (frames : List (List ℕ)) (sealing : Option (List (List ℕ))) (pending : Option (List ℕ)) → Keeps seen old frames sealing pending →
      TriesTimely seen snapshots old new is_made
  pub any_moment : (frames : List (List ℕ)) (sealing : Option (List (List ℕ))) (pending : Option (List ℕ)) → Keeps seen old frames sealing pending →
      LeavesPairs seen old.first.disk new.first.disk old.second.disk new.second.disk (Finds (IsLeftTrying frames sealing pending snapshots))
  pub runs : RunsOn seen old.first.disk new.first.disk × RunsOn seen old.second.disk new.second.disk
