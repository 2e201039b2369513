-- A store on two disks, and what a crash leaves of it. This project's own.
-- For example a store whose first disk has the frame `61` with that frame pending behind it is found with the frames `61`, or with
-- `61` and `61`. While the seal of its checkpoint may still land on the second disk, it may be found with that checkpoint instead.
use Rattle.std.specs.Prelude.{◌≡◌, ◌⊎◌, ◌+◌, ◌*◌, ◌<◌, ◌≤◌, ◌^◌, ℕ, Bool, true, false, List, [], ◌∷◌, ◌++◌, length, Some, None, if◌then◌else◌}
use Rattle.std.specs.declared.option.Option.{Option}
use Rattle.edge_io.specs.Views.{DiskView}
use Rattle.gate_journal.specs.Journals.{Stands}
use Rattle.gate_journal.specs.declared.writer.Writer.{Writer}
use Rattle.checkpoint_journal.specs.Checkpoints.{IsCheckpoint}
use Rattle.checkpoint_journal.specs.Generations.{IsBeaten, IsListed, IsPlain, IsWhole, mark_of}
use Rattle.checkpoint_journal.specs.Spares.{IsAside}
use Rattle.coord_checkpoint.specs.declared.step.Turn.{Turn}

-- A store as its callers see it: the journals of its two disks, which of them is live and of which generation, and where that one
-- ends, behind which the next frame is written.
pub record StoreParts (D : Type 0) : Type 0 where
  pub first : Writer D
  pub second : Writer D
  pub on_second : Bool
  pub generation : ℕ
  -- a seal may still land on the disk that isn't live
  pub sealing : Bool
  pub end : ℕ

-- the two journals of a store, with what it knows of them
abbrev pub arranged : {D : Type 0} → Writer D → Writer D → Turn → StoreParts D
arranged first second turn = record {
  first = first;
  second = second;
  on_second = turn.on_second;
  generation = turn.generation;
  sealing = turn.sealing;
  end = if turn.on_second then second.end else first.end;
}

abbrev pub live_side : {D : Type 0} → StoreParts D → Writer D
live_side store = if store.on_second then store.second else store.first

abbrev pub idle_side : {D : Type 0} → StoreParts D → Writer D
idle_side store = if store.on_second then store.first else store.second

-- the two contents keep frames of which P holds
abbrev pub Finds : (List (List ℕ) → Type 0) → List ℕ → List ℕ → Type 0
Finds P a b = (found : List (List ℕ)) × IsListed a b found × P found

-- these frames; or the checkpoint of them whose seal may still land; or the frames with the pending one behind them
abbrev pub IsLeft : List (List ℕ) → Option (List (List ℕ)) → Option (List ℕ) → List (List ℕ) → Type 0
IsLeft frames sealing pending found =
    (found ≡ frames) ⊎ (sealing ≡ Some found) ⊎ ((frame : List ℕ) × (pending ≡ Some frame) × (found ≡ frames ++ frame ∷ []))

-- The journal of the live disk is one of these frames, with at most this write pending. The other one is not live, but for a checkpoint
-- of the next generation, if one is named.
pub record AreSides {D : Type 0} (seen : D → DiskView) (live idle : Writer D) (on_second : Bool) (generation : ℕ)
    (frames : List (List ℕ)) (sealing : Option (List (List ℕ))) (pending : Option (List ℕ)) : Type 0 where
  pub written : Option (List ℕ)
  pub within : (written ≡ None) ⊎ (written ≡ pending)
  pub stands : Stands seen live frames written
  pub whole : IsWhole generation frames
  pub plain : (frame : List ℕ) → pending ≡ Some frame → IsPlain (mark_of frame)
  pub aside : IsAside seen idle on_second generation sealing
  pub next : (found : List (List ℕ)) → sealing ≡ Some found → IsWhole (generation + 1) found

-- A store of these frames. A checkpoint of them may still be sealed, if one is named, and a write may be pending, if one is: a crash
-- now leaves one of these, and the next append can go on from there.
pub record Keeps {D : Type 0} (seen : D → DiskView) (store : StoreParts D) (frames : List (List ℕ))
    (sealing : Option (List (List ℕ))) (pending : Option (List ℕ)) : Type 0 where
  pub sides : AreSides seen (live_side store) (idle_side store) store.on_second store.generation frames sealing pending
  pub unsealed : store.sealing ≡ false → sealing ≡ None
  pub clears : store.sealing ≡ true → IsBeaten store.on_second store.generation []
  pub images : (a b : List ℕ) → (seen store.first.disk).image a → (seen store.second.disk).image b → Finds (IsLeft frames sealing pending) a b

-- ---- a write

-- A checkpoint is due with so many keys: the live journal has at least 4096 frames more than twice their number.
abbrev pub IsDueWith : {D : Type 0} → StoreParts D → ℕ → Type 0
IsDueWith store keys = 4096 + 2 * keys ≤ (live_side store).count

-- and where each of the keys has one of these snapshots
abbrev pub IsDue : {D : Type 0} → StoreParts D → List (List ℕ) → Type 0
IsDue store snapshots = IsDueWith store (length snapshots)

-- One of so many keys can be made: there is a next generation, behind which any frame has room, and a first disk without frames isn't live
-- at a tie.
pub record MayMake {D : Type 0} (store : StoreParts D) (keys : ℕ) : Type 0 where
  pub few : keys < 2 ^ 35
  pub next : store.generation < 2 ^ 62
  pub clears : store.on_second ≡ true → 0 < store.generation

-- the frames behind which a frame is written: those that there were, or the checkpoint that was completed
abbrev pub IsBase : List (List ℕ) → List (List ℕ) → Bool → List (List ℕ) → Type 0
IsBase frames snapshots false base = base ≡ frames
IsBase frames snapshots true base = IsCheckpoint snapshots base

-- the checkpoint whose seal may still land, if there is one, is the one from before or one of these snapshots
abbrev pub MaySeal : Option (List (List ℕ)) → List (List ℕ) → Option (List (List ℕ)) → Type 0
MaySeal old snapshots new = (found : List (List ℕ)) → new ≡ Some found → (old ≡ Some found) ⊎ IsCheckpoint snapshots found

-- found at a moment of a write: as at entry, or with a checkpoint, or with the one frame behind the frames, or with the other one behind a
-- checkpoint
abbrev pub IsLeftWithin : List (List ℕ) → Option (List (List ℕ)) → Option (List ℕ) → List (List ℕ) → (frame fresh : List ℕ) → List (List ℕ) → Type 0
IsLeftWithin frames sealing pending snapshots frame fresh found = IsLeft frames sealing pending found ⊎ IsCheckpoint snapshots found
    ⊎ ((checkpointed : Bool) × (base : List (List ℕ)) × IsBase frames snapshots checkpointed base × (found ≡ base ++ (if checkpointed then fresh else frame) ∷ []))
