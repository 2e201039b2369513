-- A checkpoint, frame by frame. This project's own. Worked example: a checkpoint of generation 1 and no snapshot is the frames
-- `03 00 0000000000000001` and `04 00`; until the second one's gate is open it is not sealed.
use Rattle.std.specs.Prelude.{◌≡◌, ◌<◌, ◌^◌, ◌⊎◌, ℕ, false, List, [], ◌∷◌, length}
use Rattle.std.specs.List.{AllByRecursion}
use Rattle.gate_journal.specs.Frames.{IsFrame}
use Rattle.checkpoint_journal.specs.Generations.{checkpoint_of, is_sealed, mark_of, marks_of}
use Rattle.checkpoint_journal.specs.declared.mark.Mark.TheVariants.{Snapshot}

abbrev pub AreSnapshots : List (List ℕ) → Type 0
AreSnapshots frames = AllByRecursion (λ frame. mark_of frame ≡ Snapshot) frames

-- this frame is the first of the old ones, and the new ones are the others
pub record IsNext (old : List (List ℕ)) (frame : List ℕ) (new : List (List ℕ)) : Type 0 where
  pub is : old ≡ frame ∷ new
  pub fits : IsFrame frame
  pub snapshot : mark_of frame ≡ Snapshot

-- no frames, or frames that are not sealed
abbrev pub IsUnfinished : List (List ℕ) → Type 0
IsUnfinished frames = (frames ≡ []) ⊎ (is_sealed (marks_of frames) ≡ false)

-- a checkpoint of these snapshots: a head of some generation, the snapshots, and a seal
pub record IsCheckpoint (snapshots frames : List (List ℕ)) : Type 0 where
  pub generation : ℕ
  pub fits : generation < 2 ^ 64
  pub is : frames ≡ checkpoint_of generation snapshots
  pub few : length frames < 2 ^ 63
