-- Frames by their places on the disk, and reading that changes nothing. This project's own.
-- Worked example: in `01 00000001 61 01 00000002 6263 00` the gate of the frame `61` stands at 0, and that of `6263` at 6.
use Rattle.std.specs.Prelude.{◌≡◌, ◌+◌, ◌≤◌, ℕ, List, ◌∷◌, ◌++◌, length, take}
use Rattle.std.specs.declared.option.Option.{Option}
use Rattle.edge_io.specs.Disk.{SameContent, SameImages}
use Rattle.edge_io.specs.Moments.{LeavesOnly}
use Rattle.edge_io.specs.Views.{DiskView}
use Rattle.gate_journal.specs.Frames.{IsFrame, behind_gate, blocks}
use Rattle.gate_journal.specs.Journals.{Stands}
use Rattle.gate_journal.specs.declared.writer.Writer.{Writer}

-- the gate of this frame stands at the place, behind the frames before it
abbrev pub IsFrameAt : List (List ℕ) → ℕ → List ℕ → Type 0
IsFrameAt frames place frame = (before after : List (List ℕ)) × (frames ≡ before ++ (frame ∷ after)) × (place ≡ length (blocks before))

-- The journal is one of some frames, and the gate of this one stands at the place.
pub record HasFrameAt {D : Type 0} (seen : D → DiskView) (writer : Writer D) (place : ℕ) (frame : List ℕ) : Type 0 where
  pub frames : List (List ℕ)
  pub pending : Option (List ℕ)
  pub stands : Stands seen writer frames pending
  pub at : IsFrameAt frames place frame

-- in a content: an open gate, the length and the frame stand at the place
pub record IsFrameIn (content : List ℕ) (place : ℕ) (frame : List ℕ) : Type 0 where
  pub before : List ℕ
  pub after : List ℕ
  pub is : content ≡ before ++ (1 ∷ (behind_gate frame ++ after))
  pub at : place ≡ length before
  pub fit : IsFrame frame

-- A disk was only looked at: what a read gives and the images are as before, and no crash since might have left anything else.
pub record LooksAt {D : Type 0} (seen : D → DiskView) (old new : D) : Type 0 where
  pub stays : SameContent (seen old) (seen new)
  pub images : SameImages (seen old).image (seen new).image
  pub moments : LeavesOnly seen old new (seen old).image

-- A journal was only looked at: its disk was, its numbers stay, and so do its frames and what is pending, in every reading.
pub record ReadsOnly {D : Type 0} (seen : D → DiskView) (old new : Writer D) : Type 0 where
  pub looks : LooksAt seen old.disk new.disk
  pub rest : new ≡ record { disk = new.disk; end = old.end; count = old.count; mending = old.mending }
  pub stands : (frames : List (List ℕ)) (pending : Option (List ℕ)) → Stands seen old frames pending → Stands seen new frames pending

-- the old bytes, and behind them at most so many
pub record ExtendsWithin (most : ℕ) (old new : List ℕ) : Type 0 where
  pub front : take (length old) new ≡ old
  pub longer : length old ≤ length new
  pub within : length new ≤ length old + most
