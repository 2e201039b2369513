-- A journal whose frames are taken away, so that others can be written to its disk: what a crash may leave of it meanwhile. This project's own.
-- Worked example: while the first gate of `01 00000001 61 00` is closed, a crash leaves the frame `61` or none.
use Rattle.std.specs.Prelude.{◌≡◌, ◌≤◌, ◌⊎◌, ℕ, List, [], ◌∷◌, length}
use Rattle.edge_io.specs.Views.{DiskView}
use Rattle.gate_journal.specs.Clearing.{IsBare, MayClear}
use Rattle.gate_journal.specs.Frames.{StandsFor}
use Rattle.gate_journal.specs.declared.writer.Writer.{Writer}

-- text of frames of which P holds
abbrev pub HasFrames : (List (List ℕ) → Type 0) → List ℕ → Type 0
HasFrames P content = (frames : List (List ℕ)) × StandsFor content frames × P frames

-- One byte or none; or frames of which P holds stand behind an open first gate, which may be open or closed.
abbrev pub IsLoose : (List (List ℕ) → Type 0) → List ℕ → Type 0
IsLoose P content = (length content ≤ 1)
    ⊎ ((gate : ℕ) × (tail : List ℕ) × (content ≡ gate ∷ tail) × HasFrames P (1 ∷ tail))

-- Such a journal. Whether its first gate is open or closed, each image has frames of which P holds, so that it can be cleared; or its
-- first gate is closed in each image.
pub record IsSpare {D : Type 0} (seen : D → DiskView) (journal : Writer D) (P : List (List ℕ) → Type 0) : Type 0 where
  pub none : P []
  pub bare : MayClear seen journal
  pub loose : (IsBare journal → ⊥) → (c : List ℕ) → (seen journal.disk).image c → IsLoose P c
  pub each : (c : List ℕ) → (seen journal.disk).image c → HasFrames P c
