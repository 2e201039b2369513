-- One disk of a store that is opened. This project's own.
-- For example of `01 00000001 61 00` the frame `61` was handed over, with its place 0.
use Rattle.std.specs.Prelude.{◌≡◌, ◌<◌, ◌^◌, ℕ, List, length, map}
use Rattle.edge_io.specs.Views.{DiskView}
use Rattle.gate_journal.specs.Journals.{Opens}
use Rattle.gate_journal.specs.Visits.{placed}
use Rattle.gate_journal.specs.declared.writer.Writer.{Writer}
use Rattle.checkpoint_journal.specs.Standings.{StandsSo}
use Rattle.checkpoint_journal.specs.declared.stands.Standing.{Standing}

-- the frames that were handed over, without their places
abbrev pub frames_in : List (ℕ × List ℕ) → List (List ℕ)
frames_in handed = map (λ (f : ℕ × List ℕ). f.1) handed

-- A journal was opened over a disk, its frames were handed over, and a journal of them stands so; private clauses cite it.
pub record IsRead {D : Type 0} (seen : D → DiskView) (disk : D) (writer : Writer D) (handed : List (ℕ × List ℕ)) (standing : Standing) : Type 0 where
  pub frames : List (List ℕ)
  pub opens : Opens seen disk writer frames
  pub visits : handed ≡ placed 0 frames
  pub stands : StandsSo frames standing
  pub few : length frames < 2 ^ 63
