-- Runs of offsets: a look-up from offset to row as a list of (first offset, last offset, row), the form in which
-- KIP-932's state batches carry it.
-- For example `(0, 9, acknowledged, 1)` stands for ten rows.
use Rattle.std.specs.Prelude.{◌≡◌, ◌≢◌, ◌+◌, ◌≤◌, ◌<◌, ℕ, List, [], ◌∷◌, Option, Some, None, nat_le, ◌&&◌, if◌then◌else◌}
use Rattle.share_model.specs.declared.row.Row.{Row}
use Rattle.share_model.specs.declared.run.Run.{Run}

-- the row that each offset of a run has
abbrev pub row_of : Run → Row
row_of run = record { state = run.state; count = run.count }

-- the row at an offset: that of the first run which covers it
abbrev pub row_at : List Run → ℕ → Option Row
row_at [] offset = None
row_at (run ∷ runs) offset = if nat_le run.first offset && nat_le offset run.last then Some (row_of run) else row_at runs offset

-- the runs begin behind this one, and the first of them can't be joined to it
abbrev pub Follows : Run → List Run → Type 0
Follows run [] = Unit {0}
Follows run (next ∷ runs) = (run.last < next.first) × (next.first ≡ run.last + 1 → row_of next ≢ row_of run)

-- canonical runs: none is empty, they are in order and disjoint, and no neighbours could be joined, so that a
-- look-up has one such list
abbrev pub IsCanonical : List Run → Type 0
IsCanonical [] = Unit {0}
IsCanonical (run ∷ runs) = (run.first ≤ run.last) × Follows run runs × IsCanonical runs
