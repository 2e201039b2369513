-- Rows that are counted by runs. Private clauses cite this alone.
-- For example the runs from 3 to 4 acknowledged and from 5 to 5 archived lie from 2 on and below 7, and have two rows that are acknowledged.
use Rattle.std.specs.Prelude.{◌≡◌, ◌≤◌, ◌<◌, ◌+◌, ◌-◌, ℕ, Bool, List, [], ◌∷◌, Option, Some, if◌then◌else◌}
use Rattle.share_model.specs.Runs.{IsCanonical, row_at, row_of}
use Rattle.share_model.specs.declared.row.Row.{Row}
use Rattle.share_model.specs.declared.run.Run.{Run}

-- canonical runs of which each offset is one from a start on and below an end
pub record LieBetween (runs : List Run) (start end : ℕ) : Type 0 where
  pub canonical : IsCanonical runs
  pub between : (offset : ℕ) (row : Row) → row_at runs offset ≡ Some row → (start ≤ offset) × (offset < end)

-- how many offsets of a run have such a row
abbrev pub count_run : (Option Row → Bool) → Run → ℕ
count_run test run = if test (Some (row_of run)) then run.last + 1 - run.first else 0

-- and of all
abbrev pub count_runs : (Option Row → Bool) → List Run → ℕ
count_runs test [] = 0
count_runs test (run ∷ runs) = count_run test run + count_runs test runs
