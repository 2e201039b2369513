-- How many rows are complete, which is acknowledged or archived, so that they are delivered no more (KIP-932, DeliveryState 2 and 4).
-- For example of the runs 0 to 9 acknowledged, 10 to 14 available and 20 to 20 archived eleven rows are complete, and five of those
-- from 5 on and below 20.
use Rattle.std.specs.Prelude.{◌+◌, ◌-◌, ℕ, zero, suc, min, max, Bool, true, false, List, [], ◌∷◌, Option, Some, None, if◌then◌else◌}
use Rattle.share_model.specs.Runs.{row_at}
use Rattle.share_model.specs.declared.row.Row.{Row}
use Rattle.share_model.specs.declared.row.RowState.{RowState}
use Rattle.share_model.specs.declared.row.RowState.TheVariants.{Available, Acknowledged, Archived}
use Rattle.share_model.specs.declared.run.Run.{Run}

abbrev pub is_complete : RowState → Bool
is_complete Available = false
is_complete Acknowledged = true
is_complete Archived = true

-- the complete rows of canonical runs
abbrev pub complete_rows : List Run → ℕ
complete_rows [] = 0
complete_rows (run ∷ runs) = (if is_complete run.state then run.last + 1 - run.first else 0) + complete_rows runs

-- those of a run from an offset on and below another
abbrev pub complete_within : Run → ℕ → ℕ → ℕ
complete_within run from to = if is_complete run.state then min (run.last + 1) to - max run.first from else 0

-- those of canonical runs
abbrev pub complete_between : List Run → ℕ → ℕ → ℕ
complete_between [] from to = 0
complete_between (run ∷ runs) from to = complete_within run from to + complete_between runs from to

-- those from an offset on that others cover
abbrev pub complete_under : (under over : List Run) → ℕ → ℕ
complete_under under [] start = 0
complete_under under (run ∷ runs) start = complete_between under (max run.first start) (run.last + 1) + complete_under under runs start

-- the same as `complete_rows`, counted row by row: how many offsets below an end have a complete row
abbrev pub is_complete_row : Option Row → Bool
is_complete_row None = false
is_complete_row (Some row) = is_complete row.state

abbrev pub count_complete : List Run → ℕ → ℕ
count_complete runs zero = 0
count_complete runs (suc end) = count_complete runs end + (if is_complete_row (row_at runs end) then 1 else 0)
