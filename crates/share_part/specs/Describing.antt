-- How far a group has come on a partition (KIP-932, DescribeShareGroupOffsets: the start offset and the lag of a share-partition, where gaps
-- and holes of the log count; what is held and what is given up are this project's own). It is told row by row of the group's table.
-- Worked example: a log ends at 7. The table starts at 2, 2 is stored as available, 3 and 4 as acknowledged and 5 as archived, and `a` holds 2
-- until 31000. Then the lag is 2, for 2 and 6; one record is held, until 31000; two are acknowledged and one is archived.
use Rattle.std.specs.Prelude.{◌+◌, ℕ, zero, suc, min, Bool, false, not, ◌&&◌, List, [], ◌∷◌, length, Option, Some, None, nat_eq, nat_le, if◌then◌else◌}
use Rattle.offset_runs.specs.Complete.{is_complete_row}
use Rattle.share_model.specs.Held.{Held}
use Rattle.share_model.specs.Logs.{Batch, end_of}
use Rattle.share_model.specs.Rows.{state_number}
use Rattle.share_model.specs.Runs.{row_at}
use Rattle.share_model.specs.declared.row.Row.{Row}
use Rattle.share_model.specs.declared.row.RowState.{RowState}
use Rattle.share_model.specs.declared.row.RowState.TheVariants.{Acknowledged, Archived}
use Rattle.share_model.specs.declared.table_summary.TableSummary.{TableSummary}
use Rattle.share_part.specs.Tables.{Table}

-- how many offsets below an end are such
abbrev pub count_below : (ℕ → Bool) → (end : ℕ) → ℕ
count_below test zero = 0
count_below test (suc end) = count_below test end + (if test end then 1 else 0)

-- how many offsets from the table's start on and below the log's end have such a row, or such none
abbrev pub count_rows : (Option Row → Bool) → List Batch → Table → ℕ
count_rows test log table = count_below (λ offset. nat_le table.start offset && test (row_at table.rows offset)) (end_of log)

-- a row is stored in this state
abbrev pub is_stored_as : RowState → Option Row → Bool
is_stored_as state None = false
is_stored_as state (Some row) = nat_eq (state_number row.state) (state_number state)

-- no complete row is stored, so that a record there may still be delivered
abbrev pub is_open : Option Row → Bool
is_open row = not (is_complete_row row)

abbrev pub earlier : Option ℕ → ℕ → ℕ
earlier None end = end
earlier (Some first) end = min first end

-- the end of the lock that ends first, where something is held
abbrev pub first_end : Held → Option ℕ
first_end [] = None
first_end (entry ∷ held) = Some (earlier (first_end held) entry.1.end)

-- what a describe tells of a table
abbrev pub summary_of : List Batch → Table → TableSummary
summary_of log table = record {
  start = table.start;
  end = end_of log;
  lag = count_rows is_open log table;
  held = length table.held;
  first_lock_end = first_end table.held;
  acknowledged = count_rows (is_stored_as Acknowledged) log table;
  archived = count_rows (is_stored_as Archived) log table;
}
