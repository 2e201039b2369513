-- The table of a group on a partition: its start offset, what is stored of the records from there on, and which of them are acquired
-- (KIP-932, the states of a record: available, acquired, acknowledged and archived, with a delivery count). Rows are told by their
-- canonical runs, and read by offset.
-- Worked example: with offset 4 stored as available with count 2, and 5 held by `a`, a delivery of 4 has count 3, 5 isn't delivered,
-- and a delivery of 6, of which nothing is stored, has count 1.
use Rattle.std.specs.Prelude.{◌≡◌, ◌≤◌, ℕ, ◌+◌, List, [], ◌∷◌, Option, Some, None, unwrap_or}
use Rattle.std.specs.BTreeMap.{insert_entry}
use Rattle.std.specs.Ordering.{nat_cmp}
use Rattle.share_model.specs.ForeignRules.{size_of}
use Rattle.share_model.specs.Held.{Held, hold_at}
use Rattle.share_model.specs.Runs.{row_at}
use Rattle.share_model.specs.ShareStates.{ShareState}
use Rattle.share_model.specs.declared.hold.Hold.{Hold}
use Rattle.share_model.specs.declared.row.Row.{Row}
use Rattle.share_model.specs.declared.row.RowState.{RowState}
use Rattle.share_model.specs.declared.row.RowState.TheVariants.{Available, Acknowledged, Archived}
use Rattle.share_model.specs.declared.run.Run.{Run}

pub record Table : Type 0 where
  pub start : ℕ
  pub rows : List Run
  pub held : Held

-- the table of a stored state, with these holds
abbrev pub table_of : ShareState → Held → Table
table_of state held = record { start = size_of state.start; rows = state.runs; held = held }

-- what is stored of an offset: its row, else available with count 0
abbrev pub stored_row : Table → ℕ → Row
stored_row table offset = unwrap_or (row_at table.rows offset) (record { state = Available; count = 0 })

abbrev pub one_more : RowState → ℕ → Option ℕ
one_more Available count = Some (count + 1)
one_more Acknowledged count = None
one_more Archived count = None

abbrev pub unless_held : Option Hold → Row → Option ℕ
unless_held (Some hold) row = None
unless_held None row = one_more row.state row.count

-- the delivery count with which an offset is acquired now; none where it is held, acknowledged or archived
abbrev pub delivery_of : Table → ℕ → Option ℕ
delivery_of table offset = unless_held (hold_at table.held offset) (stored_row table offset)

-- the holds once these offsets, each with its delivery count, are held by a member until `end`
abbrev pub with_holds : (member : List ℕ) → (end : ℕ) → List (ℕ × ℕ) → Held → Held
with_holds member end [] held = held
with_holds member end (t ∷ taken) held =
    with_holds member end taken (insert_entry nat_cmp held t.0 (record { member = member; end = end; count = t.1 }))

-- each stored row that is available may be delivered once more, for the tenth time at most
abbrev pub MayGoOut : List Run → Type 0
MayGoOut rows = (offset : ℕ) (row : Row) → row_at rows offset ≡ Some row → row.state ≡ Available → row.count ≤ 9
