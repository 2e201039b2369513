-- The pieces of the rules on hosted states. Private clauses cite this alone.
-- For example in a log of the slots 0, 1 and 5, the slot behind the first two from 0 on is 5, and none is behind the first three.
use Rattle.std.specs.Prelude.{◌≡◌, ◌≤◌, ◌<◌, ◌+◌, ℕ, zero, suc, List, Option, Some, None}
use Rattle.share_model.specs.Logs.{Batch}
use Rattle.share_model.specs.Runs.{row_at}
use Rattle.share_model.specs.declared.row.Row.{Row}
use Rattle.share_model.specs.declared.row.RowState.TheVariants.{Available}
use Rattle.share_model.specs.declared.run.Run.{Run}
use Rattle.share_part.specs.Hosting.{IsHostedRow}
use Rattle.share_part.specs.Slots.{next_slot}

abbrev pub behind : Option ℕ → (ℕ → Option ℕ) → Option ℕ
behind None more = None
behind (Some slot) more = more slot

-- the slot behind so many slots from an offset on
unfoldable pub slot_behind : ℕ → List Batch → ℕ → Option ℕ
slot_behind zero log from = next_slot log from
slot_behind (suc n) log from = behind (next_slot log from) (λ slot. slot_behind n log (slot + 1))

abbrev pub IsBefore : ℕ → Option ℕ → Type 0
IsBefore offset None = Unit {0}
IsBefore offset (Some slot) = offset < slot

-- the counts that a stored row may have
pub record MayBeStored (row : Row) : Type 0 where
  pub delivered : (1 ≤ row.count) × (row.count ≤ 10)
  pub again : row.state ≡ Available → row.count ≤ 9

-- the offsets of a run are such
abbrev pub AllIn : Run → (ℕ → Type 0) → Type 0
AllIn run P = (offset : ℕ) → run.first ≤ offset → offset ≤ run.last → P offset

-- the rows of runs may stand in the log
abbrev pub RowsMayStand : List Batch → ℕ → List Run → Type 0
RowsMayStand log start runs = (offset : ℕ) (row : Row) → row_at runs offset ≡ Some row → IsHostedRow log start offset row
