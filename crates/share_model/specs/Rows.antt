-- A stored row of share-partition state, as the share-group state calls carry it (KIP-932, DeliveryState).
-- For example 4 is the number of an archived row, and 1 and 3 are those of none.
use Rattle.std.specs.Prelude.{ℕ, Option, Some, None, nat_eq, if◌then◌else◌}
use Rattle.share_model.specs.declared.row.RowState.{RowState}
use Rattle.share_model.specs.declared.row.RowState.TheVariants.{Available, Acknowledged, Archived}

-- the number of a state on the wire and on a disk: 0 available, 2 acknowledged, 4 archived
abbrev pub state_number : RowState → ℕ
state_number Available = 0
state_number Acknowledged = 2
state_number Archived = 4

-- the state of a number, where it is that of one
abbrev pub state_of : ℕ → Option RowState
state_of n = if nat_eq n 0 then Some Available else if nat_eq n 2 then Some Acknowledged else if nat_eq n 4 then Some Archived else None
