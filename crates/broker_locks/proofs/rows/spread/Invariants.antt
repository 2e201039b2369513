use Rattle.std.proofs.Common.{◌≡◌, ◌+◌, ◌++◌, ◌∷◌, [], length, vec_len}
use Rattle.std.specs.List.{AllByRecursion}
use Rattle.broker_locks.specs.Rows.{IsNew, RowOf}
use Rattle.broker_locks.proofs.rows.spread.Given as goal

abbrev pub invariant-loop-row : goal.invariant-loop-row
invariant-loop-row g l = AllByRecursion (RowOf l.locks l.members l.foreign) l.rows.items × AllByRecursion (IsNew l.lock) l.passes.items
    × (length l.passes.items ≡ length l.rows.items) × AllByRecursion (RowOf (l.locks ++ l.lock ∷ []) l.members l.foreign) l.out.items
    × (length l.out.items + length l.rows.items ≡ length l.fn.rows.items)

abbrev pub decreases-loop-row : goal.decreases-loop-row
decreases-loop-row g l = vec_len l.rows
