use Rattle.std.proofs.Common.{◌≡◌, ◌+◌, [], length, vec_len}
use Rattle.std.specs.List.{AllByRecursion}
use Rattle.broker_locks.specs.Rows.{IsNew, RowOf}
use Rattle.broker_locks.proofs.rows.make_rows.Given as goal

abbrev pub invariant-loop-member : goal.invariant-loop-member
invariant-loop-member g l = AllByRecursion (IsNew l.members) l.member_passes.items × AllByRecursion (IsNew l.foreign) l.foreign_passes.items
    × (length l.foreign_passes.items ≡ length l.member_passes.items) × AllByRecursion (RowOf [] l.members l.foreign) l.rows.items
    × (length l.rows.items + length l.member_passes.items ≡ length l.fn.member_passes.items)

abbrev pub decreases-loop-member : goal.decreases-loop-member
decreases-loop-member g l = vec_len l.member_passes
