use Rattle.std.proofs.Common.{◌≡◌, ◌+◌, ℕ, length}
use Rattle.std.specs.List.{AllByRecursion}
use Rattle.broker_locks.specs.Rows.{AreAll, IsRow}
use Rattle.broker_locks.proofs.shared.gather.Given as goal

abbrev pub invariant-loop-other : goal.invariant-loop-other
invariant-loop-other g l = (seats : ℕ) → AreAll l.initial.shared seats l.fn.passes.items
    → AllByRecursion (IsRow l.fn.passes.items 1 l.initial.shared) l.passes.items
    × ((n : ℕ) × IsRow l.fn.passes.items n l.initial.shared l.into × (n + length l.passes.items ≡ seats))

abbrev pub decreases-loop-other : goal.decreases-loop-other
decreases-loop-other g l = goal.left-loop-other g l
