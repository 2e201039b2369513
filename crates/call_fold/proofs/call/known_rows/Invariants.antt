use Rattle.std.proofs.Common.{◌≡◌, ◌++◌, length}
use Rattle.call_fold.specs.Going.{known_rows}
use Rattle.call_fold.proofs.call.known_rows.Given as goal

abbrev pub invariant-loop-entry : goal.invariant-loop-entry
invariant-loop-entry g l = l.rows.items ++ known_rows l.entries.items ≡ known_rows l.fn.entries.items

abbrev pub decreases-loop-entry : goal.decreases-loop-entry
decreases-loop-entry g l = length l.entries.items
