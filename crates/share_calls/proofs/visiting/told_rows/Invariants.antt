use Rattle.std.proofs.Common.{◌≡◌, ◌++◌}
use Rattle.share_calls.specs.Visits.{told_rows}
use Rattle.share_calls.proofs.visiting.told_rows.Given as goal

abbrev pub invariant-loop-row : goal.invariant-loop-row
invariant-loop-row g l = l.told.items ++ told_rows l.row-iterator.rest.items ≡ told_rows l.fn.rows.items
