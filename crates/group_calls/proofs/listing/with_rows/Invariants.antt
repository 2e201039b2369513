use Rattle.std.proofs.Common.{◌≡◌, [], length}
use Rattle.group_calls.specs.Listing.{with_rows}
use Rattle.group_calls.proofs.listing.with_rows.Given as goal

abbrev pub invariant-loop-row : goal.invariant-loop-row
invariant-loop-row l = with_rows l.rows.items l.groups.entries ≡ with_rows l.fn.rows.items []

abbrev pub decreases-loop-row : goal.decreases-loop-row
decreases-loop-row l = length l.rows.items
