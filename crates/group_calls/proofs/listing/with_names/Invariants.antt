use Rattle.std.proofs.Common.{◌≡◌}
use Rattle.group_calls.specs.Listing.{with_names}
use Rattle.group_calls.proofs.listing.with_names.Given as goal

abbrev pub invariant-loop-name : goal.invariant-loop-name
invariant-loop-name l = with_names l.fn.row.state l.name-iterator.rest.items l.groups.entries ≡ with_names l.fn.row.state l.fn.row.names l.fn.groups.entries
