use Rattle.std.proofs.Common.{◌≡◌, ◌++◌}
use Rattle.group_calls.specs.Listing.{listed_groups}
use Rattle.group_calls.proofs.listing.listed_groups.Given as goal

abbrev pub invariant-loop-name : goal.invariant-loop-name
invariant-loop-name l = l.list.items ++ listed_groups l.wanted l.name-iterator ≡ listed_groups l.wanted l.groups.entries
