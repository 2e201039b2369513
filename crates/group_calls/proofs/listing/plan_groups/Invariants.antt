use Rattle.std.proofs.Common.{◌≡◌, map}
use Rattle.std.specs.List.{range_with_len}
use Rattle.group_calls.specs.Listing.{tables_entry}
use Rattle.group_calls.proofs.listing.plan_groups.Given as goal

abbrev pub invariant-loop-shard : goal.invariant-loop-shard
invariant-loop-shard l = l.left.items ≡ map tables_entry (range_with_len 0 l.shard)
