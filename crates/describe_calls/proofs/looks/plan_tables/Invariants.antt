use Rattle.std.proofs.Common.{◌≡◌, ◌++◌, map}
use Rattle.std.specs.List.{range_with_len}
use Rattle.describe_calls.specs.Groups.{table_entry}
use Rattle.describe_calls.proofs.looks.plan_tables.Given as goal

abbrev pub invariant-loop-shard : goal.invariant-loop-shard
invariant-loop-shard l = l.left.items ≡ l.fn.left.items ++ map (table_entry l.group) (range_with_len 0 l.shard)
