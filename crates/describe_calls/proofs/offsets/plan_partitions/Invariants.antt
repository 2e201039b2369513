use Rattle.std.proofs.Common.{◌≡◌, ◌++◌, map}
use Rattle.log_calls.specs.Produce.{shard_in}
use Rattle.describe_calls.specs.Offsets.{offset_entry}
use Rattle.describe_calls.proofs.offsets.plan_partitions.Given as goal

abbrev pub invariant-loop-partition : goal.invariant-loop-partition
invariant-loop-partition l = l.left.items
    ≡ l.fn.left.items ++ map (λ p. offset_entry p (shard_in l.conf.topics l.id p.partition_index)) l.yielded
