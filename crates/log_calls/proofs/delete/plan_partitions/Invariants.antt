use Rattle.std.proofs.Common.{◌≡◌, ◌++◌, map}
use Rattle.log_calls.specs.Delete.{target_entry}
use Rattle.log_calls.specs.Produce.{shard_in}
use Rattle.log_calls.proofs.delete.plan_partitions.Given as goal

abbrev pub invariant-loop-partition : goal.invariant-loop-partition
invariant-loop-partition l = l.left.items
    ≡ l.fn.left.items ++ map (λ p. target_entry p (shard_in l.conf.topics l.id p.partition_index)) l.yielded
