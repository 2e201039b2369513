use Rattle.std.proofs.Common.{◌≡◌, ◌++◌, map}
use Rattle.log_calls.specs.Produce.{shard_in, fate, entry_of}
use Rattle.log_calls.proofs.plan.plan_partitions.Given as goal

abbrev pub invariant-loop-partition : goal.invariant-loop-partition
invariant-loop-partition l = l.left.items
    ≡ l.fn.left.items ++ map (λ p. entry_of p.index (fate l.refusal (shard_in l.conf.topics l.id p.index) p.records)) l.yielded
