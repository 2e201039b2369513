use Rattle.std.proofs.Common.{◌≡◌, map}
use Rattle.log_calls.specs.Produce.{shard_in}
use Rattle.describe_calls.proofs.group_offsets.asked_topic.Given as goal

abbrev pub invariant-loop-index : goal.invariant-loop-index
invariant-loop-index l = l.partitions.items ≡ map (λ i. record { index = i; shard = shard_in l.conf.topics l.id i }) l.yielded
