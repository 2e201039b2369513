use Rattle.std.proofs.Common.{◌≡◌, map}
use Rattle.std.specs.List.{range_with_len}
use Rattle.describe_calls.specs.GroupOffsets.{whole_partition}
use Rattle.describe_calls.proofs.group_offsets.whole_topic.Given as goal

abbrev pub invariant-loop-number : goal.invariant-loop-number
invariant-loop-number l = l.partitions.items ≡ map (whole_partition l.conf.topics l.topic.id) (range_with_len 0 l.number)
