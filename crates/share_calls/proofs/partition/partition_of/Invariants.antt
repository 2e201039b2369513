use Rattle.std.proofs.Common.{◌≡◌, ◌≤◌, drop}
use Rattle.topic_conf.specs.Topics.{partitions}
use Rattle.share_calls.specs.Partitions.{partition_of}
use Rattle.share_calls.proofs.partition.partition_of.Given as goal

abbrev pub invariant-loop-topic : goal.invariant-loop-topic
invariant-loop-topic l = (partition_of (drop l.topic-index l.topics) l.left ≡ partition_of l.fn.topics l.fn.shard)
    × (partitions (drop l.topic-index l.topics) ≤ 64)
