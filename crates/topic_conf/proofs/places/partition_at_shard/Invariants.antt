use Rattle.std.proofs.Common.{◌≡◌, ◌+◌, drop}
use Rattle.topic_conf.specs.Topics.{partitions, partition_at_shard}
use Rattle.topic_conf.proofs.places.partition_at_shard.Given as goal

abbrev pub invariant-loop-topic : goal.invariant-loop-topic
invariant-loop-topic l = record {
  same : partition_at_shard (drop l.topic-index l.topics) l.number ≡ partition_at_shard l.topics l.shard;
  counted : l.number + partitions l.topics ≡ l.shard + partitions (drop l.topic-index l.topics);
}
