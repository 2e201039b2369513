use Rattle.std.proofs.Common.{◌≡◌, ◌+◌, drop}
use Rattle.std.specs.Option.{option_map}
use Rattle.topic_conf.specs.Topics.{partitions, shard_named}
use Rattle.topic_conf.proofs.places.shard_named.Given as goal

abbrev pub invariant-loop-topic : goal.invariant-loop-topic
invariant-loop-topic l = record {
  number : option_map (λ shard. l.first + shard) (shard_named l.name l.part (drop l.topic-index l.topics)) ≡ shard_named l.name l.part l.topics;
  counted : l.first + partitions (drop l.topic-index l.topics) ≡ partitions l.topics;
}
