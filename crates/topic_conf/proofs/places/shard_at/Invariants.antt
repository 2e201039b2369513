use Rattle.std.proofs.Common.{◌≡◌, ◌+◌, length}
use Rattle.std.specs.Option.{option_map}
use Rattle.topic_conf.specs.Topics.{partitions, shard_at}
use Rattle.topic_conf.proofs.places.shard_at.Given as goal

abbrev pub invariant-loop-topic : goal.invariant-loop-topic
invariant-loop-topic l = record {
  number : option_map (λ shard. l.before + shard) (shard_at l.id l.partition l.rest) ≡ shard_at l.id l.partition l.topics;
  counted : l.before + partitions l.rest ≡ partitions l.topics;
}

abbrev pub decreases-loop-topic : goal.decreases-loop-topic
decreases-loop-topic l = length l.rest
