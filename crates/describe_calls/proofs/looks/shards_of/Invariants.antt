use Rattle.std.proofs.Common.{◌≡◌, ◌+◌, length}
use Rattle.topic_conf.specs.Topics.{partitions}
use Rattle.describe_calls.proofs.looks.shards_of.Given as goal

abbrev pub invariant-loop-topic : goal.invariant-loop-topic
invariant-loop-topic l = l.count + partitions l.rest ≡ partitions l.conf.topics

abbrev pub decreases-loop-topic : goal.decreases-loop-topic
decreases-loop-topic l = length l.rest
