use Rattle.std.proofs.Common.{◌≡◌, ◌++◌, length, map}
use Rattle.share_client.specs.Partitions.{fresh_topic}
use Rattle.share_client.proofs.partitions.fresh_topics.Given as goal

abbrev pub invariant-loop-topic : goal.invariant-loop-topic
invariant-loop-topic l = l.fresh.items ++ map fresh_topic l.rest ≡ map fresh_topic l.topics

abbrev pub decreases-loop-topic : goal.decreases-loop-topic
decreases-loop-topic l = length l.rest
