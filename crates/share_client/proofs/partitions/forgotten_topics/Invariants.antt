use Rattle.std.proofs.Common.{◌≡◌, ◌++◌, length, map}
use Rattle.share_client.specs.Partitions.{forgotten_topic}
use Rattle.share_client.proofs.partitions.forgotten_topics.Given as goal

abbrev pub invariant-loop-topic : goal.invariant-loop-topic
invariant-loop-topic l = l.forgotten.items ++ map forgotten_topic l.rest ≡ map forgotten_topic l.topics

abbrev pub decreases-loop-topic : goal.decreases-loop-topic
decreases-loop-topic l = length l.rest
