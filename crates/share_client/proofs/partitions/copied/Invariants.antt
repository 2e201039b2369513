use Rattle.std.proofs.Common.{◌≡◌, ◌++◌, length}
use Rattle.share_client.proofs.partitions.copied.Given as goal

abbrev pub invariant-loop-topic : goal.invariant-loop-topic
invariant-loop-topic l = l.copy.items ++ l.rest ≡ l.topics

abbrev pub decreases-loop-topic : goal.decreases-loop-topic
decreases-loop-topic l = length l.rest
