use Rattle.std.proofs.Common.{length}
use Rattle.std.specs.Prelude.{flat_map}
use Rattle.share_client.specs.Grants.{entries_of}
use Rattle.share_client.proofs.Delivering.{HandsOn}
use Rattle.share_client.proofs.grants.read_topics.Given as goal

abbrev pub invariant-loop-topic : goal.invariant-loop-topic
invariant-loop-topic l = HandsOn l.fn.handout (flat_map entries_of l.topics) l.handout (flat_map entries_of l.rest)

abbrev pub decreases-loop-topic : goal.decreases-loop-topic
decreases-loop-topic l = length l.rest
