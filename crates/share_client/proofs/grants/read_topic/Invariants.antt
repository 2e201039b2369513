use Rattle.std.proofs.Common.{length, map}
use Rattle.share_client.specs.Grants.{entries_of}
use Rattle.share_client.proofs.Delivering.{HandsOn}
use Rattle.share_client.proofs.grants.read_topic.Given as goal

abbrev pub invariant-loop-located : goal.invariant-loop-located
invariant-loop-located l = HandsOn l.fn.handout (entries_of l.topic) l.handout (map (λ p. (l.topic.topic_id, p)) l.rest)

abbrev pub decreases-loop-located : goal.decreases-loop-located
decreases-loop-located l = length l.rest
