use Rattle.std.proofs.Common.{length, map}
use Rattle.share_client.specs.Grants.{entries_of}
use Rattle.share_client.proofs.Judging.{Goes}
use Rattle.share_client.proofs.judge.judge_topic.Given as goal

abbrev pub invariant-loop-located : goal.invariant-loop-located
invariant-loop-located l = Goes l.fn.tally (entries_of l.topic) l.tally (map (λ p. (l.topic.topic_id, p)) l.rest)

abbrev pub decreases-loop-located : goal.decreases-loop-located
decreases-loop-located l = length l.rest
