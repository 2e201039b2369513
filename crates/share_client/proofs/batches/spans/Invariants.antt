use Rattle.std.proofs.Common.{length}
use Rattle.share_client.proofs.Walking.{Walked}
use Rattle.share_client.proofs.batches.spans.Given as goal

abbrev pub invariant-loop-rest : goal.invariant-loop-rest
invariant-loop-rest l = Walked l.records l.next l.rest l.spans.items

abbrev pub decreases-loop-rest : goal.decreases-loop-rest
decreases-loop-rest l = length l.rest
