use Rattle.std.proofs.Common.{length}
use Rattle.share_client.proofs.Covering.{Going}
use Rattle.share_client.proofs.covers.grants.Given as goal

abbrev pub invariant-loop-located : goal.invariant-loop-located
invariant-loop-located l = Going l.spans l.fn.left l.acquired l.next l.left l.batches l.rest

abbrev pub decreases-loop-located : goal.decreases-loop-located
decreases-loop-located l = length l.rest
