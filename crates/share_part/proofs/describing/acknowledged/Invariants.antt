use Rattle.std.proofs.Common.{length}
use Rattle.share_part.proofs.Described.{IsTallying}
use Rattle.share_part.proofs.describing.acknowledged.Given as goal

abbrev pub invariant-loop-run : goal.invariant-loop-run
invariant-loop-run l = IsTallying l.count l.rest l.fn.runs l.end

abbrev pub decreases-loop-run : goal.decreases-loop-run
decreases-loop-run l = length l.rest
