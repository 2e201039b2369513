use Rattle.std.proofs.Common.{length}
use Rattle.offset_runs.proofs.Tallies.{IsCounting}
use Rattle.offset_runs.proofs.complete.complete_front.Given as goal

abbrev pub invariant-loop-run : goal.invariant-loop-run
invariant-loop-run l = IsCounting l.count l.rest l.fn.runs l.from l.to

abbrev pub decreases-loop-run : goal.decreases-loop-run
decreases-loop-run l = length l.rest
