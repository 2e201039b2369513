use Rattle.std.proofs.Common.{length}
use Rattle.offset_runs.proofs.Tallies.{IsCovering}
use Rattle.offset_runs.proofs.complete.complete_under.Given as goal

abbrev pub invariant-loop-run : goal.invariant-loop-run
invariant-loop-run l = IsCovering l.count l.under l.rest l.fn.over l.start

abbrev pub decreases-loop-run : goal.decreases-loop-run
decreases-loop-run l = length l.rest
