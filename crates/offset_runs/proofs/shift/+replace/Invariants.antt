use Rattle.std.proofs.Common.{length}
use Rattle.offset_runs.proofs.shift.+replace.Given as goal

abbrev pub decreases-replace : goal.decreases-replace
decreases-replace l = length l.pieces.now
