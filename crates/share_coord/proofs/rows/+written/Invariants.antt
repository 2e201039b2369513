use Rattle.std.proofs.Common.{length}
use Rattle.share_coord.proofs.rows.+written.Given as goal

abbrev pub decreases-written : goal.decreases-written
decreases-written l = length l.runs.now
