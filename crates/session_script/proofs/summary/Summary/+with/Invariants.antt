use Rattle.std.proofs.Common.{length}
use Rattle.session_script.proofs.summary.Summary.+with.Given as goal

abbrev pub decreases-with : goal.decreases-with
decreases-with l = length l.outcomes.now
