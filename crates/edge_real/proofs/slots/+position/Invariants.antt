use Rattle.std.proofs.Common.{length}
use Rattle.edge_real.proofs.slots.+position.Given as goal

abbrev pub decreases-position : goal.decreases-position
decreases-position g l = length l.slots.now
