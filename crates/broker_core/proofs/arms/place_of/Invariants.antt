use Rattle.std.proofs.Common.{length}
use Rattle.broker_core.proofs.Arming.{LooksIn}
use Rattle.broker_core.proofs.arms.place_of.Given as goal

abbrev pub invariant-loop-slot : goal.invariant-loop-slot
invariant-loop-slot g l = LooksIn l.disk l.parts l.number l.rest

abbrev pub decreases-loop-slot : goal.decreases-loop-slot
decreases-loop-slot g l = length l.rest
