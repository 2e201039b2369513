use Rattle.std.proofs.Common.{arith}
use Rattle.share_part.proofs.advance.advance.Goals as goal

pub slot_from-requires-clause-above : goal.slot_from-requires-clause-above
slot_from-requires-clause-above g c = omega (arith, c.requires.above, c.loop-slot.invariant.later)
