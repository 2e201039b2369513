use Rattle.std.proofs.Common.{◌-◌, ◌^◌}
use Rattle.share_part.specs.Acting.{laid}
use Rattle.share_part.proofs.Advancing.{IsPassed}
use Rattle.share_part.proofs.advance.advance.Given as goal

abbrev pub invariant-loop-slot : goal.invariant-loop-slot
invariant-loop-slot g l = IsPassed l.log.batches (laid l.rows l.stored) l.start l.from

abbrev pub decreases-loop-slot : goal.decreases-loop-slot
decreases-loop-slot g l = 2 ^ 64 - l.from
