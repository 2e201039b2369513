use Rattle.std.proofs.Common.{◌≡◌, ◌-◌, ◌+◌}
use Rattle.share_part.proofs.Standing.{AreUpTo}
use Rattle.share_part.proofs.judge.are_slots.Given as goal

abbrev pub invariant-loop-from : goal.invariant-loop-from
invariant-loop-from g l = AreUpTo l.log.batches l.run l.from × (l.last ≡ l.run.last)

abbrev pub decreases-loop-from : goal.decreases-loop-from
decreases-loop-from g l = (l.last + 1) - l.from
