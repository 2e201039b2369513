use Rattle.ack_ranges.specs.Batches.{AreWellFormed}
use Rattle.ack_ranges.proofs.judge.judge.Given as goal

abbrev pub invariant-loop-number : goal.invariant-loop-number
invariant-loop-number l = AreWellFormed l.batches l.number
