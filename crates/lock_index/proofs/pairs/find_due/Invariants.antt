use Rattle.std.proofs.Common.{◌≡◌, length, None}
use Rattle.lock_index.specs.Places.{least_due}
use Rattle.lock_index.proofs.pairs.find_due.Given as goal

abbrev pub invariant-loop-pair : goal.invariant-loop-pair
invariant-loop-pair l = least_due l.now l.least l.pairs ≡ least_due l.now None l.fn.pairs

abbrev pub decreases-loop-pair : goal.decreases-loop-pair
decreases-loop-pair l = length l.pairs
