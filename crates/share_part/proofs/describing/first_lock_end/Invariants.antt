use Rattle.std.proofs.Common.{◌≡◌, length}
use Rattle.lock_index.specs.Runs.{IsCanonical, held_of}
use Rattle.share_part.specs.Describing.{first_end}
use Rattle.share_part.proofs.Described.{joined}
use Rattle.share_part.proofs.describing.first_lock_end.Given as goal

abbrev pub invariant-loop-run : goal.invariant-loop-run
invariant-loop-run l = (joined l.first (first_end (held_of l.rest)) ≡ first_end (held_of l.fn.runs)) × IsCanonical l.rest

abbrev pub decreases-loop-run : goal.decreases-loop-run
decreases-loop-run l = length l.rest
