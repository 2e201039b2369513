use Rattle.std.proofs.Common.{◌≡◌, ◌+◌, length}
use Rattle.ack_ranges.proofs.walk.Pieces.count.Given as goal

abbrev pub invariant-loop-count : goal.invariant-loop-count
invariant-loop-count l = l.count + length l.self ≡ length l.fn.self

abbrev pub decreases-loop-count : goal.decreases-loop-count
decreases-loop-count l = length l.self
