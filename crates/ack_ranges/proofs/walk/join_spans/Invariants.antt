use Rattle.std.proofs.Common.{◌≡◌, ◌∷◌, ◌<◌, ◌^◌, length}
use Rattle.ack_ranges.specs.Walking.{joined}
use Rattle.ack_ranges.proofs.walk.join_spans.Given as goal

abbrev pub invariant-loop-span : goal.invariant-loop-span
invariant-loop-span l = record {
  joins : joined (l.fn.first ∷ l.fn.spans) ≡ joined (l.piece ∷ l.spans);
  below : l.piece.last < 2 ^ 63;
}

abbrev pub decreases-loop-span : goal.decreases-loop-span
decreases-loop-span l = length l.spans
