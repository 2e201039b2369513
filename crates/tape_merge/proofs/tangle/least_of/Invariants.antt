use Rattle.std.proofs.Common.{◌<◌, ◌≤◌, ℕ, Contains, slice_index}
use Rattle.tape_merge.proofs.tangle.least_of.Given as goal

abbrev pub invariant-loop-link : goal.invariant-loop-link
invariant-loop-link l = record {
  among : Contains l.ring l.least;
  below : (at : ℕ) → at < l.link-index → l.least ≤ slice_index l.ring at;
}
