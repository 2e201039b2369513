use Rattle.std.proofs.Common.{◌<◌, ℕ}
use Rattle.tape_merge.specs.Waiting.{HasLeft}
use Rattle.tape_merge.proofs.tangle.first_left.Given as goal

abbrev pub invariant-loop-link : goal.invariant-loop-link
invariant-loop-link l = (link : ℕ) → link < l.link → HasLeft l.links l.counts link → ⊥
