use Rattle.std.proofs.Common.{length}
use Rattle.tape_merge.specs.Matching.{AreApart}
use Rattle.tape_merge.proofs.apart.are_apart.Given as goal

abbrev pub invariant-loop-tape : goal.invariant-loop-tape
invariant-loop-tape l = record {
  down : AreApart l.tapes → AreApart l.rest;
  up : AreApart l.rest → AreApart l.tapes;
}

abbrev pub decreases-loop-tape : goal.decreases-loop-tape
decreases-loop-tape l = length l.rest
