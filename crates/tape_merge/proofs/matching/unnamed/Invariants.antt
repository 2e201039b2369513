use Rattle.tape_merge.specs.Sightings.{AreAllNamed}
use Rattle.tape_merge.proofs.matching.unnamed.Given as goal

abbrev pub invariant-loop-link : goal.invariant-loop-link
invariant-loop-link l = AreAllNamed l.links l.named.keys l.link
