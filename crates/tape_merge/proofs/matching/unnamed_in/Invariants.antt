use Rattle.tape_merge.specs.Sightings.{AreNamed}
use Rattle.tape_merge.proofs.matching.unnamed_in.Given as goal

abbrev pub invariant-loop-at : goal.invariant-loop-at
invariant-loop-at l = AreNamed l.steps l.named.keys l.link l.at
