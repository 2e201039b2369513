use Rattle.tape_merge.specs.Sightings.{HasSeen}
use Rattle.tape_merge.proofs.matching.see_all.Given as goal

abbrev pub invariant-loop-tape : goal.invariant-loop-tape
invariant-loop-tape l = HasSeen l.tapes l.links l.tape 0 l.seen.named.keys l.seen.least
