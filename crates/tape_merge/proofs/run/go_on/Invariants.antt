use Rattle.tape_merge.proofs.Running.{Keeps, left_of}
use Rattle.tape_merge.proofs.run.go_on.Given as goal

abbrev pub invariant-loop-goes : goal.invariant-loop-goes
invariant-loop-goes l = Keeps l.tapes l.links l.conf.topics l.counts l.ready.keys l.fn.events.items l.events.items

abbrev pub decreases-loop-goes : goal.decreases-loop-goes
decreases-loop-goes l = left_of l.tapes l.links l.counts
