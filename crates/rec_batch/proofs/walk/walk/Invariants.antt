use Rattle.rec_batch.proofs.Walking.{Walked}
use Rattle.rec_batch.proofs.walk.walk.Given as goal

abbrev pub invariant-loop-index : goal.invariant-loop-index
invariant-loop-index l = Walked l.fn.form l.fn.last l.fn.content l.index l.due l.rest
