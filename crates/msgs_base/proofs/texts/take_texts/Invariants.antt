use Rattle.msgs_base.proofs.Spelled.{Taken}
use Rattle.msgs_base.proofs.texts.take_texts.Given as goal

abbrev pub invariant-loop : goal.invariant-loop
invariant-loop l = Taken l.count l.counter l.fn.cursor l.cursor l.out
