use Rattle.msgs_base.proofs.Spelled.{Written}
use Rattle.msgs_base.proofs.texts.Texts.put_before.Given as goal

abbrev pub invariant-loop : goal.invariant-loop
invariant-loop l = Written l.end l.counter l.behind l.self l.rest l.fn.out.items l.out.items
