use Rattle.std.proofs.Common.{◌∙◌, below_more, sym, arith}
use Rattle.std.proofs.lemmas.Bool.{false≢true}
use Rattle.tape_merge.proofs.Waits.{no_tape_of}
use Rattle.tape_merge.proofs.tapes.tape_of.Goals as goal

pub loop-tape-init : goal.loop-tape-init
loop-tape-init c = λ tape lt is. omega (arith, lt)

pub loop-tape-preserved : goal.loop-tape-preserved
loop-tape-preserved c = below_more _ _ c.loop-tape.invariant (λ is. false≢true (sym c.if-here.false ∙ c.is_of-here.ensures.1 is))

pub returns-then-here-clause-some : goal.returns-then-here-clause-some
returns-then-here-clause-some c = c.is_of-here.ensures.0 c.if-here.true

pub returns-clause-none : goal.returns-clause-none
returns-clause-none c = no_tape_of c.args.tapes.now c.args.shard c.loop-tape.tape (omega arith) c.loop-tape.invariant
