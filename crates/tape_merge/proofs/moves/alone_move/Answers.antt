use Rattle.std.proofs.Common.{◌∙◌, below_more, refl, sym, arith}
use Rattle.std.proofs.lemmas.Bool.{false≢true}
use Rattle.tape_merge.proofs.Waits.{none_alone}
use Rattle.tape_merge.proofs.moves.alone_move.Goals as goal

pub loop-tape-init : goal.loop-tape-init
loop-tape-init c = λ tape lt goes. omega (arith, lt)

pub loop-tape-preserved : goal.loop-tape-preserved
loop-tape-preserved c = below_more _ _ c.loop-tape.invariant (λ goes. false≢true (sym c.if-alone.false ∙ c.goes_alone-alone.ensures.alone.1 goes))

pub returns-then-alone-clause-some : goal.returns-then-alone-clause-some
returns-then-alone-clause-some c = (c.loop-tape.tape, refl, c.goes_alone-alone.ensures.alone.0 c.if-alone.true, c.loop-tape.invariant)

pub returns-then-alone-clause-room : goal.returns-then-alone-clause-room
returns-then-alone-clause-room c = c.goes_alone-alone.ensures.room c.if-alone.true

pub returns-clause-none : goal.returns-clause-none
returns-clause-none c = none_alone c.args.tapes.now c.args.counts.now c.loop-tape.tape (omega arith) c.loop-tape.invariant
