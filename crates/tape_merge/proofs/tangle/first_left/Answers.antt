use Rattle.std.proofs.Common.{◌∙◌, below_more, sym, arith}
use Rattle.std.proofs.lemmas.Bool.{false≢true}
use Rattle.tape_merge.proofs.Waits.{none_left}
use Rattle.tape_merge.proofs.tangle.first_left.Goals as goal

pub loop-link-init : goal.loop-link-init
loop-link-init c = λ link lt left. omega (arith, lt)

pub loop-link-preserved : goal.loop-link-preserved
loop-link-preserved c = below_more _ _ c.loop-link.invariant (λ left. false≢true (sym c.if-left.false ∙ c.has_left-left.ensures.1 left))

pub returns-then-left-clause-some : goal.returns-then-left-clause-some
returns-then-left-clause-some c = c.has_left-left.ensures.0 c.if-left.true

pub returns-clause-none : goal.returns-clause-none
returns-clause-none c = none_left c.args.links.now c.args.counts.now c.loop-link.link (omega arith) c.loop-link.invariant
