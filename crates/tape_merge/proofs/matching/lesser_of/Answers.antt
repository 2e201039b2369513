use Rattle.std.proofs.Common.{◌∙◌, sym}
use Rattle.std.proofs.lemmas.Bool.{false≢true}
use Rattle.tape_merge.proofs.Lessers.{lesser_left, lesser_right}
use Rattle.tape_merge.proofs.matching.lesser_of.Goals as goal

pub returns-then-before-clause-less : goal.returns-then-before-clause-less
returns-then-before-clause-less c = λ other h. lesser_left c.args.b c.args.a other (c.is_before-before.ensures.0 c.if-before.true) h

pub returns-clause-less : goal.returns-clause-less
returns-clause-less c = λ other h.
    lesser_right c.args.b c.args.a other (λ lt. false≢true (sym c.if-before.false ∙ c.is_before-before.ensures.1 lt)) h
