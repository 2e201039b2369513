use Rattle.std.proofs.Common.{◌∷◌, ◌∙◌, ap, subst}
use Rattle.tape_merge.specs.Waiting.{WaitInRow}
use Rattle.tape_merge.proofs.Waits.{row_has, row_tail}
use Rattle.tape_merge.proofs.tangle.row_from.Goals as goal

pub loop-first-init : goal.loop-first-init
loop-first-init c = record { has = c.requires; row = λ tapes links counts h. h }

pub loop-first-preserved : goal.loop-first-preserved
loop-first-preserved c = record {
  has = row_has c.loop-first.rest.now c.in-Some.others.now c.in-Some.first.now c.args.at c.in-Some.ensures.cases.0 c.if-same.false c.loop-first.invariant.has;
  row = λ tapes links counts h.
      row_tail tapes links counts c.in-Some.first.now c.in-Some.others.now c.args.at
      (subst (λ x. WaitInRow tapes links counts x c.args.at) c.in-Some.ensures.cases.0 (c.loop-first.invariant.row tapes links counts h));
}

pub returns-then-same-clause-first : goal.returns-then-same-clause-first
returns-then-same-clause-first c = (c.in-Some.others.now, c.in-Some.ensures.cases.0 ∙ ap (λ x. x ∷ c.in-Some.others.now) c.if-same.true)

pub returns-then-same-clause-row : goal.returns-then-same-clause-row
returns-then-same-clause-row c = c.loop-first.invariant.row
