use Rattle.std.proofs.Common.{◌∙◌, Some, ap, inl, inr, subst, sym}
use Rattle.tape_merge.specs.Sightings.{IsFine}
use Rattle.tape_merge.proofs.matching.lesser.Goals as goal

pub returns-in-None-clause-less : goal.returns-in-None-clause-less
returns-in-None-clause-less c = λ other h. (subst (λ o. IsFine o other) (sym c.in-None.is) tt, h)

pub returns-in-Some-clause-less : goal.returns-in-Some-clause-less
returns-in-Some-clause-less c = λ other h.
    let both = c.lesser_of.ensures.less other h in
    (subst (λ o. IsFine o other) (sym c.in-Some.is) both.0, both.1)

pub returns-in-Some-clause-which : goal.returns-in-Some-clause-which
returns-in-Some-clause-which c = elim c.lesser_of.ensures.which [
  | inl first ↦ inl (ap (λ p. Some p) first ∙ sym c.in-Some.is)
  | inr second ↦ inr (ap (λ p. Some p) second)
]
