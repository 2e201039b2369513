use Rattle.std.proofs.Common.{◌∙◌, ap, slice_get}
use Rattle.tape_merge.specs.Matching.{steps_in}
use Rattle.tape_merge.proofs.tapes.step_of.Goals as goal

pub returns-in_default-clause-is : goal.returns-in_default-clause-is
returns-in_default-clause-is c = ap (λ o. slice_get (steps_in o) c.args.step) c.in_default.ensures.is

pub returns-clause-is : goal.returns-clause-is
returns-clause-is c =
    c.item_at-found.ensures.is ∙ (ap (λ x. slice_get x c.args.step) c.as_slice.ensures ∙ ap (λ o. slice_get (steps_in o) c.args.step) c.in-Some.ensures.is)
