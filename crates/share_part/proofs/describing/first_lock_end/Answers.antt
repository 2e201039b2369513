use Rattle.std.proofs.Common.{◌≡◌, ◌∙◌, sym, ap, subst, ℕ, List, ◌∷◌, Some}
use Rattle.lock_index.specs.Runs.{IsCanonical, held_of}
use Rattle.lock_index.specs.declared.run.HoldRun.{HoldRun}
use Rattle.share_part.specs.Describing.{first_end}
use Rattle.share_part.proofs.Described.{first_more, joined, joined_none}
use Rattle.share_part.proofs.describing.first_lock_end.Goals as goal

pub loop-run-init : goal.loop-run-init
loop-run-init c = (joined_none (first_end (held_of c.args.runs.now)), c.requires)

pub loop-run-preserved : goal.loop-run-preserved
loop-run-preserved c =
    let is = c.in-Some.ensures.cases.0 in
    let canonical : IsCanonical (c.in-Some.run'.now ∷ c.in-Some.others.now) = subst IsCanonical is c.loop-run.invariant.1 in (
      ap (λ (end : ℕ). joined (Some end) (first_end (held_of c.in-Some.others.now))) c.earlier.ensures
          ∙ sym (first_more c.loop-run.first c.in-Some.run'.now c.in-Some.others.now canonical.0)
          ∙ ap (λ (runs : List HoldRun). joined c.loop-run.first (first_end (held_of runs))) (sym is)
          ∙ c.loop-run.invariant.0,
      canonical.2,
    )
