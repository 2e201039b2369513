use Rattle.std.proofs.Common.{◌++◌, ◌∷◌, ◌+◌, ◌∙◌, slice_get, ap, sym, add-one}
use Rattle.session_script.specs.declared.event.Event.TheVariants.{Step}
use Rattle.tape_merge.specs.Telling.{close_at, last_close, step_at}
use Rattle.tape_merge.proofs.Tellings.{told_none, told_step}
use Rattle.tape_merge.proofs.tell.tell_step.Goals as goal

pub returns-in_default : goal.returns-in_default
returns-in_default c =
    told_none c.args.events.now.items _
    (ap (λ o. step_at c.args.id c.args.link.now c.args.done o) (sym (c.in_default.ensures.is ∙ ap (λ x. slice_get x c.args.done) c.as_slice.ensures)))

pub returns : goal.returns
returns c =
    let link = c.args.link.now in
    let old = c.args.events.now.items in
    let close = close_at c.args.id link c.args.done in
    let is = c.in-Some.ensures.is ∙ ap (λ x. slice_get x c.args.done) c.as_slice.ensures in
    told_step old c.tell_close.new.events.items c.tell.new.events.items c.tell_last_close.new.events.items close (last_close c.args.id link (c.args.done + 1))
    (Step c.args.id c.ms-now.result) c.in_ok-tell_close.ensures c.in_ok-tell.ensures c.in_ok-tell_last_close.ensures
    ∙ (ap (λ n. old ++ (close ++ (Step c.args.id n ∷ last_close c.args.id link (c.args.done + 1)))) c.ms-now.ensures.is
    ∙ (ap (λ n. old ++ (close ++ (Step c.args.id c.in-Some.step.now.now ∷ last_close c.args.id link n))) (add-one c.args.done)
    ∙ ap (λ o. old ++ step_at c.args.id link c.args.done o) is))
