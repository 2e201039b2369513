use Rattle.std.proofs.Common.{◌++◌, ◌∙◌, slice_get, slice_index, ap, sym}
use Rattle.tape_merge.specs.Telling.{step_at, told_by_link}
use Rattle.tape_merge.proofs.Tellings.{told_none}
use Rattle.tape_merge.proofs.tell.tell_link.Goals as goal

pub returns-in_default : goal.returns-in_default
returns-in_default c =
    told_none c.args.events.now.items _ (ap (λ o. told_by_link c.args.link o (slice_index c.args.counts.now.gone c.args.link)) (sym c.in_default.ensures.is))

pub returns : goal.returns
returns c =
    let tape = c.in-Some.tape.now in
    c.in_ok-tell_step.ensures
    ∙ (ap (λ n. c.args.events.now.items ++ step_at c.args.link tape n (slice_get tape.steps n)) c.gone-done.ensures
    ∙ ap (λ o. c.args.events.now.items ++ told_by_link c.args.link o (slice_index c.args.counts.now.gone c.args.link)) c.in-Some.ensures.is)
