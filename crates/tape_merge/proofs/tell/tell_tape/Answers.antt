use Rattle.std.proofs.Common.{◌++◌, ◌∙◌, Some, None, slice_index, ap, sym}
use Rattle.tape_merge.specs.Telling.{told_by_tape}
use Rattle.tape_merge.proofs.Tellings.{tape_told, told_none}
use Rattle.tape_merge.proofs.tell.tell_tape.Goals as goal

pub returns-in_default : goal.returns-in_default
returns-in_default c =
    told_none c.args.events.now.items _
    (ap (λ o. told_by_tape c.args.conf.now.topics o (slice_index c.args.counts.now.passed c.args.tape)) (sym c.in_default.ensures.is))

pub returns-in_default-item_at : goal.returns-in_default-item_at
returns-in_default-item_at c =
    told_none c.args.events.now.items _
    (sym (tape_told c.args.conf.now.topics c.args.tapes.now c.args.tape c.in-Some.of.now c.passed-done.result (slice_index c.args.counts.now.passed c.args.tape)
    c.as_slice.result.now None c.in-Some.ensures.is c.passed-done.ensures c.as_slice.ensures c.in_default-item_at.ensures.is))

pub returns : goal.returns
returns c =
    c.in_ok-tell_tag.ensures
    ∙ ap (λ x. c.args.events.now.items ++ x)
    (tape_told c.args.conf.now.topics c.args.tapes.now c.args.tape c.in-Some.of.now c.passed-done.result (slice_index c.args.counts.now.passed c.args.tape)
    c.as_slice.result.now (Some c.in-Some-item_at.tag.now) c.in-Some.ensures.is c.passed-done.ensures c.as_slice.ensures c.in-Some-item_at.ensures.is)
