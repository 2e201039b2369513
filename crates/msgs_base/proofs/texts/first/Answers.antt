use Rattle.flex_fields.specs.Reading.{uvarint_at, raw_at}
use Rattle.msgs_base.proofs.Spelled.{never_fails, number_reads, has_number, text_is_there, in_front}
use Rattle.msgs_base.proofs.texts.first.Goals as goal

pub returns-in_default : goal.returns-in_default
returns-in_default c text others is parts = absurd
    (never_fails c.in_default.field-0 (uvarint_at c.new-cursor.result) _ c.in_default.ensures.read.0 c.in_default.ensures.memory
    (number_reads c.args.spelled.now text others c.new-cursor.result is parts c.new-cursor.ensures))

pub returns-in_default-take_slice : goal.returns-in_default-take_slice
returns-in_default-take_slice c text others is parts =
    let h = has_number c.args.spelled.now text others c.new-cursor.result c.in-Ok.number c.saturating_sub.result c.take_uvarint.new.self is parts
    c.new-cursor.ensures c.in-Ok.ensures.read c.saturating_sub.ensures in
    absurd
    (never_fails c.in_default-take_slice.field-0 (raw_at c.saturating_sub.result c.take_uvarint.new.self) _ c.in_default-take_slice.ensures.read
    c.in_default-take_slice.ensures.memory (text_is_there text others c.saturating_sub.result c.take_uvarint.new.self h))

pub returns : goal.returns
returns c text others is parts =
    let h = has_number c.args.spelled.now text others c.new-cursor.result c.in-Ok.number c.saturating_sub.result c.take_uvarint.new.self is parts
    c.new-cursor.ensures c.in-Ok.ensures.read c.saturating_sub.ensures in
    in_front c.args.spelled.now text others c.saturating_sub.result c.saturating_sub-2.result c.take_uvarint.new.self c.take_slice.new.self
    c.in-Ok-take_slice.text.now c.split_at.result.0.now c.rest-others.result.now parts h c.in-Ok-take_slice.ensures.read c.rest-others.ensures
    c.saturating_sub-2.ensures c.split_at.ensures.front
