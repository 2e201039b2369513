use Rattle.std.proofs.Common.{rules, ◌≡◌}
use Rattle.std.specs.Option.{option_or}
use Rattle.std.proofs.lemmas.Result.{err_from_is_err_and}
use Rattle.msgs_admin.specs.HeldRecords.{HELD_TAG, held_records}
use Rattle.msgs_admin.proofs.Tags.{goes_on, ends, is_done}
use Rattle.msgs_admin.proofs.held_records.take_tags.Goals as goal

pub returns-in_err-one : goal.returns-in_err-one
returns-in_err-one c =
    let p = err_from_is_err_and c.from_residual.result c.from_residual.ensures.1 in
    rw (p.1, p.2) (ends HELD_TAG held_records.read c.in_err-one.field-0.0 c.loop.held c.args.count c.loop.counter c.loop.cursor _
    c.loop-test.true c.in_err-one.ensures c.loop.invariant)

pub loop-preserved : goal.loop-preserved
loop-preserved c =
    let last : c.or-held.result ≡ option_or c.in_ok-one.one c.loop.held = search rules in
    rw last (goes_on HELD_TAG held_records.read c.loop.held c.in_ok-one.one c.args.count c.loop.counter c.loop.cursor c.take_tag.new.cursor _
    c.loop-test.true c.in_ok-one.ensures c.loop.invariant)

pub returns : goal.returns
returns c = is_done HELD_TAG held_records.read c.loop.held c.args.count c.loop.counter c.loop.cursor _ c.loop-test.false c.loop.invariant
