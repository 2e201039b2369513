use Rattle.std.proofs.lemmas.Result.{err_from_is_err_and}
use Rattle.flex_fields.specs.Spots.{at_of}
use Rattle.flex_fields.proofs.Repeated.{tags_go_on, tags_end, tags_done}
use Rattle.flex_fields.proofs.lengths.some_tags.Goals as goal

pub returns-in_err-rest-clause-read : goal.returns-in_err-rest-clause-read
returns-in_err-rest-clause-read c =
    let p = err_from_is_err_and c.from_residual.result c.from_residual.ensures.1 in
    rw (p.1, p.2) (tags_end c.in_err-rest.field-0.0 c.args.count c.loop.counter
    (at_of c.loop.rest) _ c.loop-test.true c.in_err-rest.ensures.read c.loop.invariant)

pub loop-preserved : goal.loop-preserved
loop-preserved c = tags_go_on c.args.count c.loop.counter (at_of c.loop.rest)
    (at_of c.in_ok-rest.rest) _ c.loop-test.true c.in_ok-rest.ensures.read c.loop.invariant

pub returns-clause-read : goal.returns-clause-read
returns-clause-read c = tags_done c.args.count c.loop.counter (at_of c.loop.rest) _ c.loop-test.false c.loop.invariant
