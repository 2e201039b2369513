use Rattle.std.proofs.Common.{arith}
use Rattle.std.proofs.lemmas.Grind.{common_steps}
use Rattle.std.proofs.lemmas.Result.{err_from_is_err_and}
use Rattle.flex_fields.proofs.Repeated.{many_goes_on, many_ends, many_done}
use Rattle.share_client.proofs.located.locate_many.Goals as goal

pub returns-in_err-item-clause-read : goal.returns-in_err-item-clause-read
returns-in_err-item-clause-read g c =
    let p = err_from_is_err_and c.from_residual.result c.from_residual.ensures.1 in
    rw (p.1, p.2) (many_ends g.T.Locate.reading c.in_err-item.field-0.0 c.loop.items.items c.args.count c.loop.counter c.loop.cursor _
    c.loop-test.true c.in_err-item.ensures c.loop.invariant.read)

pub loop-preserved : goal.loop-preserved
loop-preserved g c = record {
  read = rw c.in_ok-push.ensures.items
      (many_goes_on g.T.Locate.reading c.loop.items.items c.args.count c.loop.counter c.loop.cursor c.locate.new.cursor c.in_ok-item.item _
      c.loop-test.true c.in_ok-item.ensures c.loop.invariant.read);
  taken = grind (arith, common_steps, c.in_ok-push.ensures.items);
}

pub returns-clause-read : goal.returns-clause-read
returns-clause-read g c =
    rw c.new.ensures.items
    (many_done g.T.Locate.reading c.loop.items.items c.args.count c.loop.counter c.loop.cursor _ c.loop-test.false
    c.loop.invariant.read)
