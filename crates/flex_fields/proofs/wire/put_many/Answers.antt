use Rattle.flex_fields.proofs.Puts.{further}
use Rattle.flex_fields.proofs.wire.put_many.Goals as goal

pub loop-item-preserved : goal.loop-item-preserved
loop-item-preserved g c =
    let f = further g.T.Wire.format.is g.T.Wire.format.bytes c.args.items.now c.loop-item.item-index c.item-item.result c.args.out.now
    c.loop-item.out c.put.new.out c.loop-item-test.true c.item-item.is c.loop-item.invariant.written c.loop-item.invariant.stands
    c.in_ok-put.ensures.ok.appended c.in_ok-put.ensures.ok.stands in
    record { written = f.written; stands = f.stands }
