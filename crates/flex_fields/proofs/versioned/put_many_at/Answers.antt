use Rattle.flex_fields.proofs.Told.{further_told}
use Rattle.flex_fields.proofs.versioned.put_many_at.Goals as goal

pub loop-item-preserved : goal.loop-item-preserved
loop-item-preserved g c =
    further_told (g.T.Versioned.schema c.args.version) c.args.items.now c.loop-item.item-index c.item-item.result c.args.out.now
    c.loop-item.out c.put_at.new.out c.loop-item-test.true c.item-item.is c.loop-item.invariant c.in_ok-put_at.ensures.ok
