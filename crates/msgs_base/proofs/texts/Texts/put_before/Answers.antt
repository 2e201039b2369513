use Rattle.msgs_base.proofs.Spelled.{written_more}
use Rattle.msgs_base.proofs.texts.Texts.put_before.Goals as goal

pub loop-preserved : goal.loop-preserved
loop-preserved c =
    written_more c.self.inside.count c.loop.counter c.args.behind.now c.args.self.now c.loop.rest.now c.args.out.now.items c.loop.out.items
    c.first.result.0.now c.first.result.1.now c.first.result.2.now c.extend_from_slice.new.self.items c.extend_from_slice-in-loop.new.self.items
    c.loop-test.true c.loop.invariant c.first.ensures c.in_ok-extend_from_slice.ensures.items c.in_ok-extend_from_slice-2.ensures.items
