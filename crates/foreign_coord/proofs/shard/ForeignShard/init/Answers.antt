use Rattle.foreign_coord.proofs.Ops.{init_acts}
use Rattle.foreign_coord.proofs.shard.ForeignShard.init.Goals as goal

pub returns-clause-once : goal.returns-clause-once
returns-clause-once g c = init_acts g.D.Disk.seen c.self.inside.coord c.args.self.now c.init-done.new.self c.args.key.now c.answer.result c.self.view_is
    c.init-done.result c.args.state_epoch c.args.start c.ranges.state_epoch c.ranges.start c.answer.ensures.tells
    c.init-done.ensures.causes c.init-done.ensures.once c.init-done.ensures.stored
