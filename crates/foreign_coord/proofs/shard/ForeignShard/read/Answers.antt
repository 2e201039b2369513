use Rattle.share_coord.specs.States.{state_found}
use Rattle.foreign_coord.proofs.Ops.{read_acts}
use Rattle.foreign_coord.proofs.shard.ForeignShard.read.Goals as goal

pub returns-clause-once : goal.returns-clause-once
returns-clause-once g c = read_acts g.D.Disk.seen g.met.D.Disk.only_now c.self.inside.coord c.args.self.now c.args.key.now c.args.leader_epoch
    (state_found c.look.result) c.read.result c.self.view_is c.ranges.leader_epoch c.look.ensures c.read.ensures.answer
