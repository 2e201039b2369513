use Rattle.share_coord.specs.Holding.{parts_of}
use Rattle.share_coord.proofs.Once.{held_after}
use Rattle.share_coord.proofs.Seen.{seen_write, stored_write}
use Rattle.share_coord.proofs.coord.Coord.write.Goals as goal

pub invariant_of-self : goal.invariant_of-self
invariant_of-self g c = (held_after g.D.Disk.seen _ _ _ _ c.write.result c.write.ensures.once c.self.invariant.0, c.write.ensures.roomy)

pub returns-clause-once : goal.returns-clause-once
returns-clause-once g c = seen_write g.D.Disk.seen _ _ _ _ c.write.result _ c.self.view_is c.args.state_epoch c.args.leader_epoch c.args.start c.args.runs.now
    c.ranges.state_epoch c.ranges.leader_epoch c.ranges.start c.write.ensures.once

pub returns-clause-stored : goal.returns-clause-stored
returns-clause-stored g c = stored_write g.D.Disk.seen _ _ (parts_of c.write.new.self) c.write.result _ c.self.view_is c.args.state_epoch c.args.leader_epoch c.args.start c.args.runs.now
    c.ranges.state_epoch c.ranges.leader_epoch c.ranges.start c.write.ensures.stored
