use Rattle.share_coord.specs.Holding.{parts_of}
use Rattle.share_coord.proofs.Once.{held_after}
use Rattle.share_coord.proofs.Seen.{seen_init, stored_init}
use Rattle.share_coord.proofs.coord.Coord.init.Goals as goal

pub invariant_of-self : goal.invariant_of-self
invariant_of-self g c = (held_after g.D.Disk.seen _ _ _ _ c.init.result c.init.ensures.once c.self.invariant.0, c.init.ensures.roomy)

pub returns-clause-once : goal.returns-clause-once
returns-clause-once g c = seen_init g.D.Disk.seen _ _ _ _ c.init.result _ c.self.view_is c.args.state_epoch c.args.start c.ranges.state_epoch c.ranges.start c.init.ensures.once

pub returns-clause-stored : goal.returns-clause-stored
returns-clause-stored g c = stored_init g.D.Disk.seen _ _ (parts_of c.init.new.self) c.init.result _ c.self.view_is c.args.state_epoch c.args.start c.ranges.state_epoch c.ranges.start c.init.ensures.stored
