use Rattle.share_coord.specs.Holding.{parts_of}
use Rattle.share_coord.proofs.Seen.{reroomed}
use Rattle.share_coord.proofs.coord.Coord.reserve.Goals as goal

pub invariant_of-self : goal.invariant_of-self
invariant_of-self g c =
    let held = c.self.invariant.0 in (
      (
        held.0,
        reroomed g.D.Disk.seen (parts_of c.self.inside.store) (parts_of c.reserve.new.self) c.reserve.ensures.journal c.reserve.ensures.entries held.0 held.1,
      ),
      c.reserve.ensures.roomy,
    )
