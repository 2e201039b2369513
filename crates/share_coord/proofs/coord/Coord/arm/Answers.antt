use Rattle.std.proofs.Common.{sym, subst}
use Rattle.share_coord.specs.Holding.{Holds}
use Rattle.share_coord.proofs.Seen.{rearmed}
use Rattle.share_coord.proofs.coord.Coord.arm.Goals as goal

pub invariant_of-self : goal.invariant_of-self
invariant_of-self g c =
    let held = c.self.invariant.0 in
    let room = c.self.invariant.1 in (
      (held.0, rearmed g.D.Disk.seen _ _ _ c.self.inside.store.room c.arm.ensures.stays held.0 held.1),
      record { table = room.table; written = room.written; laid = room.laid; buffer = room.buffer },
    )

pub returns-clause-stays : goal.returns-clause-stays
returns-clause-stays g c = λ pending held.
    rearmed g.D.Disk.seen c.self.inside.store.journal c.arm.new.self c.self.inside.store.table.entries c.self.inside.store.room c.arm.ensures.stays pending
    (subst (λ s. Holds g.D.Disk.seen s pending) (sym c.self.view_is) held)
