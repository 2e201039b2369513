use Rattle.std.proofs.Common.{sym, subst}
use Rattle.coord_checkpoint.specs.Stores.{Keeps, StoreParts}
use Rattle.coord_checkpoint.proofs.Arming.{armed_first, armed_second}
use Rattle.coord_checkpoint.proofs.journal.StateJournal.arm.Goals as goal

pub returns-in-StateA-clause-stays : goal.returns-in-StateA-clause-stays
returns-in-StateA-clause-stays g c = λ frames sealing pending k.
    armed_first g.D.Disk.seen c.self.inside.first c.arm.new.self c.arm.ensures.rest c.arm.ensures.disk.same_images c.arm.ensures.stands
    c.self.inside.second c.self.inside.turn frames sealing pending
    (subst (λ (p : StoreParts _). Keeps g.D.Disk.seen p frames sealing pending) (sym c.self.view_is) k)

pub returns-in-StateB-clause-stays : goal.returns-in-StateB-clause-stays
returns-in-StateB-clause-stays g c = λ frames sealing pending k.
    armed_second g.D.Disk.seen c.self.inside.second c.arm-in-StateB.new.self c.arm-in-StateB.ensures.rest c.arm-in-StateB.ensures.disk.same_images
    c.arm-in-StateB.ensures.stands c.self.inside.first c.self.inside.turn frames sealing pending
    (subst (λ (p : StoreParts _). Keeps g.D.Disk.seen p frames sealing pending) (sym c.self.view_is) k)
