use Rattle.std.proofs.Common.{refl, ap}
use Rattle.part_log.specs.Logs.{LogParts, log_in}
use Rattle.share_part.proofs.Visiting.{carries_armed}
use Rattle.share_part.proofs.shard.PartShard.arm.Goals as goal

pub returns-in-Log-clause-stays : goal.returns-in-Log-clause-stays
returns-in-Log-clause-stays g c = rw (← c.self.view_is) (λ shard k. carries_armed g.D.Disk.seen g.W.Window.held _ _ shard k refl
    (ap (λ (l : LogParts g.row.D.Denot). log_in l) c.arm.ensures.rest) c.arm.ensures.stays refl (λ pending h. h) refl refl)

pub returns-in-StateA-clause-stays : goal.returns-in-StateA-clause-stays
returns-in-StateA-clause-stays g c = rw (← c.self.view_is) (λ shard k. carries_armed g.D.Disk.seen g.W.Window.held _ _ shard k refl refl (λ pending h. h)
    c.arm-in-StateA.ensures.states c.arm-in-StateA.ensures.stays refl refl)

pub returns-in-StateB-clause-stays : goal.returns-in-StateB-clause-stays
returns-in-StateB-clause-stays g c = rw (← c.self.view_is) (λ shard k. carries_armed g.D.Disk.seen g.W.Window.held _ _ shard k refl refl (λ pending h. h)
    c.arm-in-StateB.ensures.states c.arm-in-StateB.ensures.stays refl refl)
