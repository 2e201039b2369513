use Rattle.std.proofs.Common.{◌-◌, length}
use Rattle.broker_core.specs.Restarts.{ReopensSlot}
use Rattle.broker_hosts.proofs.Places.{DoneTo}
use Rattle.broker_core.proofs.power.lose_parts.Given as goal

abbrev pub invariant-parts : goal.invariant-parts
invariant-parts g l = DoneTo l.place (ReopensSlot g.D.Disk.seen l.choice) l.fn.parts.items l.parts.items

abbrev pub decreases-parts : goal.decreases-parts
decreases-parts g l = length l.parts.items - l.place
