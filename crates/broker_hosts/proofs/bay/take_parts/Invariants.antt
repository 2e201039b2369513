use Rattle.broker_hosts.proofs.Partitions.{Going}
use Rattle.broker_hosts.proofs.bay.take_parts.Given as goal

abbrev pub invariant-loop-part : goal.invariant-loop-part
invariant-loop-part g l = Going g.B.Bay.seen g.D.Disk.seen l.fn.parts.items l.yielded l.part-iterator.rest.items l.fn.bay l.slots.items l.bay
