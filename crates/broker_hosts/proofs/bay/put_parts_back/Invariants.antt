use Rattle.broker_hosts.proofs.Partitions.{Putting}
use Rattle.broker_hosts.proofs.bay.put_parts_back.Given as goal

abbrev pub invariant-loop-slot : goal.invariant-loop-slot
invariant-loop-slot g l = Putting g.B.Bay.seen g.D.Disk.seen l.fn.slots.items l.yielded l.slot-iterator.rest.items l.fn.bay l.bay
