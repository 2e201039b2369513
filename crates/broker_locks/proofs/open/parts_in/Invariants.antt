use Rattle.std.proofs.Common.{◌≡◌, ◌++◌, map}
use Rattle.broker_locks.specs.Opening.{slot_of}
use Rattle.broker_locks.proofs.open.parts_in.Given as goal

abbrev pub invariant-loop-slot : goal.invariant-loop-slot
invariant-loop-slot g l = (map slot_of l.hosts.items ≡ l.yielded) × (l.yielded ++ l.slot-iterator.rest.items ≡ l.fn.slots.items)
