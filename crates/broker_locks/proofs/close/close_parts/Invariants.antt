use Rattle.broker_locks.proofs.Closings.{Closing}
use Rattle.broker_locks.proofs.close.close_parts.Given as goal

abbrev pub invariant-loop-lock : goal.invariant-loop-lock
invariant-loop-lock g l = Closing g.B.Bay.seen g.D.Disk.seen l.fn.locks.items l.lock-iterator.rest.items l.fn.passes.items l.passes.rest.items l.fn.bay l.bay
