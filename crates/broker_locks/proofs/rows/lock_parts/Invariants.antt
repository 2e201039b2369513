use Rattle.std.proofs.Common.{◌≡◌, ◌++◌, length, map}
use Rattle.std.specs.List.{AllByRecursion}
use Rattle.broker_locks.specs.Rows.{RowOf}
use Rattle.broker_locks.proofs.rows.lock_parts.Given as goal

abbrev pub invariant-loop-host : goal.invariant-loop-host
invariant-loop-host g l = (map (λ k. k.first) l.locks.items ≡ l.yielded) × AllByRecursion (λ k. k.seats ≡ l.fn.seats) l.locks.items
    × AllByRecursion (RowOf l.locks.items l.members l.foreign) l.rows.items × (length l.rows.items ≡ l.fn.seats)
    × (l.yielded ++ l.host-iterator.rest.items ≡ l.fn.hosts.items)
