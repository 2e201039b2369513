use Rattle.std.proofs.Common.{ℕ, List, length}
use Rattle.std.specs.List.{AllZip}
use Rattle.shard_lock.specs.Passes.{PassParts}
use Rattle.broker_shards.specs.Hosts.{Host}
use Rattle.broker_shards.specs.declared.part.PartEvent.{PartEvent}
use Rattle.broker_locks.specs.Rows.{StandsAmong}
use Rattle.broker_locks.specs.Shared.{PartAnswer}
use Rattle.broker_locks.proofs.Lines.{Fronts, Mixed}
use Rattle.broker_locks.proofs.rows.join_parts.Given as goal

abbrev pub invariant-loop-other : goal.invariant-loop-other
invariant-loop-other g l = (given : List (PassParts (Host g.row.D.Denot) PartEvent PartAnswer)) (n : ℕ)
    → AllZip (StandsAmong given n) l.locks.items l.fn.into.items → AllZip (StandsAmong given 1) l.locks.items l.fn.others.items
    → Fronts given (length l.others.items) l.locks.items l.others.items × Mixed given (length l.others.items) n l.locks.items l.into.items

abbrev pub decreases-loop-other : goal.decreases-loop-other
decreases-loop-other g l = goal.left-loop-other g l
