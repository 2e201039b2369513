use Rattle.broker_locks.specs.Acting.{AreOf}
use Rattle.serve_rows.proofs.turns.turns_behind.Given as goal

abbrev pub invariant-loop-peer : goal.invariant-loop-peer
invariant-loop-peer g l = AreOf l.initial.shared l.passes
