use Rattle.broker_locks.specs.Acting.{StayOf}
use Rattle.broker_run.specs.Serving.{Quiet}
use Rattle.broker_run.proofs.Ending.{HasClosed}
use Rattle.broker_run.proofs.connection.finish.Given as goal

abbrev pub invariant-loop : goal.invariant-loop
invariant-loop g l = record {
  closed : HasClosed l.conn;
  stay : StayOf l.initial.shared l.fn.passes l.passes;
  quiet : Quiet l.initial.conf g.D.Disk.seen l.initial.shared l.fn.conn l.conn l.fn.passes l.passes (g.C.Clock.told l.fn.clock) (g.C.Clock.told l.clock);
}
