use Rattle.std.proofs.Common.{◌≤◌}
use Rattle.broker_locks.specs.Acting.{StayOf}
use Rattle.broker_run.specs.Serving.{GoesOn, scene}
use Rattle.broker_run.proofs.connection.talk.Given as goal

abbrev pub invariant-loop : goal.invariant-loop
invariant-loop g l = record {
  stay : StayOf l.initial.shared l.fn.passes l.passes;
  goes : GoesOn l.initial.conf g.D.Disk.seen l.initial.shared
      (scene l.fn.conn l.fn.passes (g.K.Link.left l.fn.link) (g.K.Link.held l.fn.link) (g.C.Clock.told l.fn.clock))
      (scene l.conn l.passes (g.K.Link.left l.link) (g.K.Link.held l.link) (g.C.Clock.told l.clock));
  later : g.K.Link.faults l.fn.link ≤ g.K.Link.faults l.link;
}
