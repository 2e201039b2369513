use Rattle.std.specs.Prelude.{◌≡◌, List}
use Rattle.fetch_wait.specs.Calls.{AreCalls}
use Rattle.fetch_wait.specs.declared.watch.WatchCall.{WatchCall}
use Rattle.broker_locks.specs.Looking.{looker_acts}
use Rattle.broker_locks.proofs.waiting.sleep.Given as goal

abbrev pub invariant-loop : goal.invariant-loop
invariant-loop g l = record {
  calls : (calls : List WatchCall) × AreCalls (looker_acts g.D.Disk.seen g.C.Clock.told) calls l.fn.wait.watch l.wait.watch;
  deadline : l.wait.deadline ≡ l.fn.wait.deadline;
}
