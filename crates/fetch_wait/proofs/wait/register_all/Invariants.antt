use Rattle.futures.specs.Task.{Keeps}
use Rattle.fetch_wait.specs.Calls.{Calls}
use Rattle.fetch_wait.specs.Polls.{registered}
use Rattle.fetch_wait.proofs.wait.register_all.Given as goal

abbrev pub invariant-loop-place : goal.invariant-loop-place
invariant-loop-place g l = record {
  each : Calls g.W.Watch.acts g.W.Watch.told (registered l.place) l.fn.watch l.watch;
  kept : Keeps l.fn.cx l.cx;
}
