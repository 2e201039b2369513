use Rattle.fetch_wait.specs.Calls.{Calls}
use Rattle.fetch_wait.specs.Polls.{nothing_at}
use Rattle.fetch_wait.proofs.wait.first_found.Given as goal

abbrev pub invariant-loop-place : goal.invariant-loop-place
invariant-loop-place g l = Calls g.W.Watch.acts g.W.Watch.told (nothing_at l.place) l.fn.watch l.watch
