use Rattle.std.specs.Prelude.{◌≡◌, List}
use Rattle.fetch_wait.specs.Polls.{ArePending}
use Rattle.fetch_wait.proofs.run.block_on.Given as goal

abbrev pub invariant-loop : goal.invariant-loop
invariant-loop g l = (mids : List _) × ArePending g.W.Watch.acts g.W.Watch.told l.fn.wait.places l.fn.wait.deadline mids l.fn.wait.watch l.wait.watch
    × (l.wait.places ≡ l.fn.wait.places) × (l.wait.deadline ≡ l.fn.wait.deadline)
