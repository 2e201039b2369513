use Rattle.std.proofs.Common.{◌≤◌}
use Rattle.edge_io.specs.Serving.{Gave}
use Rattle.broker_run.proofs.jobs.take_links.Given as goal

abbrev pub invariant-loop-number : goal.invariant-loop-number
invariant-loop-number g l = Gave (g.L.Listener.given l.fn.listener) l.number (g.L.Listener.given l.listener) × (g.L.Listener.faults l.fn.listener ≤ g.L.Listener.faults l.listener)
