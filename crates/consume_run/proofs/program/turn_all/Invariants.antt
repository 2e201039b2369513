use Rattle.std.proofs.Common.{◌≡◌, ◌≤◌, List, ℕ, Option}
use Rattle.share_client.specs.declared.conf.ClientConf.{ClientConf}
use Rattle.consume_run.specs.Turns.{Goes}
use Rattle.consume_run.proofs.program.turn_all.Given as goal

abbrev pub invariant-loop : goal.invariant-loop
invariant-loop g l =
    ((conf : ClientConf) (start : Option (List ℕ)) → Goes conf start l.fn.core (g.O.Sink.held l.fn.output) → Goes conf start l.core (g.O.Sink.held l.output))
    × (g.O.Sink.faults l.output ≡ g.O.Sink.faults l.fn.output)
    × (g.L.Listener.faults l.fn.listener ≤ g.L.Listener.faults l.listener)
