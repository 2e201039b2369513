use Rattle.std.proofs.Common.{◌≡◌}
use Rattle.shard_lock.specs.Passes.{IsOf}
use Rattle.serve_rows.proofs.locks.act_in_turns.Given as goal

abbrev pub invariant-loop : goal.invariant-loop
invariant-loop g l = IsOf l.initial.lock l.pass × (l.pass.stands ≡ l.initial.pass.stands)
