use Rattle.std.proofs.Common.{◌≤◌, ◌-◌, ◌*◌}
use Rattle.layer_rows.proofs.runs.put_every.Given as goal

abbrev pub invariant-loop : goal.invariant-loop
invariant-loop l = 2 * (l.number - l.counter) ≤ l.runs.spare
