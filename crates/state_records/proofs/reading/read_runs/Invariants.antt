use Rattle.std.proofs.Common.{◌≡◌, ◌-◌, None}
use Rattle.state_records.specs.Reading.{runs_at}
use Rattle.state_records.proofs.Loop.{with_front}
use Rattle.state_records.proofs.reading.read_runs.Given as goal

abbrev pub invariant-loop : goal.invariant-loop
invariant-loop l = with_front l.runs.items (runs_at (l.count - l.counter) l.before l.reader) ≡ runs_at l.count None l.fn.reader
