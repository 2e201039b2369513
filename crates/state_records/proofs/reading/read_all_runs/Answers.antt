use Rattle.std.proofs.Common.{arith, sym, subst, None}
use Rattle.state_records.specs.States.{AreStoredRuns}
use Rattle.state_records.proofs.Stored.{runs_sound}
use Rattle.state_records.proofs.reading.read_all_runs.Goals as goal

pub new-requires : goal.new-requires
new-requires c =
    let next = runs_sound c.in_ok-count.count None c.take_u32.new.self c.in_ok-runs.runs.items c.read_runs.new.reader c.in_ok-runs.ensures.read in
    record { few = omega (arith, next.count, c.in_ok-runs.runs.ok.0) }

pub returns-clause-stored : goal.returns-clause-stored
returns-clause-stored c =
    let next = runs_sound c.in_ok-count.count None c.take_u32.new.self c.in_ok-runs.runs.items c.read_runs.new.reader c.in_ok-runs.ensures.read in
    subst AreStoredRuns (sym c.new.ensures.items) next.stored
