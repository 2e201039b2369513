use Rattle.std.proofs.Common.{refl, ap, is_some, false, arith}
use Rattle.edge_io.proofs.Counting.{call_done, call_failed, calls_none, fails_starve, up_to}
use Rattle.edge_io.proofs.Runs.{call_runs, runs_none}
use Rattle.gate_journal.proofs.Changes.{no_call, one_call}
use Rattle.gate_journal.proofs.Texts.{whole_read}
use Rattle.gate_journal.proofs.opening.read_whole.Goals as goal

pub returns-clause-bytes : goal.returns-clause-bytes
returns-clause-bytes g c = λ x told.
    let size = (g.met.D.Disk.read_is_image c.args.disk.now x told).1 in
    whole_read _ _ _ _ x (c.in_default-read_at.ensures.bytes x told)
    (omega (arith, size, c.deref_mut.ensures.len, c.in_default.ensures.len, c.len-len.ensures))
    (omega (arith, size, c.in_default.ensures.len, c.len-len.ensures))

pub returns-clause-calls : goal.returns-clause-calls
returns-clause-calls g c not = up_to g.D.Disk.seen 1 1 c.args.disk.now c.read_at.new.self (omega arith)
    (call_done g.D.Disk.seen false c.args.disk.now c.read_at.new.self tt c.in_default-read_at.ensures.fails)

pub returns-in-Err-clause-stays : goal.returns-in-Err-clause-stays
returns-in-Err-clause-stays g c = record { content = refl; size = refl }

pub returns-in-Err-clause-any_moment : goal.returns-in-Err-clause-any_moment
returns-in-Err-clause-any_moment g c = no_call g.D.Disk.seen g.met.D.Disk.only_now c.args.disk.now

pub returns-in-Err-clause-runs : goal.returns-in-Err-clause-runs
returns-in-Err-clause-runs g c = runs_none g.D.Disk.seen c.args.disk.now

pub returns-in-Err-clause-calls : goal.returns-in-Err-clause-calls
returns-in-Err-clause-calls g c = λ _.
    up_to g.D.Disk.seen 0 1 c.args.disk.now c.args.disk.now (omega arith)
    (calls_none g.D.Disk.seen c.args.disk.now)

pub returns-in-Err-read_at-clause-stays : goal.returns-in-Err-read_at-clause-stays
returns-in-Err-read_at-clause-stays g c = c.read_at.ensures.stays

pub returns-in-Err-read_at-clause-any_moment : goal.returns-in-Err-read_at-clause-any_moment
returns-in-Err-read_at-clause-any_moment g c = one_call g.D.Disk.seen g.met.D.Disk.only_now c.args.disk.now c.read_at.new.self c.read_at.ensures.time c.read_at.ensures.images.no_more

pub returns-in-Err-read_at-clause-runs : goal.returns-in-Err-read_at-clause-runs
returns-in-Err-read_at-clause-runs g c = call_runs g.D.Disk.seen false c.args.disk.now c.read_at.new.self _
    (ap is_some c.read_at.ensures.stays.content) c.read_at.ensures.events c.read_at.ensures.fails c.read_at.ensures.cause

pub returns-in-Err-read_at-clause-device : goal.returns-in-Err-read_at-clause-device
returns-in-Err-read_at-clause-device g c = λ _. c.in-Err-read_at.ensures.cause.failed

pub returns-in-Err-read_at-clause-fails : goal.returns-in-Err-read_at-clause-fails
returns-in-Err-read_at-clause-fails g c = λ _.
    call_failed g.D.Disk.seen false c.args.disk.now c.read_at.new.self _ c.in-Err-read_at.ensures.fails

pub returns-in-Err-read_at-clause-memory : goal.returns-in-Err-read_at-clause-memory
returns-in-Err-read_at-clause-memory g c = λ _.
    fails_starve g.D.Disk.seen 1 c.args.disk.now c.read_at.new.self
    (call_failed g.D.Disk.seen false c.args.disk.now c.read_at.new.self _ c.in-Err-read_at.ensures.fails)

pub returns-clause-stays : goal.returns-clause-stays
returns-clause-stays g c = c.read_at.ensures.stays

pub returns-clause-any_moment : goal.returns-clause-any_moment
returns-clause-any_moment g c = one_call g.D.Disk.seen g.met.D.Disk.only_now c.args.disk.now c.read_at.new.self c.read_at.ensures.time c.read_at.ensures.images.no_more

pub returns-clause-runs : goal.returns-clause-runs
returns-clause-runs g c = call_runs g.D.Disk.seen false c.args.disk.now c.read_at.new.self _
    (ap is_some c.read_at.ensures.stays.content) c.read_at.ensures.events c.read_at.ensures.fails c.read_at.ensures.cause

pub returns-in-Err-clause-quiet : goal.returns-in-Err-clause-quiet
returns-in-Err-clause-quiet g c = λ _ _. refl

pub returns-in-Err-read_at-clause-quiet : goal.returns-in-Err-read_at-clause-quiet
returns-in-Err-read_at-clause-quiet g c = λ not. absurd (not refl)

pub returns-clause-quiet : goal.returns-clause-quiet
returns-clause-quiet g c = λ _ told. (c.in_default-read_at.ensures.fails told).quiet

pub returns-clause-one : goal.returns-clause-one
returns-clause-one g c = call_done g.D.Disk.seen false c.args.disk.now c.read_at.new.self tt c.in_default-read_at.ensures.fails
