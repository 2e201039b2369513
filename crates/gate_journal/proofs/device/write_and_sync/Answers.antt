use Rattle.std.proofs.Common.{arith}
use Rattle.edge_io.proofs.Moments.{write_same, one_step, step_and_sync}
use Rattle.edge_io.proofs.Runs.{call_runs}
use Rattle.gate_journal.proofs.Changes.{on_ok, synced_then, cause_then, cause_of, first_fails, first_starves, both_done, second_fails, second_starves, both_run}
use Rattle.gate_journal.proofs.Shaped.{on_err}
use Rattle.gate_journal.proofs.device.write_and_sync.Goals as goal

pub returns-in_err-write_at-clause-images : goal.returns-in_err-write_at-clause-images
returns-in_err-write_at-clause-images g c = c.write_at.ensures.images.follows

pub returns-in_err-write_at-clause-any_moment : goal.returns-in_err-write_at-clause-any_moment
returns-in_err-write_at-clause-any_moment g c = one_step g.D.Disk.seen g.met.D.Disk.only_now _
    (write_same _ _) _ _ c.write_at.ensures.time c.write_at.ensures.images.follows

pub returns-in_err-write_at-clause-size : goal.returns-in_err-write_at-clause-size
returns-in_err-write_at-clause-size g c = c.in_err-write_at.ensures.size.0

pub returns-in_err-write_at-clause-runs : goal.returns-in_err-write_at-clause-runs
returns-in_err-write_at-clause-runs g c = call_runs g.D.Disk.seen _ c.args.disk.now c.write_at.new.self _ c.write_at.ensures.content.told c.write_at.ensures.events c.write_at.ensures.fails c.write_at.ensures.cause

pub returns-in_err-write_at-clause-fails : goal.returns-in_err-write_at-clause-fails
returns-in_err-write_at-clause-fails g c = on_err c.from_residual.result _
    (first_fails g.D.Disk.seen _ c.args.disk.now c.write_at.new.self _ c.in_err-write_at.ensures.fails)

pub returns-in_err-write_at-clause-memory : goal.returns-in_err-write_at-clause-memory
returns-in_err-write_at-clause-memory g c = on_err c.from_residual.result _
    (first_starves g.D.Disk.seen _ c.args.disk.now c.write_at.new.self _ c.in_err-write_at.ensures.fails)

pub returns-in_err-write_at-clause-cause : goal.returns-in_err-write_at-clause-cause
returns-in_err-write_at-clause-cause g c = cause_of _ _ _ c.from_residual.result c.in_err-write_at.ensures.cause

pub returns-clause-ok : goal.returns-clause-ok
returns-clause-ok g c = synced_then _ _ _ _ c.sync.result c.in_ok-write_at.ensures.content.done c.sync.ensures.synced

pub returns-clause-images : goal.returns-clause-images
returns-clause-images g c = λ x now. c.write_at.ensures.images.follows x (c.sync.ensures.images x now)

pub returns-clause-any_moment : goal.returns-clause-any_moment
returns-clause-any_moment g c = step_and_sync g.D.Disk.seen g.met.D.Disk.only_now _
    (write_same _ _) _ _ _ c.write_at.ensures.time c.write_at.ensures.images.follows c.sync.ensures.time c.sync.ensures.images

pub returns-clause-size : goal.returns-clause-size
returns-clause-size g c = omega (arith, c.in_ok-write_at.ensures.size, c.sync.ensures.stays.size)

pub returns-clause-reach : goal.returns-clause-reach
returns-clause-reach g c = on_ok c.sync.result _ (omega (arith, c.in_ok-write_at.ensures.size, c.sync.ensures.stays.size))

pub returns-clause-runs : goal.returns-clause-runs
returns-clause-runs g c = both_run g.D.Disk.seen _ c.args.disk.now c.write_at.new.self c.sync.new.self tt c.write_at.ensures.content.told c.in_ok-write_at.ensures.fails
    c.sync.result c.write_at.ensures.events c.in_ok-write_at.ensures.cause c.sync.ensures.stays.content c.sync.ensures.events c.sync.ensures.fails c.sync.ensures.cause

pub returns-clause-calls : goal.returns-clause-calls
returns-clause-calls g c = both_done g.D.Disk.seen _ c.args.disk.now c.write_at.new.self c.sync.new.self tt c.write_at.ensures.content.told c.in_ok-write_at.ensures.fails
    c.sync.result c.sync.ensures.fails

pub returns-clause-fails : goal.returns-clause-fails
returns-clause-fails g c = second_fails g.D.Disk.seen _ c.args.disk.now c.write_at.new.self c.sync.new.self tt c.write_at.ensures.content.told c.in_ok-write_at.ensures.fails
    c.sync.result c.sync.ensures.fails

pub returns-clause-memory : goal.returns-clause-memory
returns-clause-memory g c = second_starves g.D.Disk.seen _ c.args.disk.now c.write_at.new.self c.sync.new.self tt c.write_at.ensures.content.told c.in_ok-write_at.ensures.fails
    c.sync.result c.sync.ensures.fails

pub returns-clause-cause : goal.returns-clause-cause
returns-clause-cause g c = cause_then _ _ _ _ c.sync.result c.in_ok-write_at.ensures.cause c.sync.ensures.cause
