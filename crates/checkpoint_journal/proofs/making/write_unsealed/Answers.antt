use Rattle.std.proofs.Common.{arith}
use Rattle.edge_io.proofs.Moments.{joined}
use Rattle.edge_io.proofs.Runs.{runs_then}
use Rattle.gate_journal.specs.Spares.{HasFrames}
use Rattle.checkpoint_journal.specs.Checkpoints.{IsUnfinished}
use Rattle.checkpoint_journal.proofs.Stopping.{full_halts, halts_then, rests_halts, some_then}
use Rattle.edge_io.proofs.Runs.{runs_none}
use Rattle.checkpoint_journal.proofs.making.write_unsealed.Goals as goal

pub returns-in-Ok-clause-any_moment : goal.returns-in-Ok-clause-any_moment
returns-in-Ok-clause-any_moment g c = λ h.
    joined g.D.Disk.seen c.args.idle.now.disk c.write_head.new.idle.disk c.write_snapshots.new.idle.disk (HasFrames IsUnfinished) (HasFrames IsUnfinished) (HasFrames IsUnfinished)
    (c.write_head.ensures.any_moment h) (c.write_snapshots.ensures.any_moment c.args.generation (omega (arith, c.ranges.generation.fits)) (c.in_default.ensures.ok h))
    (λ x p. p) (λ x p. p)

pub returns-in-Ok-clause-runs : goal.returns-in-Ok-clause-runs
returns-in-Ok-clause-runs g c = runs_then g.D.Disk.seen _ _ _ c.write_head.ensures.runs c.write_snapshots.ensures.runs

pub returns-in-Err-write_snapshots-clause-any_moment : goal.returns-in-Err-write_snapshots-clause-any_moment
returns-in-Err-write_snapshots-clause-any_moment g c = λ h.
    joined g.D.Disk.seen c.args.idle.now.disk c.write_head.new.idle.disk c.write_snapshots.new.idle.disk (HasFrames IsUnfinished) (HasFrames IsUnfinished) (HasFrames IsUnfinished)
    (c.write_head.ensures.any_moment h) (c.write_snapshots.ensures.any_moment c.args.generation (omega (arith, c.ranges.generation.fits)) (c.in_default.ensures.ok h))
    (λ x p. p) (λ x p. p)

pub returns-in-Err-write_snapshots-clause-runs : goal.returns-in-Err-write_snapshots-clause-runs
returns-in-Err-write_snapshots-clause-runs g c = runs_then g.D.Disk.seen _ _ _ c.write_head.ensures.runs c.write_snapshots.ensures.runs

pub returns-in-Ok-clause-calls : goal.returns-in-Ok-clause-calls
returns-in-Ok-clause-calls g c = some_then g.D.Disk.seen _ _ _ c.write_head.ensures.runs c.in_default.ensures.calls c.in-Ok.ensures.calls

pub returns-in-Err-clause-stops : goal.returns-in-Err-clause-stops
returns-in-Err-clause-stops g c = λ rest. full_halts g.D.Disk.seen c.args.idle.now c.args.idle.now c.write_head.new.idle c.args.generation (runs_none g.D.Disk.seen c.args.idle.now.disk)
    c.in-Err.ensures.stops (rests_halts g.D.Disk.seen c.args.idle.now c.args.generation rest)

pub returns-in-Err-write_snapshots-clause-stops : goal.returns-in-Err-write_snapshots-clause-stops
returns-in-Err-write_snapshots-clause-stops g c = λ rest. halts_then g.D.Disk.seen c.args.idle.now c.write_head.new.idle c.write_snapshots.new.idle c.args.generation
    c.write_head.ensures.runs c.in_default.ensures.calls
    (c.in-Err-write_snapshots.ensures.stops c.args.generation (omega (arith, c.ranges.generation.fits)) (c.in_default.ensures.ok rest))

pub returns-in-Err-write_snapshots-clause-failed : goal.returns-in-Err-write_snapshots-clause-failed
returns-in-Err-write_snapshots-clause-failed g c = λ rest.
    c.in-Err-write_snapshots.ensures.failed c.args.generation (omega (arith, c.ranges.generation.fits)) (c.in_default.ensures.ok rest)
