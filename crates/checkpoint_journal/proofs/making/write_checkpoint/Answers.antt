use Rattle.std.proofs.Common.{◌∷◌, arith, inl, inr, refl}
use Rattle.edge_io.proofs.Moments.{joined, weakened}
use Rattle.edge_io.proofs.Runs.{runs_then}
use Rattle.gate_journal.specs.Frames.{IsBeforeOrAfter}
use Rattle.gate_journal.specs.Spares.{HasFrames}
use Rattle.checkpoint_journal.specs.Checkpoints.{IsUnfinished}
use Rattle.checkpoint_journal.specs.Generations.{head_frame, seal_frame}
use Rattle.checkpoint_journal.specs.Making.{IsMaking}
use Rattle.checkpoint_journal.specs.Spares.{IsIdle}
use Rattle.checkpoint_journal.proofs.Writing.{err_same, idle_making, seal_rose, seal_stops, seal_unmade, sealed_making, unfinished_making, unsealed_beside}
use Rattle.checkpoint_journal.proofs.Stopping.{full_halts, some_quiet, some_then, stopped}
use Rattle.checkpoint_journal.proofs.making.write_checkpoint.Goals as goal

pub returns-in-Err-clause-any_moment : goal.returns-in-Err-clause-any_moment
returns-in-Err-clause-any_moment g c = λ on_second live sealing b.
    weakened g.D.Disk.seen _ _ _ _ (c.erase.ensures.any_moment on_second live sealing b)
    (idle_making on_second live sealing b.none c.args.generation (omega (arith, c.ranges.generation.fits)) (g.S.Snapshots.rest c.args.snapshots.now))

pub returns-in-Err-write_unsealed-clause-failed : goal.returns-in-Err-write_unsealed-clause-failed
returns-in-Err-write_unsealed-clause-failed g c = λ on_second live sealing b.
    unsealed_beside on_second live sealing b.none c.args.generation (omega (arith, c.ranges.generation.fits)) (g.S.Snapshots.rest c.args.snapshots.now)
    g.D.Disk.seen c.write_unsealed.new.idle (c.in-Err-write_unsealed.ensures.failed (c.in_default.ensures.ok on_second live sealing b))

pub returns-in-Err-write_unsealed-clause-any_moment : goal.returns-in-Err-write_unsealed-clause-any_moment
returns-in-Err-write_unsealed-clause-any_moment g c = λ on_second live sealing b.
    joined g.D.Disk.seen c.args.idle.now.disk c.erase.new.idle.disk c.write_unsealed.new.idle.disk (HasFrames (IsIdle on_second live sealing)) (HasFrames IsUnfinished)
    (HasFrames (IsMaking on_second live sealing c.args.generation (g.S.Snapshots.rest c.args.snapshots.now)))
    (c.erase.ensures.any_moment on_second live sealing b) (c.write_unsealed.ensures.any_moment (c.in_default.ensures.ok on_second live sealing b))
    (idle_making on_second live sealing b.none c.args.generation (omega (arith, c.ranges.generation.fits)) (g.S.Snapshots.rest c.args.snapshots.now))
    (unfinished_making on_second live sealing b.none c.args.generation (omega (arith, c.ranges.generation.fits)) (g.S.Snapshots.rest c.args.snapshots.now))

pub returns-in-Err-write_unsealed-clause-runs : goal.returns-in-Err-write_unsealed-clause-runs
returns-in-Err-write_unsealed-clause-runs g c = runs_then g.D.Disk.seen _ _ _ c.erase.ensures.runs c.write_unsealed.ensures.runs

pub returns-in-Ok-clause-made : goal.returns-in-Ok-clause-made
returns-in-Ok-clause-made g c = λ on_second live sealing b.
    c.in-Ok.ensures.ok (head_frame c.args.generation ∷ g.S.Snapshots.rest c.args.snapshots.now)
    (c.in_default-write_unsealed.ensures.ok (c.in_default.ensures.ok on_second live sealing b))

pub returns-in-Ok-clause-any_moment : goal.returns-in-Ok-clause-any_moment
returns-in-Ok-clause-any_moment g c = λ on_second live sealing b.
    joined g.D.Disk.seen c.args.idle.now.disk c.write_unsealed.new.idle.disk c.write_seal.new.idle.disk
    (HasFrames (IsMaking on_second live sealing c.args.generation (g.S.Snapshots.rest c.args.snapshots.now)))
    (IsBeforeOrAfter (head_frame c.args.generation ∷ g.S.Snapshots.rest c.args.snapshots.now) seal_frame)
    (HasFrames (IsMaking on_second live sealing c.args.generation (g.S.Snapshots.rest c.args.snapshots.now)))
    (joined g.D.Disk.seen c.args.idle.now.disk c.erase.new.idle.disk c.write_unsealed.new.idle.disk (HasFrames (IsIdle on_second live sealing)) (HasFrames IsUnfinished)
    (HasFrames (IsMaking on_second live sealing c.args.generation (g.S.Snapshots.rest c.args.snapshots.now)))
    (c.erase.ensures.any_moment on_second live sealing b) (c.write_unsealed.ensures.any_moment (c.in_default.ensures.ok on_second live sealing b))
    (idle_making on_second live sealing b.none c.args.generation (omega (arith, c.ranges.generation.fits)) (g.S.Snapshots.rest c.args.snapshots.now))
    (unfinished_making on_second live sealing b.none c.args.generation (omega (arith, c.ranges.generation.fits)) (g.S.Snapshots.rest c.args.snapshots.now)))
    (c.write_seal.ensures.any_moment (head_frame c.args.generation ∷ g.S.Snapshots.rest c.args.snapshots.now)
    (c.in_default-write_unsealed.ensures.ok (c.in_default.ensures.ok on_second live sealing b)))
    (λ x p. p)
    (sealed_making on_second live sealing b.none c.args.generation (omega (arith, c.ranges.generation.fits)) (g.S.Snapshots.rest c.args.snapshots.now)
    c.in_default-write_unsealed.ensures.all)

pub returns-in-Ok-clause-runs : goal.returns-in-Ok-clause-runs
returns-in-Ok-clause-runs g c = runs_then g.D.Disk.seen _ _ _ (runs_then g.D.Disk.seen _ _ _ c.erase.ensures.runs c.write_unsealed.ensures.runs) c.write_seal.ensures.runs

pub returns-in-Err-write_seal-clause-failed : goal.returns-in-Err-write_seal-clause-failed
returns-in-Err-write_seal-clause-failed g c = λ on_second live sealing b.
    seal_unmade on_second live sealing b.none c.args.generation (omega (arith, c.ranges.generation.fits)) (g.S.Snapshots.rest c.args.snapshots.now)
    g.D.Disk.seen c.write_unsealed.new.idle c.write_seal.new.idle c.in-Err-write_seal.fault c.in_default-write_unsealed.ensures.all
    (c.in_default-write_unsealed.ensures.ok (c.in_default.ensures.ok on_second live sealing b)) c.in-Err-write_seal.ensures.failed

pub returns-in-Err-write_seal-clause-seals : goal.returns-in-Err-write_seal-clause-seals
returns-in-Err-write_seal-clause-seals g c = λ is.
    let rose = seal_rose g.D.Disk.seen c.write_unsealed.new.idle c.write_seal.new.idle c.in-Err-write_seal.fault c.in-Err-write_seal.ensures.failed (err_same _ _ is) in
    let one = c.erase.ensures.runs.later in
    let two = c.write_unsealed.ensures.runs.later in
    omega (arith, one, two, rose)

pub returns-in-Err-write_seal-clause-any_moment : goal.returns-in-Err-write_seal-clause-any_moment
returns-in-Err-write_seal-clause-any_moment g c = λ on_second live sealing b.
    joined g.D.Disk.seen c.args.idle.now.disk c.write_unsealed.new.idle.disk c.write_seal.new.idle.disk
    (HasFrames (IsMaking on_second live sealing c.args.generation (g.S.Snapshots.rest c.args.snapshots.now)))
    (IsBeforeOrAfter (head_frame c.args.generation ∷ g.S.Snapshots.rest c.args.snapshots.now) seal_frame)
    (HasFrames (IsMaking on_second live sealing c.args.generation (g.S.Snapshots.rest c.args.snapshots.now)))
    (joined g.D.Disk.seen c.args.idle.now.disk c.erase.new.idle.disk c.write_unsealed.new.idle.disk (HasFrames (IsIdle on_second live sealing)) (HasFrames IsUnfinished)
    (HasFrames (IsMaking on_second live sealing c.args.generation (g.S.Snapshots.rest c.args.snapshots.now)))
    (c.erase.ensures.any_moment on_second live sealing b) (c.write_unsealed.ensures.any_moment (c.in_default.ensures.ok on_second live sealing b))
    (idle_making on_second live sealing b.none c.args.generation (omega (arith, c.ranges.generation.fits)) (g.S.Snapshots.rest c.args.snapshots.now))
    (unfinished_making on_second live sealing b.none c.args.generation (omega (arith, c.ranges.generation.fits)) (g.S.Snapshots.rest c.args.snapshots.now)))
    (c.write_seal.ensures.any_moment (head_frame c.args.generation ∷ g.S.Snapshots.rest c.args.snapshots.now)
    (c.in_default-write_unsealed.ensures.ok (c.in_default.ensures.ok on_second live sealing b)))
    (λ x p. p)
    (sealed_making on_second live sealing b.none c.args.generation (omega (arith, c.ranges.generation.fits)) (g.S.Snapshots.rest c.args.snapshots.now)
    c.in_default-write_unsealed.ensures.all)

pub returns-in-Err-write_seal-clause-runs : goal.returns-in-Err-write_seal-clause-runs
returns-in-Err-write_seal-clause-runs g c = runs_then g.D.Disk.seen _ _ _ (runs_then g.D.Disk.seen _ _ _ c.erase.ensures.runs c.write_unsealed.ensures.runs) c.write_seal.ensures.runs

pub returns-in-Ok-clause-quiet : goal.returns-in-Ok-clause-quiet
returns-in-Ok-clause-quiet g c = some_quiet g.D.Disk.seen _ _ (some_then g.D.Disk.seen c.args.idle.now.disk c.erase.new.idle.disk c.write_seal.new.idle.disk c.erase.ensures.runs
    (c.in_default.ensures.calls.0, c.in_default.ensures.calls.2)
    (some_then g.D.Disk.seen c.erase.new.idle.disk c.write_unsealed.new.idle.disk c.write_seal.new.idle.disk c.write_unsealed.ensures.runs
    c.in_default-write_unsealed.ensures.calls c.in-Ok.ensures.calls))

pub returns-in-Err-clause-stops : goal.returns-in-Err-clause-stops
returns-in-Err-clause-stops g c = λ on_second live sealing b. inl c.in-Err.ensures.rose

pub returns-in-Err-write_unsealed-clause-stops : goal.returns-in-Err-write_unsealed-clause-stops
returns-in-Err-write_unsealed-clause-stops g c = λ on_second live sealing b.
    stopped g.D.Disk.seen c.args.idle.now c.erase.new.idle c.write_unsealed.new.idle c.args.generation c.erase.ensures.runs c.in_default.ensures.calls
    (c.in-Err-write_unsealed.ensures.stops (c.in_default.ensures.ok on_second live sealing b))

pub returns-in-Err-write_seal-clause-stops : goal.returns-in-Err-write_seal-clause-stops
returns-in-Err-write_seal-clause-stops g c = λ on_second live sealing b.
    stopped g.D.Disk.seen c.args.idle.now c.erase.new.idle c.write_seal.new.idle c.args.generation c.erase.ensures.runs c.in_default.ensures.calls
    (full_halts g.D.Disk.seen c.erase.new.idle c.write_unsealed.new.idle c.write_seal.new.idle c.args.generation c.write_unsealed.ensures.runs
    (seal_stops g.D.Disk.seen c.write_unsealed.new.idle c.write_seal.new.idle c.in-Err-write_seal.fault c.in-Err-write_seal.ensures.failed) (inr (
      c.in_default-write_unsealed.ensures.calls,
      head_frame c.args.generation ∷ g.S.Snapshots.rest c.args.snapshots.now,
      inr (g.S.Snapshots.rest c.args.snapshots.now, refl),
      c.in_default-write_unsealed.ensures.ok (c.in_default.ensures.ok on_second live sealing b),
    )))
