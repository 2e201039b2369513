use Rattle.std.proofs.Common.{◌∙◌, ap, false, Err, ◌+◌, ◌<◌, ◌^◌, ℕ, inl, inr, length, refl, sym, subst, arith}
use Rattle.checkpoint_journal.specs.Making.{IsUnmade}
use Rattle.checkpoint_journal.specs.declared.making.CheckpointFault.{CheckpointFault}
use Rattle.coord_checkpoint.specs.Steps.{IsDueAt}
use Rattle.coord_checkpoint.proofs.Trying.{beside_by, has_checkpoint, making_moments, no_flags, sealing_now, uncleared, unsealed}
use Rattle.coord_checkpoint.proofs.step.try_checkpoint.Goals as goal

pub returns-in-Ok-clause-made : goal.returns-in-Ok-clause-made
returns-in-Ok-clause-made g c =
    let due = (c.is_timely.ensures.exact.0 c.if-not-is_timely.false).0 in
    let few : length (g.S.Snapshots.rest c.args.snapshots.now) + 2 < 2 ^ 63 = omega (arith, due, c.count.ensures, c.ranges.frames.fits) in
    let clears = c.is_timely.ensures.clears c.if-not-is_timely.false in
    let fits : c.args.turn.now.generation + 1 < 2 ^ 64 = (let next = (c.is_timely.ensures.exact.0 c.if-not-is_timely.false).2 in omega (arith, next)) in
    λ _. (
      record { on_second = refl; generation = refl; sealing = refl },
      λ sealing r. has_checkpoint g.D.Disk.seen c.args.idle.now c.write_checkpoint.new.idle c.args.turn.now (g.S.Snapshots.rest c.args.snapshots.now) clears few fits c.in-Ok.ensures.all (c.in-Ok.ensures.made _ _ sealing (beside_by g.D.Disk.seen c.args.idle.now c.write_checkpoint.new.idle c.args.turn.now (g.S.Snapshots.rest c.args.snapshots.now) clears few fits sealing r)),
    )

pub returns-in-Ok-clause-any_moment : goal.returns-in-Ok-clause-any_moment
returns-in-Ok-clause-any_moment g c =
    let due = (c.is_timely.ensures.exact.0 c.if-not-is_timely.false).0 in
    let few : length (g.S.Snapshots.rest c.args.snapshots.now) + 2 < 2 ^ 63 = omega (arith, due, c.count.ensures, c.ranges.frames.fits) in
    let clears = c.is_timely.ensures.clears c.if-not-is_timely.false in
    let fits : c.args.turn.now.generation + 1 < 2 ^ 64 = (let next = (c.is_timely.ensures.exact.0 c.if-not-is_timely.false).2 in omega (arith, next)) in
    λ sealing r. making_moments g.D.Disk.seen c.args.idle.now c.write_checkpoint.new.idle c.args.turn.now (g.S.Snapshots.rest c.args.snapshots.now) clears few fits sealing (c.write_checkpoint.ensures.any_moment _ _ sealing (beside_by g.D.Disk.seen c.args.idle.now c.write_checkpoint.new.idle c.args.turn.now (g.S.Snapshots.rest c.args.snapshots.now) clears few fits sealing r))

pub returns-in-Err-Uncleared-clause-kept : goal.returns-in-Err-Uncleared-clause-kept
returns-in-Err-Uncleared-clause-kept g c =
    let due = (c.is_timely.ensures.exact.0 c.if-not-is_timely.false).0 in
    let few : length (g.S.Snapshots.rest c.args.snapshots.now) + 2 < 2 ^ 63 = omega (arith, due, c.count.ensures, c.ranges.frames.fits) in
    let clears = c.is_timely.ensures.clears c.if-not-is_timely.false in
    let fits : c.args.turn.now.generation + 1 < 2 ^ 64 = (let next = (c.is_timely.ensures.exact.0 c.if-not-is_timely.false).2 in omega (arith, next)) in
    λ _. (
      record { on_second = refl; generation = refl },
      λ sealing r. uncleared g.D.Disk.seen c.args.idle.now c.write_checkpoint.new.idle c.args.turn.now (g.S.Snapshots.rest c.args.snapshots.now) clears few fits sealing r
          (subst (λ (e : CheckpointFault). IsUnmade g.D.Disk.seen c.write_checkpoint.new.idle c.args.turn.now.on_second c.args.turn.now.generation sealing
          (c.args.turn.now.generation + 1) (g.S.Snapshots.rest c.args.snapshots.now) e) c.in-Err-Uncleared.field-0-is
          (c.in-Err-Uncleared.ensures.failed _ _ sealing (beside_by g.D.Disk.seen c.args.idle.now c.write_checkpoint.new.idle c.args.turn.now (g.S.Snapshots.rest c.args.snapshots.now) clears few fits sealing r))),
    )

pub returns-in-Err-Uncleared-clause-any_moment : goal.returns-in-Err-Uncleared-clause-any_moment
returns-in-Err-Uncleared-clause-any_moment g c =
    let due = (c.is_timely.ensures.exact.0 c.if-not-is_timely.false).0 in
    let few : length (g.S.Snapshots.rest c.args.snapshots.now) + 2 < 2 ^ 63 = omega (arith, due, c.count.ensures, c.ranges.frames.fits) in
    let clears = c.is_timely.ensures.clears c.if-not-is_timely.false in
    let fits : c.args.turn.now.generation + 1 < 2 ^ 64 = (let next = (c.is_timely.ensures.exact.0 c.if-not-is_timely.false).2 in omega (arith, next)) in
    λ sealing r. making_moments g.D.Disk.seen c.args.idle.now c.write_checkpoint.new.idle c.args.turn.now (g.S.Snapshots.rest c.args.snapshots.now) clears few fits sealing (c.write_checkpoint.ensures.any_moment _ _ sealing (beside_by g.D.Disk.seen c.args.idle.now c.write_checkpoint.new.idle c.args.turn.now (g.S.Snapshots.rest c.args.snapshots.now) clears few fits sealing r))

pub returns-in-Err-Unsealed-clause-kept : goal.returns-in-Err-Unsealed-clause-kept
returns-in-Err-Unsealed-clause-kept g c =
    let due = (c.is_timely.ensures.exact.0 c.if-not-is_timely.false).0 in
    let few : length (g.S.Snapshots.rest c.args.snapshots.now) + 2 < 2 ^ 63 = omega (arith, due, c.count.ensures, c.ranges.frames.fits) in
    let clears = c.is_timely.ensures.clears c.if-not-is_timely.false in
    let fits : c.args.turn.now.generation + 1 < 2 ^ 64 = (let next = (c.is_timely.ensures.exact.0 c.if-not-is_timely.false).2 in omega (arith, next)) in
    λ _. (
      record { on_second = refl; generation = refl },
      λ sealing r. unsealed g.D.Disk.seen c.args.idle.now c.write_checkpoint.new.idle c.args.turn.now (g.S.Snapshots.rest c.args.snapshots.now) clears few fits sealing r
          (subst (λ (e : CheckpointFault). IsUnmade g.D.Disk.seen c.write_checkpoint.new.idle c.args.turn.now.on_second c.args.turn.now.generation sealing
          (c.args.turn.now.generation + 1) (g.S.Snapshots.rest c.args.snapshots.now) e) c.in-Err-Unsealed.field-0-is
          (c.in-Err-Unsealed.ensures.failed _ _ sealing (beside_by g.D.Disk.seen c.args.idle.now c.write_checkpoint.new.idle c.args.turn.now (g.S.Snapshots.rest c.args.snapshots.now) clears few fits sealing r))),
    )

pub returns-in-Err-Unsealed-clause-any_moment : goal.returns-in-Err-Unsealed-clause-any_moment
returns-in-Err-Unsealed-clause-any_moment g c =
    let due = (c.is_timely.ensures.exact.0 c.if-not-is_timely.false).0 in
    let few : length (g.S.Snapshots.rest c.args.snapshots.now) + 2 < 2 ^ 63 = omega (arith, due, c.count.ensures, c.ranges.frames.fits) in
    let clears = c.is_timely.ensures.clears c.if-not-is_timely.false in
    let fits : c.args.turn.now.generation + 1 < 2 ^ 64 = (let next = (c.is_timely.ensures.exact.0 c.if-not-is_timely.false).2 in omega (arith, next)) in
    λ sealing r. making_moments g.D.Disk.seen c.args.idle.now c.write_checkpoint.new.idle c.args.turn.now (g.S.Snapshots.rest c.args.snapshots.now) clears few fits sealing (c.write_checkpoint.ensures.any_moment _ _ sealing (beside_by g.D.Disk.seen c.args.idle.now c.write_checkpoint.new.idle c.args.turn.now (g.S.Snapshots.rest c.args.snapshots.now) clears few fits sealing r))

pub returns-in-Err-Sealing-clause-kept : goal.returns-in-Err-Sealing-clause-kept
returns-in-Err-Sealing-clause-kept g c =
    let due = (c.is_timely.ensures.exact.0 c.if-not-is_timely.false).0 in
    let few : length (g.S.Snapshots.rest c.args.snapshots.now) + 2 < 2 ^ 63 = omega (arith, due, c.count.ensures, c.ranges.frames.fits) in
    let clears = c.is_timely.ensures.clears c.if-not-is_timely.false in
    let fits : c.args.turn.now.generation + 1 < 2 ^ 64 = (let next = (c.is_timely.ensures.exact.0 c.if-not-is_timely.false).2 in omega (arith, next)) in
    λ _. (
      record { on_second = refl; generation = refl },
      λ sealing r. sealing_now g.D.Disk.seen c.args.idle.now c.write_checkpoint.new.idle c.args.turn.now (g.S.Snapshots.rest c.args.snapshots.now) clears few fits sealing r
          (subst (λ (e : CheckpointFault). IsUnmade g.D.Disk.seen c.write_checkpoint.new.idle c.args.turn.now.on_second c.args.turn.now.generation sealing
          (c.args.turn.now.generation + 1) (g.S.Snapshots.rest c.args.snapshots.now) e) c.in-Err-Sealing.field-0-is
          (c.in-Err-Sealing.ensures.failed _ _ sealing (beside_by g.D.Disk.seen c.args.idle.now c.write_checkpoint.new.idle c.args.turn.now (g.S.Snapshots.rest c.args.snapshots.now) clears few fits sealing r))),
    )

pub returns-in-Err-Sealing-clause-any_moment : goal.returns-in-Err-Sealing-clause-any_moment
returns-in-Err-Sealing-clause-any_moment g c =
    let due = (c.is_timely.ensures.exact.0 c.if-not-is_timely.false).0 in
    let few : length (g.S.Snapshots.rest c.args.snapshots.now) + 2 < 2 ^ 63 = omega (arith, due, c.count.ensures, c.ranges.frames.fits) in
    let clears = c.is_timely.ensures.clears c.if-not-is_timely.false in
    let fits : c.args.turn.now.generation + 1 < 2 ^ 64 = (let next = (c.is_timely.ensures.exact.0 c.if-not-is_timely.false).2 in omega (arith, next)) in
    λ sealing r. making_moments g.D.Disk.seen c.args.idle.now c.write_checkpoint.new.idle c.args.turn.now (g.S.Snapshots.rest c.args.snapshots.now) clears few fits sealing (c.write_checkpoint.ensures.any_moment _ _ sealing (beside_by g.D.Disk.seen c.args.idle.now c.write_checkpoint.new.idle c.args.turn.now (g.S.Snapshots.rest c.args.snapshots.now) clears few fits sealing r))

pub returns-in-Ok-clause-few : goal.returns-in-Ok-clause-few
returns-in-Ok-clause-few g c = let few = (c.is_timely.ensures.exact.0 c.if-not-is_timely.false).1 in λ _. omega (arith, few, c.count.ensures)

pub returns-in-Ok-clause-may : goal.returns-in-Ok-clause-may
returns-in-Ok-clause-may g c = λ _. subst (λ (n : ℕ). IsDueAt c.args.turn.now c.args.frames n) c.count.ensures (c.is_timely.ensures.exact.0 c.if-not-is_timely.false)

pub returns-in-Ok-clause-quiet : goal.returns-in-Ok-clause-quiet
returns-in-Ok-clause-quiet g c = λ _. c.in-Ok.ensures.quiet

pub returns-then-not-is_timely-clause-tried : goal.returns-then-not-is_timely-clause-tried
returns-then-not-is_timely-clause-tried g c = λ _. inl (
  refl,
  refl,
  λ is.
      no_flags c.is_timely.result c.if-not-is_timely.true (c.is_timely.ensures.exact.1 (subst (λ (n : ℕ). IsDueAt c.args.turn.now c.args.frames n) (sym c.count.ensures) is)),
)

pub returns-in-Err-Uncleared-clause-tried : goal.returns-in-Err-Uncleared-clause-tried
returns-in-Err-Uncleared-clause-tried g c =
    let due = (c.is_timely.ensures.exact.0 c.if-not-is_timely.false).0 in
    let few : length (g.S.Snapshots.rest c.args.snapshots.now) + 2 < 2 ^ 63 = omega (arith, due, c.count.ensures, c.ranges.frames.fits) in
    let clears = c.is_timely.ensures.clears c.if-not-is_timely.false in
    let fits : c.args.turn.now.generation + 1 < 2 ^ 64 = (let next = (c.is_timely.ensures.exact.0 c.if-not-is_timely.false).2 in omega (arith, next)) in
    λ _. inr (
      subst (λ (n : ℕ). IsDueAt c.args.turn.now c.args.frames n) c.count.ensures (c.is_timely.ensures.exact.0 c.if-not-is_timely.false),
      λ sealing r. c.in-Err-Uncleared.ensures.stops _ _ sealing (beside_by g.D.Disk.seen c.args.idle.now c.write_checkpoint.new.idle c.args.turn.now (g.S.Snapshots.rest c.args.snapshots.now) clears few fits sealing r),
    )

pub returns-in-Err-Unsealed-clause-tried : goal.returns-in-Err-Unsealed-clause-tried
returns-in-Err-Unsealed-clause-tried g c =
    let due = (c.is_timely.ensures.exact.0 c.if-not-is_timely.false).0 in
    let few : length (g.S.Snapshots.rest c.args.snapshots.now) + 2 < 2 ^ 63 = omega (arith, due, c.count.ensures, c.ranges.frames.fits) in
    let clears = c.is_timely.ensures.clears c.if-not-is_timely.false in
    let fits : c.args.turn.now.generation + 1 < 2 ^ 64 = (let next = (c.is_timely.ensures.exact.0 c.if-not-is_timely.false).2 in omega (arith, next)) in
    λ _. inr (
      subst (λ (n : ℕ). IsDueAt c.args.turn.now c.args.frames n) c.count.ensures (c.is_timely.ensures.exact.0 c.if-not-is_timely.false),
      λ sealing r. c.in-Err-Unsealed.ensures.stops _ _ sealing (beside_by g.D.Disk.seen c.args.idle.now c.write_checkpoint.new.idle c.args.turn.now (g.S.Snapshots.rest c.args.snapshots.now) clears few fits sealing r),
    )

pub returns-in-Err-Sealing-clause-tried : goal.returns-in-Err-Sealing-clause-tried
returns-in-Err-Sealing-clause-tried g c =
    let due = (c.is_timely.ensures.exact.0 c.if-not-is_timely.false).0 in
    let few : length (g.S.Snapshots.rest c.args.snapshots.now) + 2 < 2 ^ 63 = omega (arith, due, c.count.ensures, c.ranges.frames.fits) in
    let clears = c.is_timely.ensures.clears c.if-not-is_timely.false in
    let fits : c.args.turn.now.generation + 1 < 2 ^ 64 = (let next = (c.is_timely.ensures.exact.0 c.if-not-is_timely.false).2 in omega (arith, next)) in
    λ _. inr (
      subst (λ (n : ℕ). IsDueAt c.args.turn.now c.args.frames n) c.count.ensures (c.is_timely.ensures.exact.0 c.if-not-is_timely.false),
      λ sealing r. c.in-Err-Sealing.ensures.stops _ _ sealing (beside_by g.D.Disk.seen c.args.idle.now c.write_checkpoint.new.idle c.args.turn.now (g.S.Snapshots.rest c.args.snapshots.now) clears few fits sealing r),
    )

pub returns-in-Ok-clause-sealing : goal.returns-in-Ok-clause-sealing
returns-in-Ok-clause-sealing g c = λ is low. absurd (no_flags false refl is)

pub returns-then-not-is_timely-clause-sealing : goal.returns-then-not-is_timely-clause-sealing
returns-then-not-is_timely-clause-sealing g c = λ is low. absurd (no_flags c.args.turn.now.sealing low is)

pub returns-in-Err-Uncleared-clause-sealing : goal.returns-in-Err-Uncleared-clause-sealing
returns-in-Err-Uncleared-clause-sealing g c = λ is low. absurd (no_flags c.args.turn.now.sealing low is)

pub returns-in-Err-Unsealed-clause-sealing : goal.returns-in-Err-Unsealed-clause-sealing
returns-in-Err-Unsealed-clause-sealing g c = λ is low. absurd (no_flags false refl is)

pub returns-in-Err-Sealing-clause-sealing : goal.returns-in-Err-Sealing-clause-sealing
returns-in-Err-Sealing-clause-sealing g c = λ is low.
    c.write_checkpoint.ensures.seals (c.in-Err-Sealing.is ∙ ap (λ (e : CheckpointFault). Err e) c.in-Err-Sealing.field-0-is)
