use Rattle.std.proofs.Common.{arith}
use Rattle.coord_checkpoint.proofs.Trying.{no_flags, not_ok, on_err, preparing_stays, same_turn, stays_as, stays_ready, then_moments, then_ready, then_turn}
use Rattle.coord_checkpoint.proofs.step.prepare.Goals as goal

pub returns-in_err-close_before-clause-beside : goal.returns-in_err-close_before-clause-beside
returns-in_err-close_before-clause-beside g c =
    let k = c.try_checkpoint.ensures.kept c.if-try_checkpoint.false in
    λ _. (
      then_turn g.D.Disk.seen c.args.idle.now c.try_checkpoint.new.idle c.close_before.new.idle c.args.turn.now c.try_checkpoint.new.turn c.close_before.new.turn (g.S.Snapshots.rest c.args.snapshots.now) _ c.args.writes k.0 c.in_err-close_before.ensures.ready c.close_before.ensures.turn,
      λ sealing r. stays_as g.D.Disk.seen c.close_before.new.idle c.args.turn.now c.close_before.new.turn sealing (g.S.Snapshots.rest c.args.snapshots.now) _ _
          (λ both. absurd (not_ok c.from_residual.result _ c.from_residual.ensures.1 both.0)) (then_ready g.D.Disk.seen c.args.idle.now c.try_checkpoint.new.idle c.close_before.new.idle c.args.turn.now c.try_checkpoint.new.turn c.close_before.new.turn (g.S.Snapshots.rest c.args.snapshots.now) _ c.args.writes k.0 c.in_err-close_before.ensures.ready sealing (k.1 sealing r)),
    )

pub returns-in_err-close_before-clause-any_moment : goal.returns-in_err-close_before-clause-any_moment
returns-in_err-close_before-clause-any_moment g c =
    let k = c.try_checkpoint.ensures.kept c.if-try_checkpoint.false in
    λ sealing r. then_moments g.D.Disk.seen c.args.idle.now c.try_checkpoint.new.idle c.close_before.new.idle c.args.turn.now c.try_checkpoint.new.turn c.close_before.new.turn (g.S.Snapshots.rest c.args.snapshots.now) _ c.args.writes k.0 c.in_err-close_before.ensures.ready sealing (k.1 sealing r)
    (c.try_checkpoint.ensures.any_moment sealing r) (c.close_before.ensures.any_moment _ (k.1 sealing r).ready)

pub returns-clause-beside : goal.returns-clause-beside
returns-clause-beside g c =
    let k = c.try_checkpoint.ensures.kept c.if-try_checkpoint.false in
    λ _. (
      then_turn g.D.Disk.seen c.args.idle.now c.try_checkpoint.new.idle c.close_before.new.idle c.args.turn.now c.try_checkpoint.new.turn c.close_before.new.turn (g.S.Snapshots.rest c.args.snapshots.now) _ c.args.writes k.0 c.in_ok-close_before.ensures.ready c.close_before.ensures.turn,
      λ sealing r. then_ready g.D.Disk.seen c.args.idle.now c.try_checkpoint.new.idle c.close_before.new.idle c.args.turn.now c.try_checkpoint.new.turn c.close_before.new.turn (g.S.Snapshots.rest c.args.snapshots.now) _ c.args.writes k.0 c.in_ok-close_before.ensures.ready sealing (k.1 sealing r),
    )

pub returns-clause-any_moment : goal.returns-clause-any_moment
returns-clause-any_moment g c =
    let k = c.try_checkpoint.ensures.kept c.if-try_checkpoint.false in
    λ sealing r. then_moments g.D.Disk.seen c.args.idle.now c.try_checkpoint.new.idle c.close_before.new.idle c.args.turn.now c.try_checkpoint.new.turn c.close_before.new.turn (g.S.Snapshots.rest c.args.snapshots.now) _ c.args.writes k.0 c.in_ok-close_before.ensures.ready sealing (k.1 sealing r)
    (c.try_checkpoint.ensures.any_moment sealing r) (c.close_before.ensures.any_moment _ (k.1 sealing r).ready)

pub returns-then-not-writes-clause-beside : goal.returns-then-not-writes-clause-beside
returns-then-not-writes-clause-beside g c = λ _. (
  same_turn g.D.Disk.seen g.met.D.Disk.only_now c.args.idle.now c.args.turn.now (g.S.Snapshots.rest c.args.snapshots.now),
  λ sealing r. stays_as g.D.Disk.seen c.args.idle.now c.args.turn.now c.args.turn.now sealing (g.S.Snapshots.rest c.args.snapshots.now) _ _
      (λ both. no_flags c.args.writes c.if-not-writes.true both.1)
      (stays_ready g.D.Disk.seen g.met.D.Disk.only_now c.args.idle.now c.args.turn.now (g.S.Snapshots.rest c.args.snapshots.now) sealing r),
)

pub returns-then-not-writes-clause-any_moment : goal.returns-then-not-writes-clause-any_moment
returns-then-not-writes-clause-any_moment g c = λ sealing r.
    preparing_stays g.D.Disk.seen g.met.D.Disk.only_now c.args.idle.now c.args.turn.now (g.S.Snapshots.rest c.args.snapshots.now) sealing r

pub returns-in_err-close_before-clause-closes : goal.returns-in_err-close_before-clause-closes
returns-in_err-close_before-clause-closes g c = on_err c.from_residual.result (λ low.
    let seal = c.try_checkpoint.ensures.sealing c.in_err-close_before.ensures.sealing low in
    let gate = c.in_err-close_before.ensures.cause.0 in
    omega (arith, seal, gate))
