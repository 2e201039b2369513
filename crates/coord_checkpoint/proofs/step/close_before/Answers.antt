use Rattle.std.proofs.Common.{None, inl, inr, refl}
use Rattle.coord_checkpoint.proofs.Trying.{closed_ready, not_ok, open_ready, to_close}
use Rattle.coord_checkpoint.proofs.step.close_before.Goals as goal

pub returns-in_err-close_idle-clause-ready : goal.returns-in_err-close_idle-clause-ready
returns-in_err-close_idle-clause-ready g c = λ sealing r. (
  sealing,
  open_ready g.D.Disk.seen c.args.idle.now c.close_idle.new.idle c.args.turn.now c.if-turn.true sealing r
      (c.in_err-close_idle.ensures.kept _ _ sealing (to_close g.D.Disk.seen c.args.idle.now c.close_idle.new.idle c.args.turn.now c.if-turn.true sealing r)),
  inr refl,
  λ ok. absurd (not_ok c.from_residual.result _ c.from_residual.ensures.1 ok),
)

pub returns-in_err-close_idle-clause-any_moment : goal.returns-in_err-close_idle-clause-any_moment
returns-in_err-close_idle-clause-any_moment g c = λ sealing r.
    c.close_idle.ensures.any_moment _ _ sealing (to_close g.D.Disk.seen c.args.idle.now c.close_idle.new.idle c.args.turn.now c.if-turn.true sealing r)

pub returns-in_ok-close_idle-clause-ready : goal.returns-in_ok-close_idle-clause-ready
returns-in_ok-close_idle-clause-ready g c = λ sealing r. (
  None,
  closed_ready g.D.Disk.seen c.args.idle.now c.close_idle.new.idle c.args.turn.now c.if-turn.true sealing r
      (c.in_ok-close_idle.ensures.closed _ _ sealing (to_close g.D.Disk.seen c.args.idle.now c.close_idle.new.idle c.args.turn.now c.if-turn.true sealing r)),
  inl refl,
  λ ok is. refl,
)

pub returns-in_ok-close_idle-clause-any_moment : goal.returns-in_ok-close_idle-clause-any_moment
returns-in_ok-close_idle-clause-any_moment g c = λ sealing r.
    c.close_idle.ensures.any_moment _ _ sealing (to_close g.D.Disk.seen c.args.idle.now c.close_idle.new.idle c.args.turn.now c.if-turn.true sealing r)
