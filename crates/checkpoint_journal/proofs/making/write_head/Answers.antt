use Rattle.std.proofs.Common.{◌⊎◌, [], ◌∷◌, arith, subst, ℕ, List, Some, None}
use Rattle.edge_io.specs.Moments.{LeavesOnly}
use Rattle.gate_journal.specs.Frames.{IsBeforeOrAfter}
use Rattle.gate_journal.specs.Journals.{IsAtRest, Stands}
use Rattle.checkpoint_journal.proofs.Writing.{head_moments, head_spare}
use Rattle.checkpoint_journal.proofs.making.write_head.Goals as goal

pub returns-in-Ok-clause-ok : goal.returns-in-Ok-clause-ok
returns-in-Ok-clause-ok g c = λ h. subst (λ (f : List ℕ). IsAtRest g.D.Disk.seen c.put_frame.new.idle (f ∷ [])) c.head_buffer-buffer.ensures (c.in-Ok.ensures.ok [] h)

pub returns-in-Ok-clause-any_moment : goal.returns-in-Ok-clause-any_moment
returns-in-Ok-clause-any_moment g c = λ h. head_moments g.D.Disk.seen c.args.idle.now c.put_frame.new.idle c.args.generation (omega (arith, c.ranges.generation.fits))
    (subst (λ (f : List ℕ). LeavesOnly g.D.Disk.seen c.args.idle.now.disk c.put_frame.new.idle.disk (IsBeforeOrAfter [] f)) c.head_buffer-buffer.ensures
    (c.put_frame.ensures.any_moment [] h))

pub returns-in-Err-clause-failed : goal.returns-in-Err-clause-failed
returns-in-Err-clause-failed g c = λ h. head_spare g.D.Disk.seen c.args.idle.now c.put_frame.new.idle c.args.generation (omega (arith, c.ranges.generation.fits))
    (subst (λ (f : List ℕ). Stands g.D.Disk.seen c.put_frame.new.idle [] None ⊎ Stands g.D.Disk.seen c.put_frame.new.idle [] (Some f))
    c.head_buffer-buffer.ensures (c.in-Err.ensures.failed [] h))

pub returns-in-Err-clause-any_moment : goal.returns-in-Err-clause-any_moment
returns-in-Err-clause-any_moment g c = λ h. head_moments g.D.Disk.seen c.args.idle.now c.put_frame.new.idle c.args.generation (omega (arith, c.ranges.generation.fits))
    (subst (λ (f : List ℕ). LeavesOnly g.D.Disk.seen c.args.idle.now.disk c.put_frame.new.idle.disk (IsBeforeOrAfter [] f)) c.head_buffer-buffer.ensures
    (c.put_frame.ensures.any_moment [] h))
