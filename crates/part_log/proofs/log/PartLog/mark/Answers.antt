use Rattle.std.proofs.Common.{◌⊎◌, ◌++◌, ◌∷◌, ◌+◌, [], arith, ⊎_elim, sym, ap, subst, ◌∙◌, refl, ℕ, List, Err, None, Some}
use Rattle.edge_io.specs.Armed.{StarvesUnarmed}
use Rattle.edge_io.specs.Causes.{Rose}
use Rattle.edge_io.specs.Moments.{LeavesOnly}
use Rattle.gate_journal.specs.Frames.{IsBeforeOrAfter, IsFrame, IsWithPending, frame_in}
use Rattle.gate_journal.specs.Journals.{IsAtRest, Stands}
use Rattle.gate_journal.specs.declared.writer.Writer.{Writer}
use Rattle.share_model.specs.declared.fault.StoreFault.TheVariants.{Device, Full}
use Rattle.part_log.specs.Holding.{batches_of, bytes_in}
use Rattle.part_log.specs.Starts.LogWrite.{Marks}
use Rattle.part_log.specs.Logs.{LogParts, MayStartAt, frame_of, frames_of, log_in}
use Rattle.part_log.proofs.Ending.{failed_end, next_end}
use Rattle.part_log.proofs.Holding.{batches_marked, holds_still, marked_holds}
use Rattle.part_log.proofs.Keeping.{full_done, full_failed, moved, pending_frame, raised, told_is, unwritten}
use Rattle.part_log.proofs.log.PartLog.mark.Goals as goal

pub append-requires : goal.append-requires
append-requires g c = subst IsFrame (sym c.mark_buffer-buffer.ensures.frame) (omega arith, omega arith)

pub invariant_of-self : goal.invariant_of-self
invariant_of-self g c =
    let frame = frame_of (Marks c.args.start) in
    let kept = c.inner.ensures ∙ c.append.ensures.buffer.frame ∙ c.mark_buffer-buffer.ensures.frame in
    let follows = subst (λ (v : LogParts g.row.D.Denot). MayStartAt (log_in v) c.args.start) (sym c.self.view_is) c.requires.follows in
    marked_holds g.D.Disk.seen c.self.inside.seen.frames c.self.inside.index c.self.inside.journal c.self.inside.start c.self.inside.end c.self.invariant
    c.append.new.self c.last_gate-gate.result c.args.start c.inner.result.now frame _ kept refl follows c.with-self-inside.ensures c.last_gate-gate.ensures.place
    (λ fs p s. subst (λ (x : List ℕ). IsAtRest g.D.Disk.seen c.append.new.self (fs ++ x ∷ [])) c.mark_buffer-buffer.ensures.frame (c.in-Ok.ensures.ok.rests fs p s))
    (λ told. sym c.in-Ok.ensures.disk.runs.told ∙ told)

pub invariant_of-self-in-Err : goal.invariant_of-self-in-Err
invariant_of-self-in-Err g c =
    holds_still g.D.Disk.seen c.self.inside.seen.frames c.self.inside.index c.self.inside.journal c.self.inside.start c.self.inside.end c.self.invariant
    c.self.inside.index c.append.new.self refl refl
    (λ fs p s. ⊎_elim (λ (was : Stands g.D.Disk.seen c.append.new.self fs p). (p, was))
    (λ (now : Stands g.D.Disk.seen c.append.new.self fs (Some (frame_in c.mark_buffer-buffer.result))). (Some (frame_in c.mark_buffer-buffer.result), now))
    (c.in-Err.ensures.failed fs p s))
    (λ told. sym c.in-Err.ensures.disk.runs.told ∙ told)

pub returns-in-Ok-clause-ok : goal.returns-in-Ok-clause-ok
returns-in-Ok-clause-ok g c =
    let frame = frame_of (Marks c.args.start) in
    let kept = c.inner.ensures ∙ c.append.ensures.buffer.frame ∙ c.mark_buffer-buffer.ensures.frame in
    let batches = batches_marked c.self.inside.seen.frames _ c.last_gate-gate.result c.inner.result.now c.args.start kept c.with-self-inside.ensures in
    raised g.D.Disk.seen c.args.self.now _ c.args.start c.requires.follows
    (batches ∙ ap (λ (v : LogParts g.row.D.Denot). v.batches) c.self.view_is) refl
    (next_end g.D.Disk.seen c.self.inside.journal c.append.new.self (bytes_in c.self.inside.seen.frames) c.self.invariant.pending None frame c.self.invariant.stands
    (subst (λ (x : List ℕ). Stands g.D.Disk.seen c.append.new.self (bytes_in c.self.inside.seen.frames ++ x ∷ []) None) c.mark_buffer-buffer.ensures.frame
    (c.in-Ok.ensures.ok.rests (bytes_in c.self.inside.seen.frames) c.self.invariant.pending c.self.invariant.stands).stands)
    ∙ ap (λ (v : LogParts g.row.D.Denot). v.journal.end + 13) c.self.view_is)
    (λ frames pending s.
    subst (λ (x : List ℕ). IsAtRest g.D.Disk.seen c.append.new.self (frames ++ x ∷ [])) c.mark_buffer-buffer.ensures.frame
    (c.in-Ok.ensures.ok.rests frames pending (subst (λ (v : LogParts g.row.D.Denot). Stands g.D.Disk.seen v.journal frames pending) (sym c.self.view_is) s)))

pub returns-in-Ok-clause-any_moment : goal.returns-in-Ok-clause-any_moment
returns-in-Ok-clause-any_moment g c = λ pending k.
    moved g.D.Disk.seen g.met.D.Disk.only_now c.args.self.now (Marks c.args.start) pending k c.append.new.self.disk c.requires.follows
    (subst (λ (v : LogParts g.row.D.Denot). LeavesOnly g.D.Disk.seen v.journal.disk c.append.new.self.disk
    (λ x. IsWithPending (frames_of k.writes) (pending_frame pending) x ⊎ IsBeforeOrAfter (frames_of k.writes) (frame_of (Marks c.args.start)) x)) c.self.view_is
    (subst (λ (f : List ℕ). LeavesOnly g.D.Disk.seen c.self.inside.journal.disk c.append.new.self.disk
    (λ x. IsWithPending (frames_of k.writes) (pending_frame pending) x ⊎ IsBeforeOrAfter (frames_of k.writes) f x)) c.mark_buffer-buffer.ensures.frame
    (c.append.ensures.any_moment (frames_of k.writes) (pending_frame pending)
    (subst (λ (v : LogParts g.row.D.Denot). Stands g.D.Disk.seen v.journal (frames_of k.writes) (pending_frame pending)) (sym c.self.view_is) k.stands))))

pub returns-in-Err-clause-any_moment : goal.returns-in-Err-clause-any_moment
returns-in-Err-clause-any_moment g c = λ pending k.
    moved g.D.Disk.seen g.met.D.Disk.only_now c.args.self.now (Marks c.args.start) pending k c.append.new.self.disk c.requires.follows
    (subst (λ (v : LogParts g.row.D.Denot). LeavesOnly g.D.Disk.seen v.journal.disk c.append.new.self.disk
    (λ x. IsWithPending (frames_of k.writes) (pending_frame pending) x ⊎ IsBeforeOrAfter (frames_of k.writes) (frame_of (Marks c.args.start)) x)) c.self.view_is
    (subst (λ (f : List ℕ). LeavesOnly g.D.Disk.seen c.self.inside.journal.disk c.append.new.self.disk
    (λ x. IsWithPending (frames_of k.writes) (pending_frame pending) x ⊎ IsBeforeOrAfter (frames_of k.writes) f x)) c.mark_buffer-buffer.ensures.frame
    (c.append.ensures.any_moment (frames_of k.writes) (pending_frame pending)
    (subst (λ (v : LogParts g.row.D.Denot). Stands g.D.Disk.seen v.journal (frames_of k.writes) (pending_frame pending)) (sym c.self.view_is) k.stands))))

pub returns-in-Err-clause-device : goal.returns-in-Err-clause-device
returns-in-Err-clause-device g c = λ is. (
  unwritten g.D.Disk.seen c.args.self.now _ (Marks c.args.start) c.requires.follows
      (ap (λ (v : LogParts g.row.D.Denot). v.batches) c.self.view_is)
      (ap (λ (v : LogParts g.row.D.Denot). v.start) c.self.view_is)
      (failed_end g.D.Disk.seen c.self.inside.journal c.append.new.self (bytes_in c.self.inside.seen.frames) c.self.invariant.pending _ c.self.invariant.stands
      (c.in-Err.ensures.failed (bytes_in c.self.inside.seen.frames) c.self.invariant.pending c.self.invariant.stands)
      ∙ ap (λ (v : LogParts g.row.D.Denot). v.journal.end) c.self.view_is)
      (λ frames pending s. subst (λ (x : List ℕ). Stands g.D.Disk.seen c.append.new.self frames pending ⊎ Stands g.D.Disk.seen c.append.new.self frames (Some x)) c.mark_buffer-buffer.ensures.frame
      (c.in-Err.ensures.failed frames pending (subst (λ (v : LogParts g.row.D.Denot). Stands g.D.Disk.seen v.journal frames pending) (sym c.self.view_is) s))),
  subst (λ (v : LogParts g.row.D.Denot). Rose (g.D.Disk.seen v.journal.disk).faults (g.D.Disk.seen c.append.new.self.disk).faults) c.self.view_is (c.in-Err.ensures.disk.rose (ap Err (told_is c.in-Err.fault Device is))),
  subst (λ (v : LogParts g.row.D.Denot). StarvesUnarmed g.D.Disk.seen v.journal.disk c.append.new.self.disk) c.self.view_is (c.in-Err.ensures.disk.memory (ap Err (told_is c.in-Err.fault Device is))),
)

pub returns-in-Err-clause-unchanged : goal.returns-in-Err-clause-unchanged
returns-in-Err-clause-unchanged g c = λ end is.
    ap (λ (j : Writer g.row.D.Denot). record { batches = batches_of c.self.inside.seen.frames; start = c.self.inside.start; journal = j }) (c.in-Err.ensures.full.same end (ap Err (told_is c.in-Err.fault (Full end) is))).0 ∙ c.self.view_is

pub returns-in-Ok-clause-full : goal.returns-in-Ok-clause-full
returns-in-Ok-clause-full g c =
    full_done c.in-Ok.field-0 _ _ (ap (λ (v : LogParts g.row.D.Denot). v.journal.end) c.self.view_is) _ 13 c.mark_buffer-buffer.ensures.len c.in-Ok.ensures.full.exact

pub returns-in-Err-clause-full : goal.returns-in-Err-clause-full
returns-in-Err-clause-full g c =
    full_failed c.in-Err.fault _ _ (ap (λ (v : LogParts g.row.D.Denot). v.journal.end) c.self.view_is) _ 13 c.mark_buffer-buffer.ensures.len c.in-Err.ensures.full.exact
