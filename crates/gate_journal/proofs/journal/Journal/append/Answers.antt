use Rattle.std.proofs.Common.{◌⊎◌, inl, inr, subst, sym, Some, Ok, Err, ◌+◌, ◌∷◌, [], ap, arith}
use Rattle.edge_io.specs.Counting.{MakesCalls}
use Rattle.edge_io.specs.Moments.{LeavesOnly}
use Rattle.edge_io.proofs.Moments.{joined, weakened}
use Rattle.gate_journal.specs.Frames.{IsWithPending, IsBeforeOrAfter, frame_in}
use Rattle.gate_journal.specs.Groups.{IsAllOrNone, pending_list}
use Rattle.gate_journal.specs.Journals.{Stands, calls_to_mend}
use Rattle.gate_journal.specs.declared.writer.Writer.{Writer}
use Rattle.share_model.specs.declared.fault.StoreFault.TheVariants.{Device as device}
use Rattle.gate_journal.proofs.Changes.{mend_failed, add_failed, both_made}
use Rattle.gate_journal.proofs.Grouped.{from_all, group_of_one, to_all, with_list}
use Rattle.gate_journal.proofs.Shaped.{not_full, stands_by, rests_by_text}
use Rattle.gate_journal.proofs.journal.Journal.append.Goals as goal

pub returns-in-Err-add-clause-failed : goal.returns-in-Err-add-clause-failed
returns-in-Err-add-clause-failed g c = λ frames pending s.
    let left = subst (λ (w : Writer _). Stands g.D.Disk.seen w frames pending) (sym c.self.view_is) s in
    let clean = c.in_default.ensures.ok frames (pending_list pending) (to_all g.D.Disk.seen _ _ frames pending left.mends) in
    inr (stands_by g.D.Disk.seen c.add.new.self frames (Some (frame_in c.args.buffer.now))
    (from_all g.D.Disk.seen c.add.new.self _ frames (Some (frame_in c.args.buffer.now))
    (c.in-Err-add.ensures.kept frames (frame_in c.args.buffer.now ∷ []) clean (group_of_one _ _ c.requires c.set_frame.ensures))))

pub returns-in-Err-add-clause-any_moment : goal.returns-in-Err-add-clause-any_moment
returns-in-Err-add-clause-any_moment g c = λ frames pending s.
    let left = subst (λ (w : Writer _). Stands g.D.Disk.seen w frames pending) (sym c.self.view_is) s in
    let clean = c.in_default.ensures.ok frames (pending_list pending) (to_all g.D.Disk.seen _ _ frames pending left.mends) in
    subst (λ (w : Writer _). LeavesOnly g.D.Disk.seen w.disk c.add.new.self.disk
    (λ x. IsWithPending frames pending x ⊎ IsBeforeOrAfter frames (frame_in c.args.buffer.now) x)) c.self.view_is
    (joined g.D.Disk.seen c.self.inside.writer.disk c.mend.new.self.disk c.add.new.self.disk (IsAllOrNone frames (pending_list pending))
    (IsBeforeOrAfter frames (frame_in c.args.buffer.now)) _
    (c.mend.ensures.any_moment frames (pending_list pending) (to_all g.D.Disk.seen _ _ frames pending left.mends)) (c.add.ensures.any_moment frames
    (frame_in c.args.buffer.now ∷ []) clean (group_of_one _ _ c.requires c.set_frame.ensures)) (λ x p. inl (with_list frames pending x p)) (λ x p. inr p))

pub returns-clause-ok : goal.returns-clause-ok
returns-clause-ok g c = record {
  rests = λ frames pending s.
      let left = subst (λ (w : Writer _). Stands g.D.Disk.seen w frames pending) (sym c.self.view_is) s in
      let clean = c.in_default.ensures.ok frames (pending_list pending) (to_all g.D.Disk.seen _ _ frames pending left.mends) in
      rests_by_text g.D.Disk.seen c.add.new.self _ c.in_default-add.ensures.done.0
      (c.in_default-add.ensures.ok frames (frame_in c.args.buffer.now ∷ []) clean (group_of_one _ _ c.requires c.set_frame.ensures));
  text = λ frames pending s.
      let left = subst (λ (w : Writer _). Stands g.D.Disk.seen w frames pending) (sym c.self.view_is) s in
      let clean = c.in_default.ensures.ok frames (pending_list pending) (to_all g.D.Disk.seen _ _ frames pending left.mends) in
      (c.in_default-add.ensures.ok frames (frame_in c.args.buffer.now ∷ []) clean (group_of_one _ _ c.requires c.set_frame.ensures)).each;
}

pub returns-clause-any_moment : goal.returns-clause-any_moment
returns-clause-any_moment g c = λ frames pending s.
    let left = subst (λ (w : Writer _). Stands g.D.Disk.seen w frames pending) (sym c.self.view_is) s in
    let clean = c.in_default.ensures.ok frames (pending_list pending) (to_all g.D.Disk.seen _ _ frames pending left.mends) in
    subst (λ (w : Writer _). LeavesOnly g.D.Disk.seen w.disk c.add.new.self.disk
    (λ x. IsWithPending frames pending x ⊎ IsBeforeOrAfter frames (frame_in c.args.buffer.now) x)) c.self.view_is
    (joined g.D.Disk.seen c.self.inside.writer.disk c.mend.new.self.disk c.add.new.self.disk (IsAllOrNone frames (pending_list pending))
    (IsBeforeOrAfter frames (frame_in c.args.buffer.now)) _
    (c.mend.ensures.any_moment frames (pending_list pending) (to_all g.D.Disk.seen _ _ frames pending left.mends)) (c.add.ensures.any_moment frames
    (frame_in c.args.buffer.now ∷ []) clean (group_of_one _ _ c.requires c.set_frame.ensures)) (λ x p. inl (with_list frames pending x p)) (λ x p. inr p))

pub returns-in-Err-clause-disk : goal.returns-in-Err-clause-disk
returns-in-Err-clause-disk g c =
    subst (λ (w : Writer _). MakesCalls g.D.Disk.seen (calls_to_mend w.mending + 4)
    w.disk c.mend.new.self.disk device (Err device)) c.self.view_is
    (mend_failed g.D.Disk.seen (calls_to_mend c.self.inside.writer.mending)
    c.self.inside.writer.disk c.mend.new.self.disk _ c.mend.ensures.runs c.in-Err.ensures.fails c.in-Err.ensures.cause)

pub returns-in-Err-add-clause-disk : goal.returns-in-Err-add-clause-disk
returns-in-Err-add-clause-disk g c =
    subst (λ (w : Writer _). MakesCalls g.D.Disk.seen (calls_to_mend w.mending + 4)
    w.disk c.add.new.self.disk device (Err device)) c.self.view_is
    (add_failed g.D.Disk.seen (calls_to_mend c.self.inside.writer.mending)
    c.self.inside.writer.disk c.mend.new.self.disk c.add.new.self.disk _ c.mend.ensures.runs c.in_default.ensures.calls
    c.add.ensures.runs c.in-Err-add.ensures.fails c.in-Err-add.ensures.cause)

pub returns-clause-disk : goal.returns-clause-disk
returns-clause-disk g c =
    subst (λ (w : Writer _). MakesCalls g.D.Disk.seen (calls_to_mend w.mending + 4)
    w.disk c.add.new.self.disk device (Ok c.mend.new.self.count)) c.self.view_is
    (both_made g.D.Disk.seen (calls_to_mend c.self.inside.writer.mending)
    c.self.inside.writer.disk c.mend.new.self.disk c.add.new.self.disk _ c.mend.ensures.runs c.in_default.ensures.calls
    c.add.ensures.runs c.in_default-add.ensures.calls)

pub returns-in-Err-clause-failed : goal.returns-in-Err-clause-failed
returns-in-Err-clause-failed g c = λ frames pending s.
    let left = subst (λ (w : Writer _). Stands g.D.Disk.seen w frames pending) (sym c.self.view_is) s in
    inl (stands_by g.D.Disk.seen c.mend.new.self frames pending
    (from_all g.D.Disk.seen c.mend.new.self _ frames pending (c.in-Err.ensures.kept frames (pending_list pending) (to_all g.D.Disk.seen _ _ frames pending left.mends))))

pub returns-in-Err-clause-any_moment : goal.returns-in-Err-clause-any_moment
returns-in-Err-clause-any_moment g c = λ frames pending s.
    let left = subst (λ (w : Writer _). Stands g.D.Disk.seen w frames pending) (sym c.self.view_is) s in
    subst (λ (w : Writer _). LeavesOnly g.D.Disk.seen w.disk c.mend.new.self.disk
    (λ x. IsWithPending frames pending x ⊎ IsBeforeOrAfter frames (frame_in c.args.buffer.now) x)) c.self.view_is
    (weakened g.D.Disk.seen _ _ _ _ (c.mend.ensures.any_moment frames (pending_list pending) (to_all g.D.Disk.seen _ _ frames pending left.mends))
    (λ x p. inl (with_list frames pending x p)))

pub returns-in-Err-clause-full : goal.returns-in-Err-clause-full
returns-in-Err-clause-full g c = not_full _ _ _ _ _ (λ end is. cc)
    (omega (arith, ap (λ (w : Writer _). w.end) c.self.view_is, c.if-end-gt-MAX_END.false, c.if-len-end.false))

pub returns-in-Err-add-clause-full : goal.returns-in-Err-add-clause-full
returns-in-Err-add-clause-full g c = not_full _ _ _ _ _ (λ end is. cc)
    (omega (arith, ap (λ (w : Writer _). w.end) c.self.view_is, c.if-end-gt-MAX_END.false, c.if-len-end.false))

pub returns-clause-full : goal.returns-clause-full
returns-clause-full g c = not_full _ _ _ _ _ (λ end is. cc)
    (omega (arith, ap (λ (w : Writer _). w.end) c.self.view_is, c.if-end-gt-MAX_END.false, c.if-len-end.false))
