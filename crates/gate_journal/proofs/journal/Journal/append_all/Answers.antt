use Rattle.std.proofs.Common.{◌⊎◌, inl, inr, subst, sym, Ok, Err, ◌+◌, ap, arith}
use Rattle.edge_io.specs.Counting.{MakesCalls}
use Rattle.edge_io.specs.Moments.{LeavesOnly}
use Rattle.edge_io.proofs.Moments.{joined, weakened}
use Rattle.gate_journal.specs.Groups.{IsAllOrNone, StandsAll}
use Rattle.gate_journal.specs.Journals.{calls_to_mend}
use Rattle.gate_journal.specs.declared.writer.Writer.{Writer}
use Rattle.share_model.specs.declared.fault.StoreFault.TheVariants.{Device as device}
use Rattle.gate_journal.proofs.Changes.{mend_failed, add_failed, both_made}
use Rattle.gate_journal.proofs.Grouped.{group_few, stands_all_by}
use Rattle.gate_journal.proofs.Shaped.{not_full, rests_by_text}
use Rattle.gate_journal.proofs.journal.Journal.append_all.Goals as goal

pub returns-in-Err-add-clause-failed : goal.returns-in-Err-add-clause-failed
returns-in-Err-add-clause-failed g c = λ frames pending group is s.
    let left = subst (λ (w : Writer _). StandsAll g.D.Disk.seen w frames pending) (sym c.self.view_is) s in
    let clean = c.in_default.ensures.ok frames pending left.mends in
    inr (stands_all_by g.D.Disk.seen c.add.new.self frames group (c.in-Err-add.ensures.kept frames group clean is))

pub returns-in-Err-add-clause-any_moment : goal.returns-in-Err-add-clause-any_moment
returns-in-Err-add-clause-any_moment g c = λ frames pending group is s.
    let left = subst (λ (w : Writer _). StandsAll g.D.Disk.seen w frames pending) (sym c.self.view_is) s in
    let clean = c.in_default.ensures.ok frames pending left.mends in
    subst (λ (w : Writer _). LeavesOnly g.D.Disk.seen w.disk c.add.new.self.disk
    (λ x. IsAllOrNone frames pending x ⊎ IsAllOrNone frames group x)) c.self.view_is
    (joined g.D.Disk.seen c.self.inside.writer.disk c.mend.new.self.disk c.add.new.self.disk (IsAllOrNone frames pending)
    (IsAllOrNone frames group) _
    (c.mend.ensures.any_moment frames pending left.mends) (c.add.ensures.any_moment frames group clean is) (λ x p. inl p) (λ x p. inr p))

pub returns-clause-ok : goal.returns-clause-ok
returns-clause-ok g c = λ group is. record {
  rests = λ frames pending s.
      let left = subst (λ (w : Writer _). StandsAll g.D.Disk.seen w frames pending) (sym c.self.view_is) s in
      let clean = c.in_default.ensures.ok frames pending left.mends in
      rests_by_text g.D.Disk.seen c.add.new.self _ c.in_default-add.ensures.done.0 (c.in_default-add.ensures.ok frames group clean is);
  text = λ frames pending s.
      let left = subst (λ (w : Writer _). StandsAll g.D.Disk.seen w frames pending) (sym c.self.view_is) s in
      let clean = c.in_default.ensures.ok frames pending left.mends in
      (c.in_default-add.ensures.ok frames group clean is).each;
}

pub returns-clause-any_moment : goal.returns-clause-any_moment
returns-clause-any_moment g c = λ frames pending group is s.
    let left = subst (λ (w : Writer _). StandsAll g.D.Disk.seen w frames pending) (sym c.self.view_is) s in
    let clean = c.in_default.ensures.ok frames pending left.mends in
    subst (λ (w : Writer _). LeavesOnly g.D.Disk.seen w.disk c.add.new.self.disk
    (λ x. IsAllOrNone frames pending x ⊎ IsAllOrNone frames group x)) c.self.view_is
    (joined g.D.Disk.seen c.self.inside.writer.disk c.mend.new.self.disk c.add.new.self.disk (IsAllOrNone frames pending)
    (IsAllOrNone frames group) _
    (c.mend.ensures.any_moment frames pending left.mends) (c.add.ensures.any_moment frames group clean is) (λ x p. inl p) (λ x p. inr p))

pub returns-in-Err-clause-disk : goal.returns-in-Err-clause-disk
returns-in-Err-clause-disk g c =
    subst (λ (w : Writer _). MakesCalls g.D.Disk.seen (calls_to_mend w.mending + 4)
    w.disk c.mend.new.self.disk device (Err device)) c.self.view_is
    (mend_failed g.D.Disk.seen (calls_to_mend c.self.inside.writer.mending)
    c.self.inside.writer.disk c.mend.new.self.disk _ c.mend.ensures.runs c.in-Err.ensures.fails c.in-Err.ensures.cause)

pub returns-in-Err-add-clause-disk : goal.returns-in-Err-add-clause-disk
returns-in-Err-add-clause-disk g c =
    subst (λ (w : Writer _). MakesCalls g.D.Disk.seen (calls_to_mend w.mending + 4)
    w.disk c.add.new.self.disk device (Err device)) c.self.view_is
    (add_failed g.D.Disk.seen (calls_to_mend c.self.inside.writer.mending)
    c.self.inside.writer.disk c.mend.new.self.disk c.add.new.self.disk _ c.mend.ensures.runs c.in_default.ensures.calls
    c.add.ensures.runs c.in-Err-add.ensures.fails c.in-Err-add.ensures.cause)

pub returns-clause-disk : goal.returns-clause-disk
returns-clause-disk g c =
    subst (λ (w : Writer _). MakesCalls g.D.Disk.seen (calls_to_mend w.mending + 4)
    w.disk c.add.new.self.disk device (Ok c.mend.new.self.count)) c.self.view_is
    (both_made g.D.Disk.seen (calls_to_mend c.self.inside.writer.mending)
    c.self.inside.writer.disk c.mend.new.self.disk c.add.new.self.disk _ c.mend.ensures.runs c.in_default.ensures.calls
    c.add.ensures.runs c.in_default-add.ensures.calls)

pub returns-in-Err-clause-failed : goal.returns-in-Err-clause-failed
returns-in-Err-clause-failed g c = λ frames pending group is s.
    let left = subst (λ (w : Writer _). StandsAll g.D.Disk.seen w frames pending) (sym c.self.view_is) s in
    inl (stands_all_by g.D.Disk.seen c.mend.new.self frames pending (c.in-Err.ensures.kept frames pending left.mends))

pub returns-in-Err-clause-any_moment : goal.returns-in-Err-clause-any_moment
returns-in-Err-clause-any_moment g c = λ frames pending group is s.
    let left = subst (λ (w : Writer _). StandsAll g.D.Disk.seen w frames pending) (sym c.self.view_is) s in
    subst (λ (w : Writer _). LeavesOnly g.D.Disk.seen w.disk c.mend.new.self.disk
    (λ x. IsAllOrNone frames pending x ⊎ IsAllOrNone frames group x)) c.self.view_is
    (weakened g.D.Disk.seen _ _ _ _ (c.mend.ensures.any_moment frames pending left.mends) (λ x p. inl p))

pub returns-in-Err-clause-full : goal.returns-in-Err-clause-full
returns-in-Err-clause-full g c = not_full _ _ _ _ _ (λ end is. cc)
    (omega (arith, ap (λ (w : Writer _). w.end) c.self.view_is, c.if-end-gt-MAX_END.false, c.if-len-end.false))

pub returns-in-Err-add-clause-full : goal.returns-in-Err-add-clause-full
returns-in-Err-add-clause-full g c = not_full _ _ _ _ _ (λ end is. cc)
    (omega (arith, ap (λ (w : Writer _). w.end) c.self.view_is, c.if-end-gt-MAX_END.false, c.if-len-end.false))

pub returns-clause-full : goal.returns-clause-full
returns-clause-full g c = not_full _ _ _ _ _ (λ end is. cc)
    (omega (arith, ap (λ (w : Writer _). w.end) c.self.view_is, c.if-end-gt-MAX_END.false, c.if-len-end.false))

pub add-requires-clause-few : goal.add-requires-clause-few
add-requires-clause-few g c = group_few _ _ c.requires.group.0 c.requires.group.1
