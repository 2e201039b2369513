use Rattle.edge_real.proofs.Places.{is_at, is_absent, some_slot, leave_here, leave_others, leave_named, pushed_here, pushed_others}
use Rattle.edge_real.proofs.slots.set_out.Goals as goal

pub returns-in-Some-clause-ok : goal.returns-in-Some-clause-ok
returns-in-Some-clause-ok g c = leave_here _ _ _ _ (is_at _ _ _ _ _ c.deref.ensures.value c.as_bytes.ensures.same c.in-Some.ensures.at)
    some_slot _ (c.leave_at.ensures some_slot)

pub returns-in-Some-clause-others : goal.returns-in-Some-clause-others
returns-in-Some-clause-others g c = leave_others _ _ _ _ (is_at _ _ _ _ _ c.deref.ensures.value c.as_bytes.ensures.same c.in-Some.ensures.at)
    some_slot _ (c.leave_at.ensures some_slot)

pub returns-in-Some-clause-named : goal.returns-in-Some-clause-named
returns-in-Some-clause-named g c = leave_named _ _ _ _ (is_at _ _ _ _ _ c.deref.ensures.value c.as_bytes.ensures.same c.in-Some.ensures.at)
    some_slot _ (c.leave_at.ensures some_slot)

pub returns-clause-ok : goal.returns-clause-ok
returns-clause-ok g c = pushed_here _ _ _ _ (is_absent _ _ _ _ c.deref.ensures.value c.as_bytes.ensures.same c.in_default.ensures.at) c.duplicate.ensures
    c.in_ok-push.ensures.items

pub returns-clause-others : goal.returns-clause-others
returns-clause-others g c = λ m away. pushed_others _ _ _ _ m c.duplicate.ensures away c.in_ok-push.ensures.items
