use Rattle.std.proofs.Common.{arith, refl, ap, ◌+◌}
use Rattle.part_log.proofs.Frames.{entry_is, stored_by, view_bound}
use Rattle.part_log.proofs.entry.next_entry.Goals as goal

pub overflow_add-result : goal.overflow_add-result
overflow_add-result c = omega (arith, view_bound _ _ c.in-Ok.ensures.accepted, c.from.ensures)

pub returns : goal.returns
returns c =
    let a = c.in-Ok.ensures.accepted in
    (entry_is c.args.frame.now c.in-Ok.view a c.args.place _ _ (ap (λ n. c.in-Ok.view.base + n) c.from.ensures) refl, stored_by c.args.frame.now a.1.0 a.1.1, omega (arith, c.if-view-end.false, a.0.base))
