use Rattle.std.proofs.Common.{◌≤◌, ◌∙◌, sym, subst, arith}
use Rattle.std.proofs.lemmas.Map.Iter.{rest_all}
use Rattle.std.specs.Map.Iter.{deref_pair}
use Rattle.share_coord.specs.Tables.{AreRoomy}
use Rattle.share_coord.proofs.table.are_roomy.Goals as goal

pub loop-kept-init : goal.loop-kept-init
loop-kept-init c = λ h. subst (AreRoomy c.args.room) (c.into_iter-kept-iterator.ensures.into_iter_gives ∙ c.iter-kept-items.ensures.rest) h

pub loop-kept-preserved : goal.loop-kept-preserved
loop-kept-preserved c = λ h.
    let le : c.args.room ≤ c.in-Some.kept.now.view.room = omega (arith, c.if-room-from.false, c.room.ensures, c.from.ensures) in
    c.loop-kept.invariant (subst (AreRoomy c.args.room) (sym c.in-Some.ensures.steps) (le, h))

pub returns : goal.returns
returns c = λ _. c.loop-kept.invariant (subst (AreRoomy c.args.room) (sym (rest_all deref_pair _ _ _ c.in-None.is c.next.ensures.steps)) tt)
