use Rattle.std.proofs.Common.{◌≡◌, ◌++◌, ◌∙◌, sym, subst, rules, Ok, Err, Some}
use Rattle.std.proofs.lemmas.Map.Iter.{rest_more}
use Rattle.std.specs.Prelude.{OnErr, Result}
use Rattle.std.specs.BTreeMap.{is_at}
use Rattle.std.specs.Cmp.Lexicographic.{slice_cmp}
use Rattle.std.specs.List.{AllByRecursion}
use Rattle.std.specs.Map.{lookup}
use Rattle.std.specs.Map.Iter.{deref_pair}
use Rattle.std.specs.Ordering.{nat_cmp}
use Rattle.share_part.specs.Releasing.{due_groups}
use Rattle.lock_index.specs.Windows.{IsRising}
use Rattle.share_part.proofs.Ordered.{due_there, found_all}
use Rattle.share_part.proofs.windows.due_groups.Goals as goal

on_err : {T E : Type 0} (P : Type 0) (r : Result T E) → P → OnErr r P
on_err P (Ok x) p = tt
on_err P (Err e) p = p

pub loop-group-init : goal.loop-group-init
loop-group-init g c =
    let it : c.into_iter-group-iterator.result ≡ c.args.windows.now.entries = search rules in
    record {
      so_far = (λ i. c.new-due.ensures.items i ++ due_groups g.W.Window.held c.args.clock (it i));
      found = subst (AllByRecursion (λ e. lookup (is_at (slice_cmp nat_cmp e.0)) c.args.windows.now.entries ≡ Some e.1)) (sym it)
          (found_all g.W.Window.held c.args.clock c.args.windows.now.entries c.iter-group-items.ensures.ordered);
      rising = λ h. subst (AllByRecursion (λ e. IsRising (g.W.Window.held e.1))) it h;
    }

pub returns-in_err-push-clause-some : goal.returns-in_err-push-clause-some
returns-in_err-push-clause-some g c = on_err _ c.from_residual.result
    (let split = rest_more deref_pair _ _ _ _ c.in-Some.is c.next.ensures.steps in
    let found = subst (AllByRecursion (λ e. lookup (is_at (slice_cmp nat_cmp e.0)) c.args.windows.now.entries ≡ Some e.1)) split c.loop-group.invariant.found in
    due_there g.W.Window.held c.args.clock c.args.windows.now.entries c.in-Some.group.now c.in-Some.window.now found.0 c.is_due.ensures.rising (sym c.is_due.ensures.due ∙ c.if-is_due.true))
