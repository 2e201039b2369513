use Rattle.std.proofs.Common.{◌≡◌, ℕ, List, None, ap, ◌∙◌, sym, subst}
use Rattle.lock_index.specs.Locks.{IsLeastFirst, PairsInRoom}
use Rattle.lock_index.specs.Places.{least_due}
use Rattle.lock_index.proofs.Dues.{least_first}
use Rattle.lock_index.proofs.index.LockIndex.due.Goals as goal

pub returns : goal.returns
returns c =
    let whole : least_due c.args.now None c.deref.result.now ≡ least_due c.args.now None c.self.inside.pairs.items = ap (λ (l : List (ℕ × ℕ)). least_due c.args.now None l) c.deref.ensures.value in
    let view : c.self.inside.pairs.items ≡ c.args.self.now.pairs = ap (λ (p : PairsInRoom). p.pairs) c.self.view_is in
    subst (λ (l : List (ℕ × ℕ)). IsLeastFirst l c.args.now c.find_due.result) view
    (subst (IsLeastFirst c.self.inside.pairs.items c.args.now) (sym (c.find_due.ensures ∙ whole)) (least_first c.args.now c.self.inside.pairs.items c.self.invariant))
