use Rattle.std.proofs.Common.{true, false, ◌≡◌, ◌+◌, ◌∙◌, ℕ, suc, Some, List, set, ap, sym, subst, refl}
use Rattle.std.specs.List.{remove, slice_get}
use Rattle.lock_index.specs.Runs.{IsCanonical, held_of}
use Rattle.lock_index.specs.declared.run.HoldRun.{HoldRun}
use Rattle.window_runs.proofs.Splits.{plus_one}
use Rattle.window_runs.proofs.Joins.{apart_still, joined, joined_held}
use Rattle.window_runs.proofs.put.join_next.Goals as goal

never : false ≡ true → ⊥
never is = absurd (cc)

made : (xs ys zs : List HoldRun) (n m : ℕ) (x : HoldRun) → ys ≡ set xs n x → zs ≡ remove ys (n + 1) → zs ≡ remove (set xs n x) (suc n)
made xs ys zs n m x one two = two ∙ ap (λ (l : List HoldRun). remove l (n + 1)) one ∙ ap (λ (k : ℕ). remove (set xs n x) k) (plus_one n)

pub returns-then-touches-clause-canonical : goal.returns-then-touches-clause-canonical
returns-then-touches-clause-canonical g c =
    let xs = c.args.list.now.runs in
    let n = c.args.place in
    let x = c.at.result.now in
    let y = c.at-2.result.now in
    let next : slice_get xs (suc n) ≡ Some y = ap (slice_get xs) (sym (plus_one n)) ∙ c.at-2.ensures.run in
    subst IsCanonical (sym (made xs c.end_at.new.list.runs c.drop_run.new.list.runs n n (record x { last = y.last }) c.end_at.ensures.runs c.drop_run.ensures.runs))
    (joined xs n x y c.at.ensures.run next c.requires.front c.requires.back (c.if-touches.ensures.0 refl).0 (c.if-touches.ensures.0 refl).1)

pub returns-then-touches-clause-held : goal.returns-then-touches-clause-held
returns-then-touches-clause-held g c =
    let xs = c.args.list.now.runs in
    let n = c.args.place in
    let x = c.at.result.now in
    let y = c.at-2.result.now in
    let next : slice_get xs (suc n) ≡ Some y = ap (slice_get xs) (sym (plus_one n)) ∙ c.at-2.ensures.run in
    ap held_of (made xs c.end_at.new.list.runs c.drop_run.new.list.runs n n (record x { last = y.last }) c.end_at.ensures.runs c.drop_run.ensures.runs)
    ∙ joined_held xs n x y c.at.ensures.run next c.requires.front c.requires.back (c.if-touches.ensures.0 refl).0 (c.if-touches.ensures.0 refl).1

pub returns-else-touches-clause-canonical : goal.returns-else-touches-clause-canonical
returns-else-touches-clause-canonical g c =
    let xs = c.args.list.now.runs in
    let n = c.args.place in
    let x = c.at.result.now in
    let y = c.at-2.result.now in
    let next : slice_get xs (suc n) ≡ Some y = ap (slice_get xs) (sym (plus_one n)) ∙ c.at-2.ensures.run in
    apart_still xs n x y c.at.ensures.run next c.requires.front c.requires.back (c.requires.apart x y c.at.ensures.run next) (λ begins same. never (c.if-touches.ensures.1 (begins, same)))
