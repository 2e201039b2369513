-- Runs that are put behind others and joined.
use Rattle.std.proofs.Common.{◌≡◌, ◌≢◌, ℕ, zero, suc, ◌+◌, ◌-◌, ◌<◌, ◌≤◌, Bool, true, cond, List, [], ◌∷◌, ◌++◌, length, take, drop, set, Option, Some, None, refl, ap, ◌∙◌, sym, subst, arith, inl, inr}
use Rattle.std.proofs.lemmas.Bool.{cases_lt}
use Rattle.std.proofs.lemmas.List.{append_assoc, length-append}
use Rattle.std.specs.BTreeMap.{insert_entry}
use Rattle.std.specs.List.{slice_get, insert, remove}
use Rattle.std.specs.Ordering.{nat_cmp}
use Rattle.share_model.specs.Held.{Held, hold_at, without_range}
use Rattle.share_model.specs.declared.hold.Hold.{Hold}
use Rattle.lock_index.specs.declared.run.HoldRun.{HoldRun}
use Rattle.lock_index.specs.Runs.{Follows, IsCanonical, held_from, held_of}
use Rattle.lock_index.specs.Windows.{RisesFrom, holding}
use Rattle.lock_index.proofs.Edits.{gone, kept, put_equal, put_greater, put_less, rises_lower, rises_put, rises_without}
use Rattle.std.proofs.lemmas.Bool.Decides.{nat_tests}
use Rattle.std.specs.Prelude.{nat_le, not, ◌&&◌}
use Rattle.lock_index.proofs.Changes.{without_at}
use Rattle.lock_index.proofs.Looks.{runs_rise}
use Rattle.lock_index.proofs.Orders.{gone_within, kept_below}
use Rattle.window_runs.specs.Puts.{IsPutBehind}
use Rattle.window_runs.specs.Kept.{HasFirst}
use Rattle.window_runs.proofs.Counting.{within_run}
use Rattle.window_runs.proofs.Cuts.{held_both, held_length, one_run, without_nothing}
use Rattle.window_runs.proofs.Splits.{drop_get, get_within, set_and_remove, take_all, take_and_drop, take_get}

-- ---- canonical runs, put together

pub canonical_take : (n : ℕ) (xs : List HoldRun) → IsCanonical xs → IsCanonical (take n xs)
canonical_take zero xs canonical = tt
canonical_take (suc n) [] canonical = tt
canonical_take (suc zero) (x ∷ xs) canonical = (canonical.0, tt, tt)
canonical_take (suc (suc n)) (x ∷ []) canonical = (canonical.0, tt, tt)
canonical_take (suc (suc n)) (x ∷ y ∷ xs) canonical = (canonical.0, canonical.1, canonical_take (suc n) (y ∷ xs) canonical.2)

follow_on : (xs : List HoldRun) (x r : HoldRun) → IsCanonical (xs ++ (x ∷ [])) → Follows x (r ∷ []) → r.first ≤ r.last → IsCanonical (xs ++ (x ∷ (r ∷ [])))
follow_on [] x r canonical follows order = (canonical.0, follows, (order, tt, tt))
follow_on (y ∷ []) x r canonical follows order = (canonical.0, canonical.1, follow_on [] x r canonical.2 follows order)
follow_on (y ∷ z ∷ xs) x r canonical follows order = (canonical.0, canonical.1, follow_on (z ∷ xs) x r canonical.2 follows order)

end_later : (xs : List HoldRun) (x : HoldRun) (k : ℕ) → IsCanonical (xs ++ (x ∷ [])) → x.first ≤ k → IsCanonical (xs ++ ((record x { last = k }) ∷ []))
end_later [] x k canonical order = (order, tt, tt)
end_later (y ∷ []) x k canonical order = (canonical.0, canonical.1, end_later [] x k canonical.2 order)
end_later (y ∷ z ∷ xs) x k canonical order = (canonical.0, canonical.1, end_later (z ∷ xs) x k canonical.2 order)

glue : (xs : List HoldRun) (x : HoldRun) (ys : List HoldRun) → IsCanonical (xs ++ (x ∷ [])) → IsCanonical (x ∷ ys) → IsCanonical (xs ++ (x ∷ ys))
glue [] x ys front back = back
glue (y ∷ []) x ys front back = (front.0, front.1, glue [] x ys front.2 back)
glue (y ∷ z ∷ xs) x ys front back = (front.0, front.1, glue (z ∷ xs) x ys front.2 back)

last_order : (xs : List HoldRun) (x : HoldRun) → IsCanonical (xs ++ (x ∷ [])) → x.first ≤ x.last
last_order [] x canonical = canonical.0
last_order (y ∷ xs) x canonical = last_order xs x canonical.2

-- ---- what two of them hold

held_on : (m n first : ℕ) (hold : Hold) → held_from first (m + n) hold ≡ held_from first m hold ++ held_from (first + m) n hold
held_on zero n first hold = let a : 0 + n ≡ n = omega arith in let b : first ≡ first + 0 = omega arith in
    ap (λ (k : ℕ). held_from first k hold) a ∙ ap (λ (k : ℕ). held_from k n hold) b
held_on (suc m) n first hold =
    let count : suc m + n ≡ suc (m + n) = omega arith in
    let next : (first + 1) + m ≡ first + suc m = omega arith in
    ap (λ (k : ℕ). held_from first k hold) count
    ∙ ap (λ (l : Held). (first, hold) ∷ l) (held_on m n (first + 1) hold ∙ ap (λ (k : ℕ). held_from (first + 1) m hold ++ held_from k n hold) next)

-- of two runs that touch, the longer one holds what both hold
pub held_joined : (x y : HoldRun) (ys : List HoldRun) → x.first ≤ x.last → y.first ≤ y.last → y.first ≡ x.last + 1 → y.hold ≡ x.hold
    → held_of ((record x { last = y.last }) ∷ ys) ≡ held_of (x ∷ (y ∷ ys))
held_joined x y ys ox oy next same =
    let count : (y.last + 1) - x.first ≡ ((x.last + 1) - x.first) + ((y.last + 1) - y.first) = omega (arith, next) in
    let start : x.first + ((x.last + 1) - x.first) ≡ y.first = omega (arith, next) in
    let m = (x.last + 1) - x.first in
    let n = (y.last + 1) - y.first in
    ap (λ (k : ℕ). held_from x.first k x.hold ++ held_of ys) count ∙ ap (λ (l : Held). l ++ held_of ys) (held_on m n x.first x.hold
    ∙ ap (λ (k : ℕ). held_from x.first m x.hold ++ held_from k n x.hold) start
    ∙ ap (λ (h : Hold). held_from x.first m x.hold ++ held_from y.first n h) (sym same))
    ∙ append_assoc (held_from x.first m x.hold) (held_from y.first n y.hold) (held_of ys)

-- ---- a run behind others

take_set : (xs : List HoldRun) (n : ℕ) (y : HoldRun) → n < length xs → take (suc n) (set xs n y) ≡ take n xs ++ (y ∷ [])
take_set [] n y within = absurd (omega arith)
take_set (x ∷ xs) zero y within = refl
take_set (x ∷ xs) (suc n) y within = ap (λ (l : List HoldRun). x ∷ l) (take_set xs n y (omega arith))

drop_set : (xs : List HoldRun) (n : ℕ) (y : HoldRun) → drop (suc n) (set xs n y) ≡ drop (suc n) xs
drop_set [] n y = refl
drop_set (x ∷ xs) zero y = refl
drop_set (x ∷ xs) (suc n) y = drop_set xs n y

get_set : (xs : List HoldRun) (n : ℕ) (y : HoldRun) → n < length xs → slice_get (set xs n y) n ≡ Some y
get_set [] n y within = absurd (omega arith)
get_set (x ∷ xs) zero y within = refl
get_set (x ∷ xs) (suc n) y within = get_set xs n y (omega arith)

take_insert : (xs : List HoldRun) (n : ℕ) (y : HoldRun) → n ≤ length xs → take (suc n) (insert xs n y) ≡ take n xs ++ (y ∷ [])
take_insert xs zero y within = refl
take_insert [] (suc n) y within = absurd (omega arith)
take_insert (x ∷ xs) (suc n) y within = ap (λ (l : List HoldRun). x ∷ l) (take_insert xs n y (omega arith))

drop_insert : (xs : List HoldRun) (n : ℕ) (y : HoldRun) → n ≤ length xs → drop (suc n) (insert xs n y) ≡ drop n xs
drop_insert xs zero y within = refl
drop_insert [] (suc n) y within = absurd (omega arith)
drop_insert (x ∷ xs) (suc n) y within = drop_insert xs n y (omega arith)

get_insert : (xs : List HoldRun) (n : ℕ) (y : HoldRun) → n ≤ length xs → slice_get (insert xs n y) n ≡ Some y
get_insert xs zero y within = refl
get_insert [] (suc n) y within = absurd (omega arith)
get_insert (x ∷ xs) (suc n) y within = get_insert xs n y (omega arith)

same_last : (x y : HoldRun) → Some x ≡ Some y → x.last ≡ y.last
same_last x y is = let same : x ≡ y = cc in ap (λ (z : HoldRun). z.last) same

-- one that goes on with the last of them
pub put_longer : (old : List HoldRun) (n : ℕ) (x run : HoldRun) → IsCanonical old → run.first ≤ run.last → slice_get old n ≡ Some x → run.first ≡ x.last + 1 → run.hold ≡ x.hold
    → IsPutBehind old (suc n) run (set old n (record x { last = run.last })) n
put_longer old n x run canonical order there next same =
    let within : n < length old = get_within old n x there in
    let front : IsCanonical (take n old ++ (x ∷ [])) = subst IsCanonical (take_get old n x there) (canonical_take (suc n) old canonical) in
    let longer : HoldRun = record x { last = run.last } in
    record {
      canonical = subst IsCanonical (sym (take_set old n longer within)) (end_later (take n old) x run.last front (omega (arith, last_order (take n old) x front, next)));
      held =
          ap held_of (take_set old n longer within) ∙ held_both (take n old) (longer ∷ [])
          ∙ ap (λ (l : Held). held_of (take n old) ++ l) (held_joined x run [] (last_order (take n old) x front) order next same)
          ∙ sym (held_both (take n old) (x ∷ (run ∷ []))) ∙ ap held_of (sym (append_assoc (take n old) (x ∷ []) (run ∷ [])))
          ∙ held_both (take n old ++ (x ∷ [])) (run ∷ []) ∙ ap (λ (l : List HoldRun). held_of l ++ held_of (run ∷ [])) (sym (take_get old n x there));
      rest = drop_set old n longer;
      within = omega (arith, within, length_set old n longer);
      few = omega (arith, length_set old n longer);
      last = λ y is. same_last y longer (sym is ∙ get_set old n longer within);
    } where
      length_set : (xs : List HoldRun) (n : ℕ) (y : HoldRun) → length (set xs n y) ≡ length xs
      length_set [] n y = refl
      length_set (x ∷ xs) zero y = refl
      length_set (x ∷ xs) (suc n) y = ap suc (length_set xs n y)

-- one of its own
pub put_new : (old : List HoldRun) (n : ℕ) (run : HoldRun) → IsCanonical old → run.first ≤ run.last → n ≤ length old
    → ((k : ℕ) (x : HoldRun) → slice_get old k ≡ Some x → k < n → x.last < run.first)
    → ((x : HoldRun) → 0 < n → slice_get old (n - 1) ≡ Some x → run.first ≡ x.last + 1 → run.hold ≢ x.hold) → IsPutBehind old n run (insert old n run) n
put_new old n run canonical order within before apart =
    record {
      canonical = subst IsCanonical (sym (take_insert old n run within)) (front n old canonical within before apart);
      held = ap held_of (take_insert old n run within) ∙ held_both (take n old) (run ∷ []);
      rest = drop_insert old n run within;
      within = longer old n run within;
      few = one_longer old n run within;
      last = λ y is. same_last y run (sym is ∙ get_insert old n run within);
    } where
      longer : (xs : List HoldRun) (n : ℕ) (y : HoldRun) → n ≤ length xs → n < length (insert xs n y)
      longer xs zero y within = omega arith
      longer [] (suc n) y within = absurd (omega arith)
      longer (x ∷ xs) (suc n) y within = omega (arith, longer xs n y (omega arith))

      one_longer : (xs : List HoldRun) (n : ℕ) (y : HoldRun) → n ≤ length xs → length (insert xs n y) ≤ length xs + 1
      one_longer xs zero y within = omega arith
      one_longer [] (suc n) y within = absurd (omega arith)
      one_longer (x ∷ xs) (suc n) y within = omega (arith, one_longer xs n y (omega arith))

      there : (xs : List HoldRun) (n : ℕ) → n < length xs → (r : HoldRun) × (slice_get xs n ≡ Some r)
      there [] n within = absurd (omega arith)
      there (x ∷ xs) zero within = (x, refl)
      there (x ∷ xs) (suc n) within = there xs n (omega arith)

      front : (n : ℕ) (xs : List HoldRun) → IsCanonical xs → n ≤ length xs → ((k : ℕ) (x : HoldRun) → slice_get xs k ≡ Some x → k < n → x.last < run.first)
          → ((x : HoldRun) → 0 < n → slice_get xs (n - 1) ≡ Some x → run.first ≡ x.last + 1 → run.hold ≢ x.hold) → IsCanonical (take n xs ++ (run ∷ []))
      front zero xs canonical within before apart = (order, tt, tt)
      front (suc n) xs canonical within before apart =
          let x = there xs n (omega arith) in
          let back : suc n - 1 ≡ n = omega arith in
          let split = take_get xs n x.0 x.1 in
          subst (λ (l : List HoldRun). IsCanonical (l ++ (run ∷ []))) (sym split) (subst IsCanonical (sym (append_assoc (take n xs) (x.0 ∷ []) (run ∷ [])))
          (follow_on (take n xs) x.0 run (subst IsCanonical split (canonical_take (suc n) xs canonical))
          (before n x.0 x.1 (omega arith), apart x.0 (omega arith) (ap (slice_get xs) back ∙ x.1)) order))

-- ---- the run at a place and the next

pub joined : (xs : List HoldRun) (n : ℕ) (x y : HoldRun) → slice_get xs n ≡ Some x → slice_get xs (suc n) ≡ Some y → IsCanonical (take (suc n) xs) → IsCanonical (drop (suc n) xs)
    → y.first ≡ x.last + 1 → y.hold ≡ x.hold → IsCanonical (remove (set xs n (record x { last = y.last })) (suc n))
joined xs n x y here next front back touches same =
    let split = set_and_remove xs n (record x { last = y.last }) (get_within xs (suc n) y next) in
    let before : IsCanonical (take n xs ++ (x ∷ [])) = subst IsCanonical (take_get xs n x here) front in
    let behind : IsCanonical (y ∷ drop (suc (suc n)) xs) = subst IsCanonical (drop_get xs (suc n) y next) back in
    subst IsCanonical (sym split) (glue (take n xs) (record x { last = y.last }) (drop (suc (suc n)) xs)
    (end_later (take n xs) x y.last before (omega (arith, last_order (take n xs) x before, touches, behind.0)))
    (omega (arith, last_order (take n xs) x before, touches, behind.0), follows_as (drop (suc (suc n)) xs) behind.1, behind.2)) where
      follows_as : (ys : List HoldRun) → Follows y ys → Follows (record x { last = y.last }) ys
      follows_as [] follows = tt
      follows_as (z ∷ zs) follows = (follows.0, λ t e. follows.1 t (e ∙ sym same))

pub joined_held : (xs : List HoldRun) (n : ℕ) (x y : HoldRun) → slice_get xs n ≡ Some x → slice_get xs (suc n) ≡ Some y → IsCanonical (take (suc n) xs) → IsCanonical (drop (suc n) xs)
    → y.first ≡ x.last + 1 → y.hold ≡ x.hold → held_of (remove (set xs n (record x { last = y.last })) (suc n)) ≡ held_of xs
joined_held xs n x y here next front back touches same =
    let split = set_and_remove xs n (record x { last = y.last }) (get_within xs (suc n) y next) in
    let before : IsCanonical (take n xs ++ (x ∷ [])) = subst IsCanonical (take_get xs n x here) front in
    let behind : IsCanonical (y ∷ drop (suc (suc n)) xs) = subst IsCanonical (drop_get xs (suc n) y next) back in
    ap held_of split ∙ held_both (take n xs) ((record x { last = y.last }) ∷ drop (suc (suc n)) xs)
    ∙ ap (λ (l : Held). held_of (take n xs) ++ l) (held_joined x y (drop (suc (suc n)) xs) (last_order (take n xs) x before) behind.0 touches same)
    ∙ sym (held_both (take n xs) (x ∷ (y ∷ drop (suc (suc n)) xs)))
    ∙ ap held_of (sym (take_and_drop xs n ∙ ap (λ (l : List HoldRun). take n xs ++ l) (drop_get xs n x here ∙ ap (λ (l : List HoldRun). x ∷ l) (drop_get xs (suc n) y next))))

pub apart_still : (xs : List HoldRun) (n : ℕ) (x y : HoldRun) → slice_get xs n ≡ Some x → slice_get xs (suc n) ≡ Some y → IsCanonical (take (suc n) xs) → IsCanonical (drop (suc n) xs)
    → x.last < y.first → (y.first ≡ x.last + 1 → y.hold ≢ x.hold) → IsCanonical xs
apart_still xs n x y here next front back far apart =
    let before : IsCanonical (take n xs ++ (x ∷ [])) = subst IsCanonical (take_get xs n x here) front in
    let behind : IsCanonical (y ∷ drop (suc (suc n)) xs) = subst IsCanonical (drop_get xs (suc n) y next) back in
    subst IsCanonical (sym (take_and_drop xs n ∙ ap (λ (l : List HoldRun). take n xs ++ l) (drop_get xs n x here ∙ ap (λ (l : List HoldRun). x ∷ l) (drop_get xs (suc n) y next))))
    (glue (take n xs) x (y ∷ drop (suc (suc n)) xs) before (last_order (take n xs) x before, (far, apart), behind))

pub last_still : (xs : List HoldRun) (n : ℕ) → length xs ≤ suc n → IsCanonical (take (suc n) xs) → IsCanonical xs
last_still xs n all front = subst IsCanonical (take_all xs (suc n) all) front

-- ---- an offset that is held

abbrev pub AreBelow : ℕ → Held → Type 0
AreBelow o [] = Unit {0}
AreBelow o (e ∷ es) = (e.0 < o) × AreBelow o es

below_both : (o : ℕ) (xs ys : Held) → AreBelow o xs → AreBelow o ys → AreBelow o (xs ++ ys)
below_both o [] ys bx by = by
below_both o (x ∷ xs) ys bx by = (bx.0, below_both o xs ys bx.1 by)

below_from : (o n first : ℕ) (hold : Hold) → first + n ≤ o → AreBelow o (held_from first n hold)
below_from o zero first hold le = tt
below_from o (suc n) first hold le = (omega arith, below_from o n (first + 1) hold (omega arith))

pub below_ended : (o n : ℕ) (xs : List HoldRun) → IsCanonical xs → ((k : ℕ) (x : HoldRun) → slice_get xs k ≡ Some x → k < n → x.last < o) → AreBelow o (held_of (take n xs))
below_ended o zero xs canonical ended = tt
below_ended o (suc n) [] canonical ended = tt
below_ended o (suc n) (x ∷ xs) canonical ended =
    below_both o (held_from x.first ((x.last + 1) - x.first) x.hold) (held_of (take n xs))
    (below_from o ((x.last + 1) - x.first) x.first x.hold (omega (arith, canonical.0, ended 0 x refl (omega arith))))
    (below_ended o n xs canonical.2 (λ k y is lo. ended (suc k) y is (omega arith)))

pub above_others : (o n : ℕ) (xs : List HoldRun) → IsCanonical xs → ((k : ℕ) (x : HoldRun) → slice_get xs k ≡ Some x → n ≤ k → o < x.first) → RisesFrom (o + 1) (held_of (drop n xs))
above_others o zero [] canonical later = tt
above_others o zero (x ∷ xs) canonical later = runs_rise (o + 1) x xs canonical (omega (arith, later 0 x refl (omega arith)))
above_others o (suc n) [] canonical later = tt
above_others o (suc n) (x ∷ xs) canonical later = above_others o n xs canonical.2 (λ k y is hi. later (suc k) y is (omega arith))

pub put_between : (o : ℕ) (hold : Hold) (xs ys : Held) → AreBelow o xs → RisesFrom (o + 1) ys → insert_entry nat_cmp (xs ++ ys) o hold ≡ xs ++ ((o, hold) ∷ ys)
put_between o hold [] [] below above = refl
put_between o hold [] (e ∷ es) below above = put_less e es o hold (omega (arith, above.0))
put_between o hold (e ∷ es) ys below above =
    put_greater e (es ++ ys) o hold below.0 ∙ ap (λ (l : Held). e ∷ l) (put_between o hold es ys below.1 above)

-- offsets that follow one another, between those below and those above
holding_between : (n first : ℕ) (hold : Hold) (xs ys : Held) → AreBelow first xs → RisesFrom (first + n) ys → holding first n hold (xs ++ ys) ≡ xs ++ (held_from first n hold ++ ys)
holding_between zero first hold xs ys below above = refl
holding_between (suc n) first hold xs ys below above =
    let later : RisesFrom (first + 1) ys = rises_lower (first + suc n) (first + 1) ys (omega arith) above in
    let rest : RisesFrom ((first + 1) + n) ys = subst (λ (k : ℕ). RisesFrom k ys) (omega arith) above in
    ap (holding (first + 1) n hold) (put_between first hold xs ys below later ∙ sym (append_assoc xs ((first, hold) ∷ []) ys))
    ∙ holding_between n (first + 1) hold (xs ++ ((first, hold) ∷ [])) ys
    (below_both (first + 1) xs ((first, hold) ∷ []) (below_later first xs below) (omega arith, tt)) rest
    ∙ append_assoc xs ((first, hold) ∷ []) (held_from (first + 1) n hold ++ ys) where
      below_later : (o : ℕ) (xs : Held) → AreBelow o xs → AreBelow (o + 1) xs
      below_later o [] below = tt
      below_later o (x ∷ xs) below = (omega (arith, below.0), below_later o xs below.1)

-- what was put stands between those before it and those behind it
parts : (old new : List HoldRun) (n at : ℕ) (run : HoldRun) → IsPutBehind old n run new at
    → held_of new ≡ held_of (take n old) ++ (held_from run.first ((run.last + 1) - run.first) run.hold ++ held_of (drop n old))
parts old new n at run put =
    ap held_of (take_and_drop new (suc at)) ∙ held_both (take (suc at) new) (drop (suc at) new)
    ∙ ap (λ (l : Held). l ++ held_of (drop (suc at) new)) put.held ∙ ap (λ (l : List HoldRun). (held_of (take n old) ++ held_of (run ∷ [])) ++ held_of l) put.rest
    ∙ ap (λ (l : Held). (held_of (take n old) ++ l) ++ held_of (drop n old)) (one_run run)
    ∙ append_assoc (held_of (take n old)) (held_from run.first ((run.last + 1) - run.first) run.hold) (held_of (drop n old))

-- the whole of it
pub put_whole : (old new : List HoldRun) (n at : ℕ) (run : HoldRun) → IsCanonical old → run.first ≤ run.last
    → ((k : ℕ) (x : HoldRun) → slice_get old k ≡ Some x → k < n → x.last < run.first) → ((k : ℕ) (x : HoldRun) → slice_get old k ≡ Some x → n ≤ k → run.last < x.first)
    → IsPutBehind old n run new at → held_of new ≡ holding run.first ((run.last + 1) - run.first) run.hold (held_of old)
put_whole old new n at run canonical order before behind put =
    let count : run.last + 1 ≡ run.first + ((run.last + 1) - run.first) = omega (arith, order) in
    parts old new n at run put
    ∙ sym (ap (holding run.first ((run.last + 1) - run.first) run.hold) (ap held_of (take_and_drop old n) ∙ held_both (take n old) (drop n old))
    ∙ holding_between ((run.last + 1) - run.first) run.first run.hold (held_of (take n old)) (held_of (drop n old)) (below_ended run.first n old canonical before)
    (subst (λ (k : ℕ). RisesFrom k (held_of (drop n old))) count (above_others run.last n old canonical behind)))

pub put_count : (old new : List HoldRun) (n at : ℕ) (run : HoldRun) → IsPutBehind old n run new at
    → length (held_of new) ≡ length (held_of old) + ((run.last + 1) - run.first)
put_count old new n at run put =
    let its = held_from run.first ((run.last + 1) - run.first) run.hold in
    let whole = ap (λ (h : Held). length h) (parts old new n at run put) in
    let front = length-append (held_of (take n old)) (its ++ held_of (drop n old)) in
    let back = length-append its (held_of (drop n old)) in
    let size = held_length ((run.last + 1) - run.first) run.first run.hold in
    let was = ap (λ (h : Held). length h) (ap held_of (take_and_drop old n) ∙ held_both (take n old) (drop n old)) in
    let both = length-append (held_of (take n old)) (held_of (drop n old)) in
    omega (arith, whole, front, back, size, was, both)

-- ---- over older holds

later_alike : (first last : ℕ) (held : Held) → RisesFrom (first + 1) held → without_range first last held ≡ without_range (first + 1) last held
later_alike first last [] rises = refl
later_alike first last (e ∷ es) rises =
    ap (λ (b : Bool). cond b (e ∷ without_range first last es) (without_range first last es)) (test first last e.0 rises.0)
    ∙ ap (λ (l : Held). cond (not (nat_le (first + 1) e.0 && nat_le e.0 last)) (e ∷ l) l)
    (later_alike first last es (rises_lower (e.0 + 1) (first + 1) es (omega (arith, rises.0)) rises.1)) where
      test : (first last o : ℕ) → first + 1 ≤ o → not (nat_le first o && nat_le o last) ≡ not (nat_le (first + 1) o && nat_le o last)
      test first last o le = grind (arith, nat_tests)

-- the first offset of a range, held before the others' holds end
first_again : (low first last : ℕ) (hold : Hold) (held : Held) → RisesFrom low held → first ≤ last
    → insert_entry nat_cmp (without_range first last held) first hold ≡ without_range (first + 1) last (insert_entry nat_cmp held first hold)
first_again low first last hold [] rises order = sym (kept (first + 1) last (first, hold) [] (kept_below (first + 1) last first (omega arith)))
first_again low first last hold (e ∷ es) rises order = elim (cases_lt e.0 first) [
  | inl under ↦
      ap (λ (l : Held). insert_entry nat_cmp l first hold) (kept first last e es (kept_below first last e.0 under))
      ∙ put_greater e (without_range first last es) first hold under
      ∙ ap (λ (l : Held). e ∷ l) (first_again (e.0 + 1) first last hold es rises.1 order)
      ∙ sym (ap (without_range (first + 1) last) (put_greater e es first hold under)
      ∙ kept (first + 1) last e (insert_entry nat_cmp es first hold) (kept_below (first + 1) last e.0 (omega (arith, under))))
  | inr from ↦ elim (cases_lt first e.0) [
    | inl over ↦
        let above : RisesFrom (first + 1) (e ∷ es) = (omega (arith, over), rises.1) in
        front (without_range first last (e ∷ es)) (rises_without first last (first + 1) (e ∷ es) above)
        ∙ ap (λ (l : Held). (first, hold) ∷ l) (later_alike first last (e ∷ es) above)
        ∙ sym (ap (without_range (first + 1) last) (put_less e es first hold over)
        ∙ kept (first + 1) last (first, hold) (e ∷ es) (kept_below (first + 1) last first (omega arith)))
    | inr upto ↦
        let same : first ≡ e.0 = omega (arith, from, upto) in
        let above : RisesFrom (first + 1) es = subst (λ (k : ℕ). RisesFrom (k + 1) es) (sym same) rises.1 in
        ap (λ (l : Held). insert_entry nat_cmp l first hold) (gone first last e es (gone_within first last e.0 from (omega (arith, order, same))))
        ∙ front (without_range first last es) (rises_without first last (first + 1) es above)
        ∙ ap (λ (l : Held). (first, hold) ∷ l) (later_alike first last es above)
        ∙ ap (λ (k : ℕ). (k, hold) ∷ without_range (first + 1) last es) same
        ∙ sym (ap (without_range (first + 1) last) (put_equal e es first hold same)
        ∙ kept (first + 1) last (e.0, hold) es (kept_below (first + 1) last e.0 (omega (arith, same))))
  ]
] where
  front : (es : Held) → RisesFrom (first + 1) es → insert_entry nat_cmp es first hold ≡ (first, hold) ∷ es
  front [] rises = refl
  front (f ∷ fs) rises = put_less f fs first hold (omega (arith, rises.0))

pub holding_again : (n low first last : ℕ) (hold : Hold) (held : Held) → RisesFrom low held → last + 1 ≡ first + n
    → holding first n hold (without_range first last held) ≡ holding first n hold held
holding_again zero low first last hold held rises is = sym (without_nothing first last held (omega (arith, is)))
holding_again (suc n) low first last hold held rises is =
    ap (holding (first + 1) n hold) (first_again low first last hold held rises (omega (arith, is)))
    ∙ holding_again n 0 (first + 1) last hold (insert_entry nat_cmp held first hold)
    (rises_put 0 first hold held (omega arith) (rises_lower low 0 held (omega arith) rises)) (omega (arith, is))

-- ---- what lies where nothing is held

first_at : (xs : List HoldRun) (o : ℕ) → HasFirst xs o → (k : ℕ) × (x : HoldRun) × (slice_get xs k ≡ Some x) × (x.first ≡ o)
first_at [] o has = absurd has
first_at (x ∷ xs) o has = elim has [
  | inl begins ↦ (0, x, refl, begins)
  | inr deep ↦ let rest = first_at xs o deep in (suc rest.0, rest.1, rest.2, rest.3)
]

order_at : (xs : List HoldRun) (k : ℕ) (x : HoldRun) → IsCanonical xs → slice_get xs k ≡ Some x → x.first ≤ x.last
order_at [] k x canonical is = absurd (cc)
order_at (y ∷ ys) zero x canonical is = let same : y ≡ x = cc in subst (λ (z : HoldRun). z.first ≤ z.last) same canonical.0
order_at (y ∷ ys) (suc k) x canonical is = order_at ys k x canonical.2 is

pub none_begins : (xs : List HoldRun) (n : ℕ) (run : HoldRun) → IsCanonical xs → run.first ≤ run.last → ((k : ℕ) (x : HoldRun) → slice_get xs k ≡ Some x → k < n → x.last < run.first)
    → ((k : ℕ) (x : HoldRun) → slice_get xs k ≡ Some x → n ≤ k → run.last < x.first) → HasFirst xs run.first → ⊥
none_begins xs n run canonical order before behind has =
    let at = first_at xs run.first has in
    elim (cases_lt at.0 n) [
      | inl lo ↦ omega (arith, before at.0 at.1 at.2 lo, order_at xs at.0 at.1 canonical at.2, at.3)
      | inr hi ↦ omega (arith, behind at.0 at.1 at.2 hi, at.3, order)
    ]

none_some : (h : Hold) (o : Option Hold) → o ≡ None → o ≡ Some h → ⊥
none_some h o none some = absurd (cc)

-- a run that doesn't end below offsets of which none is held begins behind them
pub free_below : (xs : List HoldRun) (k : ℕ) (x : HoldRun) (first last : ℕ) → IsCanonical xs → slice_get xs k ≡ Some x
    → ((o : ℕ) → first ≤ o → o ≤ last → hold_at (held_of xs) o ≡ None) → first ≤ last → first ≤ x.last → last < x.first
free_below xs k x first last canonical is free order upto = elim (cases_lt last x.first) [
  | inl lo ↦ lo
  | inr hi ↦ elim (cases_lt first x.first) [
    | inl under ↦ absurd (none_some x.hold (hold_at (held_of xs) x.first) (free x.first (omega (arith, under)) hi)
        (within_run k xs x x.first canonical is (omega arith) (order_at xs k x canonical is)))
    | inr over ↦ absurd (none_some x.hold (hold_at (held_of xs) first) (free first (omega arith) order) (within_run k xs x first canonical is over upto))
  ]
]

-- the next run lies behind a run that was put
pub next_apart : (old new : List HoldRun) (n at : ℕ) (run x y : HoldRun) → IsPutBehind old n run new at
    → ((k : ℕ) (z : HoldRun) → slice_get old k ≡ Some z → n ≤ k → run.last < z.first) → slice_get new at ≡ Some x → slice_get new (suc at) ≡ Some y → x.last < y.first
next_apart old new n at run x y put behind here next =
    let last = put.last x here in
    let there : slice_get (drop n old) 0 ≡ Some y = ap (λ (l : List HoldRun). slice_get l 0) (sym put.rest ∙ drop_get new (suc at) y next) in
    let far = behind n y (sym (get_drop old n) ∙ there) (omega arith) in
    omega (arith, last, far) where
      get_drop : (xs : List HoldRun) (n : ℕ) → slice_get (drop n xs) 0 ≡ slice_get xs n
      get_drop [] zero = refl
      get_drop [] (suc n) = refl
      get_drop (z ∷ zs) zero = refl
      get_drop (z ∷ zs) (suc n) = get_drop zs n

within_test : (first last o : ℕ) → first ≤ o → o ≤ last → (nat_le first o && nat_le o last) ≡ true
within_test first last o lo hi = grind (arith, nat_tests)

-- an offset of a range isn't held behind the end of its holds
pub without_its : (first last : ℕ) (held : Held) (o : ℕ) → first ≤ o → o ≤ last → hold_at (without_range first last held) o ≡ None
without_its first last held o lo hi = without_at first last held o ∙ ap (λ (b : Bool). cond b None (hold_at held o)) (within_test first last o lo hi)
