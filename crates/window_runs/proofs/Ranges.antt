-- A range that is taken out of runs, one of them after another from behind.
use Rattle.std.proofs.Common.{◌≡◌, ℕ, zero, suc, ◌+◌, ◌-◌, ◌<◌, ◌≤◌, Bool, true, false, cond, List, [], ◌∷◌, ◌++◌, length, take, drop, set, Some, refl, ap, ◌∙◌, sym, subst, arith, inl, inr}
use Rattle.std.proofs.lemmas.Bool.{cases_lt}
use Rattle.std.proofs.lemmas.Bool.Decides.{nat_tests}
use Rattle.std.proofs.lemmas.List.{append_assoc}
use Rattle.std.specs.Prelude.{nat_le, min, max}
use Rattle.std.specs.List.{slice_get}
use Rattle.lock_index.specs.declared.run.HoldRun.{HoldRun}
use Rattle.lock_index.specs.Runs.{IsCanonical, held_of, met_count}
use Rattle.window_runs.specs.Cuts.{cut, cut_run}
use Rattle.window_runs.specs.Kept.{HasFirst}
use Rattle.window_runs.proofs.Splits.{get_split, take_and_drop}
use Rattle.window_runs.proofs.Cuts.{both_length, run_length, each_holds, cut_whole, cut_end, cut_begin, cut_middle, cut_ended, cut_later}

one_of : (x y : HoldRun) → Some x ≡ Some y → x ≡ y
one_of x y is = cc

-- a run that begins where another one did
pub set_first : (xs : List HoldRun) (n o : ℕ) (x y : HoldRun) → slice_get xs n ≡ Some x → y.first ≡ x.first → HasFirst (set xs n y) o → HasFirst xs o
set_first [] n o x y is same has = absurd (cc)
set_first (z ∷ zs) zero o x y is same has =
    let at = one_of z x is in
    elim has [
      | inl begins ↦ inl (ap (λ (r : HoldRun). r.first) at ∙ sym same ∙ begins)
      | inr deep ↦ inr deep
    ]
set_first (z ∷ zs) (suc n) o x y is same has = elim has [
  | inl begins ↦ inl begins
  | inr deep ↦ inr (set_first zs n o x y is same deep)
]

pub set_length : (xs : List HoldRun) (n : ℕ) (y : HoldRun) → length (set xs n y) ≡ length xs
set_length [] n y = refl
set_length (x ∷ xs) zero y = refl
set_length (x ∷ xs) (suc n) y = ap suc (set_length xs n y)

-- the offsets of a run are held beside at least one of each other
pub run_holds : (xs : List HoldRun) (n : ℕ) (r : HoldRun) → IsCanonical xs → slice_get xs n ≡ Some r → length xs + (r.last - r.first) ≤ length (held_of xs)
run_holds [] n r canonical is = absurd (cc)
run_holds (x ∷ xs) zero r canonical is =
    let same = one_of x r is in
    let first : x.first ≡ r.first = ap (λ (z : HoldRun). z.first) same in
    let last : x.last ≡ r.last = ap (λ (z : HoldRun). z.last) same in
    omega (arith, first, last, canonical.0, run_length x xs, each_holds xs canonical.2)
run_holds (x ∷ xs) (suc n) r canonical is = omega (arith, canonical.0, run_length x xs, run_holds xs n r canonical.2 is)

pub run_order : (xs : List HoldRun) (n : ℕ) (r : HoldRun) → IsCanonical xs → slice_get xs n ≡ Some r → r.first ≤ r.last
run_order [] n r canonical is = absurd (cc)
run_order (x ∷ xs) zero r canonical is = subst (λ (z : HoldRun). z.first ≤ z.last) (one_of x r is) canonical.0
run_order (x ∷ xs) (suc n) r canonical is = run_order xs n r canonical.2 is

-- ---- how many offsets go

cut_length : (first last : ℕ) (r : HoldRun) → first ≤ last → r.first ≤ r.last → r.first ≤ last → first ≤ r.last
    → ((min r.last last + 1) - max r.first first) + length (held_of (cut_run first last r)) ≡ (r.last + 1) - r.first
cut_length first last r order some begins ends = elim (cases_lt r.first first) [
  | inl lo ↦ elim (cases_lt last r.last) [
    | inl hi ↦
        let parts = ap (λ (l : List HoldRun). length (held_of l)) (cut_middle first last r order lo hi) in
        let left = run_length (record r { last = first - 1 }) ((record r { first = last + 1 }) ∷ []) in
        let right = run_length (record r { first = last + 1 }) [] in
        omega (arith, parts, left, right)
    | inr upto ↦
        let parts = ap (λ (l : List HoldRun). length (held_of l)) (cut_end first last r lo ends upto) in
        let left = run_length (record r { last = first - 1 }) [] in
        omega (arith, parts, left)
  ]
  | inr from ↦ elim (cases_lt last r.last) [
    | inl hi ↦
        let parts = ap (λ (l : List HoldRun). length (held_of l)) (cut_begin first last r from begins hi) in
        let right = run_length (record r { first = last + 1 }) [] in
        omega (arith, parts, right)
    | inr upto ↦
        let parts = ap (λ (l : List HoldRun). length (held_of l)) (cut_whole first last r from upto) in
        omega (arith, parts)
  ]
]

pub cut_gone : (first last n : ℕ) (xs : List HoldRun) (r : HoldRun) → first ≤ last → IsCanonical xs → slice_get xs n ≡ Some r → r.first ≤ last → first ≤ r.last
    → ((min r.last last + 1) - max r.first first) + length (held_of (take n xs ++ (cut_run first last r ++ drop (suc n) xs))) ≡ length (held_of xs)
cut_gone first last n xs r order canonical is begins ends =
    let own = cut_length first last r order (run_order xs n r canonical is) begins ends in
    let new = both_length (take n xs) (cut_run first last r ++ drop (suc n) xs) in
    let new2 = both_length (cut_run first last r) (drop (suc n) xs) in
    let old = ap (λ (l : List HoldRun). length (held_of l)) (get_split xs n r is) in
    let old2 = both_length (take n xs) (r ∷ drop (suc n) xs) in
    let old3 = run_length r (drop (suc n) xs) in
    omega (arith, own, new, new2, old, old2, old3)

-- ---- from behind

pub get_cut : (first last n : ℕ) (xs : List HoldRun) → n < length xs → slice_get (take (suc n) xs ++ cut first last (drop (suc n) xs)) n ≡ slice_get xs n
get_cut first last n [] within = absurd (omega arith)
get_cut first last zero (x ∷ xs) within = refl
get_cut first last (suc n) (x ∷ xs) within = get_cut first last n xs (omega arith)

pub next_cut : (first last n : ℕ) (xs : List HoldRun) (r : HoldRun) → slice_get xs n ≡ Some r
    → take n (take (suc n) xs ++ cut first last (drop (suc n) xs)) ++ (cut_run first last r ++ drop (suc n) (take (suc n) xs ++ cut first last (drop (suc n) xs)))
    ≡ take n xs ++ cut first last (drop n xs)
next_cut first last n [] r is = absurd (cc)
next_cut first last zero (x ∷ xs) r is = let same = one_of x r is in ap (λ (z : HoldRun). cut_run first last z ++ cut first last xs) (sym same)
next_cut first last (suc n) (x ∷ xs) r is = ap (λ (l : List HoldRun). x ∷ l) (next_cut first last n xs r is)

cut_both : (first last : ℕ) (xs ys : List HoldRun) → cut first last (xs ++ ys) ≡ cut first last xs ++ cut first last ys
cut_both first last [] ys = refl
cut_both first last (x ∷ xs) ys =
    ap (λ (l : List HoldRun). cut_run first last x ++ l) (cut_both first last xs ys)
    ∙ sym (append_assoc (cut_run first last x) (cut first last xs) (cut first last ys))

uncut_front : (first last n : ℕ) (xs : List HoldRun) → first ≤ last → IsCanonical xs → ((k : ℕ) (r : HoldRun) → slice_get xs k ≡ Some r → k < n → r.last < first)
    → cut first last (take n xs) ≡ take n xs
uncut_front first last zero xs order canonical ended = refl
uncut_front first last (suc n) [] order canonical ended = refl
uncut_front first last (suc n) (x ∷ xs) order canonical ended =
    ap (λ (l : List HoldRun). l ++ cut first last (take n xs)) (cut_ended first last x order canonical.0 (ended 0 x refl (omega arith)))
    ∙ ap (λ (l : List HoldRun). x ∷ l) (uncut_front first last n xs order canonical.2 (λ k r is lo. ended (suc k) r is (omega arith)))

uncut_all : (first last : ℕ) (xs : List HoldRun) → first ≤ last → IsCanonical xs → ((k : ℕ) (r : HoldRun) → slice_get xs k ≡ Some r → last < r.first)
    → cut first last xs ≡ xs
uncut_all first last [] order canonical later = refl
uncut_all first last (x ∷ xs) order canonical later =
    ap (λ (l : List HoldRun). l ++ cut first last xs) (cut_later first last x order canonical.0 (later 0 x refl))
    ∙ ap (λ (l : List HoldRun). x ∷ l) (uncut_all first last xs order canonical.2 (λ k r is. later (suc k) r is))

-- none is cut yet
pub none_cut : (first last n : ℕ) (xs : List HoldRun) → first ≤ last → IsCanonical xs → ((k : ℕ) (r : HoldRun) → slice_get xs k ≡ Some r → n ≤ k → last < r.first)
    → xs ≡ take n xs ++ cut first last (drop n xs)
none_cut first last zero xs order canonical later = sym (uncut_all first last xs order canonical (λ k r is. later k r is (omega arith)))
none_cut first last (suc n) [] order canonical later = refl
none_cut first last (suc n) (x ∷ xs) order canonical later =
    ap (λ (l : List HoldRun). x ∷ l) (none_cut first last n xs order canonical.2 (λ k r is hi. later (suc k) r is (omega arith)))

-- all are cut
pub all_cut : (first last n : ℕ) (xs : List HoldRun) → first ≤ last → IsCanonical xs → ((k : ℕ) (r : HoldRun) → slice_get xs k ≡ Some r → k < n → r.last < first)
    → take n xs ++ cut first last (drop n xs) ≡ cut first last xs
all_cut first last n xs order canonical ended =
    ap (λ (l : List HoldRun). l ++ cut first last (drop n xs)) (sym (uncut_front first last n xs order canonical ended))
    ∙ sym (cut_both first last (take n xs) (drop n xs)) ∙ ap (cut first last) (sym (take_and_drop xs n))

-- ---- how many runs the range meets

meets : (first last a b : ℕ) → first ≤ last → a ≤ b → a ≤ last → first ≤ b → nat_le (max first a) (min last b) ≡ true
meets first last a b order some begins ends = let le : max first a ≤ min last b = omega arith in grind (arith, nat_tests)

ends_first : (first last a b : ℕ) → b < first → nat_le (max first a) (min last b) ≡ false
ends_first first last a b ended = let gt : min last b < max first a = omega arith in grind (arith, nat_tests)

begins_later : (first last a b : ℕ) → last < a → nat_le (max first a) (min last b) ≡ false
begins_later first last a b later = let gt : min last b < max first a = omega arith in grind (arith, nat_tests)

never_met : (first last a b : ℕ) → last < first → nat_le (max first a) (min last b) ≡ false
never_met first last a b empty = let gt : min last b < max first a = omega arith in grind (arith, nat_tests)

-- a range that ends before it begins meets none
pub none_met : (first last : ℕ) (xs : List HoldRun) → last < first → met_count first last xs ≡ 0
none_met first last [] empty = refl
none_met first last (x ∷ xs) empty =
    ap (λ (b : Bool). cond b (suc (met_count first last xs)) (met_count first last xs)) (never_met first last x.first x.last empty) ∙ none_met first last xs empty

-- it meets none of those that end before it
pub met_ended : (first last n : ℕ) (xs : List HoldRun) → ((k : ℕ) (r : HoldRun) → slice_get xs k ≡ Some r → k < n → r.last < first) → met_count first last (take n xs) ≡ 0
met_ended first last zero xs ended = refl
met_ended first last (suc n) [] ended = refl
met_ended first last (suc n) (x ∷ xs) ended =
    ap (λ (b : Bool). cond b (suc (met_count first last (take n xs))) (met_count first last (take n xs))) (ends_first first last x.first x.last (ended 0 x refl (omega arith)))
    ∙ met_ended first last n xs (λ k r is lo. ended (suc k) r is (omega arith))

-- and none of those that begin behind it
pub met_back : (first last n : ℕ) (xs : List HoldRun) → ((k : ℕ) (r : HoldRun) → slice_get xs k ≡ Some r → n ≤ k → last < r.first) → met_count first last xs ≡ met_count first last (take n xs)
met_back first last zero [] later = refl
met_back first last zero (x ∷ xs) later =
    ap (λ (b : Bool). cond b (suc (met_count first last xs)) (met_count first last xs)) (begins_later first last x.first x.last (later 0 x refl (omega arith)))
    ∙ met_back first last zero xs (λ k r is hi. later (suc k) r is (omega arith))
met_back first last (suc n) [] later = refl
met_back first last (suc n) (x ∷ xs) later =
    elim (nat_le (max first x.first) (min last x.last)) as (λ b. cond b (suc (met_count first last xs)) (met_count first last xs)
    ≡ cond b (suc (met_count first last (take n xs))) (met_count first last (take n xs))) [
      | true ↦ ap suc (met_back first last n xs (λ k r is hi. later (suc k) r is (omega arith)))
      | false ↦ met_back first last n xs (λ k r is hi. later (suc k) r is (omega arith))
    ]

pub met_next : (first last n : ℕ) (xs : List HoldRun) (r : HoldRun) → slice_get xs n ≡ Some r → first ≤ last → r.first ≤ r.last → r.first ≤ last → first ≤ r.last
    → met_count first last (take (suc n) xs) ≡ suc (met_count first last (take n xs))
met_next first last n [] r is order some begins ends = absurd (cc)
met_next first last zero (x ∷ xs) r is order some begins ends =
    let same = one_of x r is in
    let lo : x.first ≤ last = subst (λ (z : HoldRun). z.first ≤ last) (sym same) begins in
    let hi : first ≤ x.last = subst (λ (z : HoldRun). first ≤ z.last) (sym same) ends in
    ap (λ (b : Bool). cond b 1 0) (meets first last x.first x.last order (subst (λ (z : HoldRun). z.first ≤ z.last) (sym same) some) lo hi)
met_next first last (suc n) (x ∷ xs) r is order some begins ends =
    elim (nat_le (max first x.first) (min last x.last)) as (λ b. cond b (suc (met_count first last (take (suc n) xs))) (met_count first last (take (suc n) xs))
    ≡ suc (cond b (suc (met_count first last (take n xs))) (met_count first last (take n xs)))) [
      | true ↦ ap suc (met_next first last n xs r is order some begins ends)
      | false ↦ met_next first last n xs r is order some begins ends
    ]

pub met_front : (first last n : ℕ) (xs : List HoldRun) → met_count first last (take n xs) ≤ met_count first last xs
met_front first last zero xs = omega arith
met_front first last (suc n) [] = omega arith
met_front first last (suc n) (x ∷ xs) =
    elim (nat_le (max first x.first) (min last x.last)) as (λ b. cond b (suc (met_count first last (take n xs))) (met_count first last (take n xs))
    ≤ cond b (suc (met_count first last xs)) (met_count first last xs)) [
      | true ↦ omega (arith, met_front first last n xs)
      | false ↦ met_front first last n xs
    ]

pub get_some : (xs : List HoldRun) (n : ℕ) → n < length xs → (r : HoldRun) × (slice_get xs n ≡ Some r)
get_some [] n within = absurd (omega arith)
get_some (x ∷ xs) zero within = (x, refl)
get_some (x ∷ xs) (suc n) within = get_some xs n (omega arith)

cut_length_from : (first last n : ℕ) (xs : List HoldRun) → n ≤ length xs → n ≤ length (take n xs ++ cut first last (drop n xs))
cut_length_from first last zero xs within = omega arith
cut_length_from first last (suc n) [] within = absurd (omega arith)
cut_length_from first last (suc n) (x ∷ xs) within = omega (arith, cut_length_from first last n xs (omega arith))

-- a place before those that are cut, at which the run is the old one
pub record IsNextPlace (first last place : ℕ) (xs now : List HoldRun) : Type 0 where
  pub place_is : place ≡ suc (place - 1)
  pub run : HoldRun
  pub there : slice_get xs (place - 1) ≡ Some run
  pub same : slice_get now (place - 1) ≡ Some run
  pub within : place - 1 < length now

pub next_place : (first last place : ℕ) (xs now : List HoldRun) → 0 < place → place ≤ length xs → now ≡ take place xs ++ cut first last (drop place xs)
    → IsNextPlace first last place xs now
next_place first last zero xs now some within is = absurd (omega arith)
next_place first last (suc n) xs now some within is =
    let run = get_some xs n (omega arith) in
    let back : suc n - 1 ≡ n = omega arith in
    record {
      place_is = omega arith;
      run = run.0;
      there = ap (slice_get xs) back ∙ run.1;
      same = ap (slice_get now) back ∙ ap (λ (l : List HoldRun). slice_get l n) is ∙ get_cut first last n xs (omega arith) ∙ run.1;
      within = omega (arith, back, ap length is, cut_length_from first last (suc n) xs within);
    }

-- one more is cut
pub one_more : (first last place : ℕ) (xs now new : List HoldRun) (r : HoldRun) → 0 < place → now ≡ take place xs ++ cut first last (drop place xs)
    → slice_get xs (place - 1) ≡ Some r → new ≡ take (place - 1) now ++ (cut_run first last r ++ drop (suc (place - 1)) now)
    → new ≡ take (place - 1) xs ++ cut first last (drop (place - 1) xs)
one_more first last zero xs now new r some is there made = absurd (omega arith)
one_more first last (suc n) xs now new r some is there made =
    let back : suc n - 1 ≡ n = omega arith in
    made ∙ ap (λ (k : ℕ). take k now ++ (cut_run first last r ++ drop (suc k) now)) back
    ∙ ap (λ (l : List HoldRun). take n l ++ (cut_run first last r ++ drop (suc n) l)) is
    ∙ next_cut first last n xs r (sym (ap (slice_get xs) back) ∙ there)
    ∙ ap (λ (k : ℕ). take k xs ++ cut first last (drop k xs)) (sym back)

pub one_more_met : (first last place : ℕ) (xs : List HoldRun) (r : HoldRun) → 0 < place → slice_get xs (place - 1) ≡ Some r → first ≤ last → r.first ≤ r.last → r.first ≤ last → first ≤ r.last
    → met_count first last (take place xs) ≡ suc (met_count first last (take (place - 1) xs))
one_more_met first last zero xs r some there order own begins ends = absurd (omega arith)
one_more_met first last (suc n) xs r some there order own begins ends =
    let back : suc n - 1 ≡ n = omega arith in
    met_next first last n xs r (sym (ap (slice_get xs) back) ∙ there) order own begins ends ∙ ap (λ (k : ℕ). suc (met_count first last (take k xs))) (sym back)
