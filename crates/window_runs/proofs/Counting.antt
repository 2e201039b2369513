-- How many runs a search finds, and what lies at their places.
use Rattle.std.proofs.Common.{◌≡◌, ℕ, zero, suc, ◌<◌, ◌≤◌, true, false, List, [], ◌∷◌, length, drop, get_or, Option, Some, None, refl, ap, ◌∙◌, sym, subst, arith}
use Rattle.std.proofs.lemmas.Bool.Decides.{nat_tests}
use Rattle.std.specs.Prelude.{nat_lt, nat_le}
use Rattle.std.specs.List.{slice_get}
use Rattle.std.specs.List.Sorted.{IsNonDecreasingBy}
use Rattle.share_model.specs.Held.{hold_at}
use Rattle.lock_index.specs.declared.run.HoldRun.{HoldRun}
use Rattle.lock_index.specs.Runs.{Follows, IsCanonical, held_of}
use Rattle.lock_index.specs.Windows.{IsRunFrom}
use Rattle.lock_index.proofs.OneList.{one_run_list}
use Rattle.lock_index.proofs.Looks.{look_here, look_beyond, look_first}
use Rattle.window_runs.proofs.Splits.{drop_get, drop_all, get_is, get_within}

pub lt_yes : (m n : ℕ) → nat_lt m n ≡ true → m < n
lt_yes m n e = grind (arith, nat_tests)

pub lt_no : (m n : ℕ) → nat_lt m n ≡ false → n ≤ m
lt_no m n e = grind (arith, nat_tests)

pub le_yes : (m n : ℕ) → nat_le m n ≡ true → m ≤ n
le_yes m n e = grind (arith, nat_tests)

pub le_no : (m n : ℕ) → nat_le m n ≡ false → n < m
le_no m n e = grind (arith, nat_tests)

-- the runs behind one begin behind its end
begins_behind : (r : HoldRun) (xs : List HoldRun) → Follows r xs → IsCanonical xs → (j : ℕ) (d : HoldRun) → j < length xs → (r.last < (get_or xs j d).first) × ((get_or xs j d).first ≤ (get_or xs j d).last)
begins_behind r [] follows canonical j d within = absurd (omega arith)
begins_behind r (x ∷ xs) follows canonical zero d within = (follows.0, canonical.0)
begins_behind r (x ∷ xs) follows canonical (suc j) d within =
    let rest = begins_behind x xs canonical.1 canonical.2 j d (omega arith) in
    (omega (arith, rest.0, follows.0, canonical.0), rest.1)

pub lasts_rise : (xs : List HoldRun) → IsCanonical xs → IsNonDecreasingBy (λ (r : HoldRun). r.last) xs
lasts_rise [] canonical i j d le within = absurd (omega arith)
lasts_rise (x ∷ xs) canonical zero zero d le within = omega arith
lasts_rise (x ∷ xs) canonical zero (suc j) d le within =
    let rest = begins_behind x xs canonical.1 canonical.2 j d (omega arith) in omega (arith, rest.0, rest.1)
lasts_rise (x ∷ xs) canonical (suc i) zero d le within = absurd (omega arith)
lasts_rise (x ∷ xs) canonical (suc i) (suc j) d le within = lasts_rise xs canonical.2 i j d (omega arith) (omega arith)

pub firsts_rise : (xs : List HoldRun) → IsCanonical xs → IsNonDecreasingBy (λ (r : HoldRun). r.first) xs
firsts_rise [] canonical i j d le within = absurd (omega arith)
firsts_rise (x ∷ xs) canonical zero zero d le within = omega arith
firsts_rise (x ∷ xs) canonical zero (suc j) d le within =
    let rest = begins_behind x xs canonical.1 canonical.2 j d (omega arith) in omega (arith, rest.0, canonical.0)
firsts_rise (x ∷ xs) canonical (suc i) zero d le within = absurd (omega arith)
firsts_rise (x ∷ xs) canonical (suc i) (suc j) d le within = firsts_rise xs canonical.2 i j d (omega arith) (omega arith)

-- what holds of the default's place holds of a run that stands there
pub at_run : (P : HoldRun → Type 0) (xs : List HoldRun) (k : ℕ) (r : HoldRun) → slice_get xs k ≡ Some r → P (get_or xs k r) → P r
at_run P xs k r is p = subst P (get_is xs k r r is) p

-- past runs that end below an offset, a look-up of it gives what the others hold
pub past_ended : (n : ℕ) (xs : List HoldRun) (o : ℕ) → IsCanonical xs
    → ((k : ℕ) (r : HoldRun) → slice_get xs k ≡ Some r → k < n → r.last < o) → hold_at (held_of xs) o ≡ hold_at (held_of (drop n xs)) o
past_ended zero xs o canonical ended = refl
past_ended (suc n) [] o canonical ended = refl
past_ended (suc n) (x ∷ xs) o canonical ended =
    look_beyond x xs o canonical.0 (ended 0 x refl (omega arith)) ∙ past_ended n xs o canonical.2 (λ k r is lo. ended (suc k) r is (omega arith))

pub canonical_drop : (n : ℕ) (xs : List HoldRun) → IsCanonical xs → IsCanonical (drop n xs)
canonical_drop zero xs canonical = canonical
canonical_drop (suc n) [] canonical = tt
canonical_drop (suc n) (x ∷ xs) canonical = canonical_drop n xs canonical.2

-- what a run holds, wherever it stands
pub within_run : (n : ℕ) (xs : List HoldRun) (r : HoldRun) (o : ℕ) → IsCanonical xs → slice_get xs n ≡ Some r → r.first ≤ o → o ≤ r.last → hold_at (held_of xs) o ≡ Some r.hold
within_run n [] r o canonical is lo hi = absurd (cc)
within_run zero (x ∷ xs) r o canonical is lo hi =
    let same : x ≡ r = cc in
    subst (λ (z : HoldRun). hold_at (held_of (z ∷ xs)) o ≡ Some r.hold) (sym same) (look_here r xs o lo hi)
within_run (suc n) (x ∷ xs) r o canonical is lo hi =
    let at = get_within xs n r is in
    let behind = begins_behind x xs canonical.1 canonical.2 n r at in
    let first : (get_or xs n r).first ≡ r.first = ap (λ (z : HoldRun). z.first) (get_is xs n r r is) in
    look_beyond x xs o canonical.0 (omega (arith, lo, behind.0, first)) ∙ within_run n xs r o canonical.2 is lo hi

-- the run at the place behind those that end below an offset
pub run_from : (n : ℕ) (xs : List HoldRun) (from : ℕ) (found : Option HoldRun) → IsCanonical xs
    → ((k : ℕ) (r : HoldRun) → slice_get xs k ≡ Some r → k < n → r.last < from)
    → ((k : ℕ) (r : HoldRun) → slice_get xs k ≡ Some r → n ≤ k → from ≤ r.last) → found ≡ slice_get xs n → IsRunFrom (held_of xs) from found
run_from n xs from (Some r) canonical ended others is =
    let there : slice_get xs n ≡ Some r = sym is in
    let rest : drop n xs ≡ r ∷ drop (suc n) xs = drop_get xs n r there in
    let sound : IsCanonical (r ∷ drop (suc n) xs) = subst IsCanonical rest (canonical_drop n xs canonical) in
    let far : from ≤ r.last = others n r there (omega arith) in
    let past : (o : ℕ) → from ≤ o → hold_at (held_of xs) o ≡ hold_at (held_of (r ∷ drop (suc n) xs)) o = λ o le.
    past_ended n xs o canonical (λ k x at lo. omega (arith, le, ended k x at lo)) ∙ ap (λ (l : List HoldRun). hold_at (held_of l) o) rest
    in
    record {
      ends = far;
      order = sound.0;
      holds = λ o lo hi. within_run n xs r o canonical there lo hi;
      free = λ o le under. past o le ∙ look_first r (drop (suc n) xs) o sound under;
      listed = λ runs list.
          let same : xs ≡ runs = one_run_list (held_of xs) xs runs (record { canonical = canonical; same = refl }) list in
          (n, ap (λ (l : List HoldRun). slice_get l n) (sym same) ∙ there);
    }
run_from n xs from None canonical ended others is = λ o le.
    past_ended n xs o canonical (λ k x at lo. omega (arith, le, ended k x at lo))
    ∙ ap (λ (l : List HoldRun). hold_at (held_of l) o) (drop_all xs n (none_there xs n (sym is))) where
      none_there : (xs : List HoldRun) (n : ℕ) → slice_get xs n ≡ None → length xs ≤ n
      none_there [] n is = omega arith
      none_there (x ∷ xs) zero is = absurd (cc)
      none_there (x ∷ xs) (suc n) is = omega (arith, none_there xs n is)
