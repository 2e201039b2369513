-- How many runs a search finds.
use Rattle.std.proofs.Common.{◌≡◌, ℕ, zero, suc, ◌+◌, ◌<◌, ◌≤◌, Bool, true, false, cond, List, [], ◌∷◌, length, get_or, refl, ap, ◌∙◌, sym, arith}
use Rattle.std.specs.Prelude.{nat_lt, nat_le}
use Rattle.std.proofs.lemmas.Bool.Decides.{nat_tests}
use Rattle.std.specs.List.Sorted.{IsNonDecreasingBy}
use Rattle.share_model.specs.Runs.{Follows, IsCanonical}
use Rattle.share_model.specs.declared.run.Run.{Run}
use Rattle.offset_runs.specs.Parts.{begin_count, end_count}

later : (run : Run) (xs : List Run) → Follows run xs → IsCanonical xs → (j : ℕ) (d : Run) → j < length xs → (run.last < (get_or xs j d).first) × ((get_or xs j d).first ≤ (get_or xs j d).last)
later run [] follows canonical j d within = absurd (omega arith)
later run (x ∷ xs) follows canonical zero d within = (follows.0, canonical.0)
later run (x ∷ xs) follows canonical (suc j) d within =
    let after = later x xs canonical.1 canonical.2 j d (omega arith) in
    (omega (arith, after.0, follows.0, canonical.0), after.1)

pub firsts_rise : (xs : List Run) → IsCanonical xs → IsNonDecreasingBy (λ (r : Run). r.first) xs
firsts_rise [] canonical i j d le within = absurd (omega arith)
firsts_rise (x ∷ xs) canonical zero zero d le within = omega arith
firsts_rise (x ∷ xs) canonical zero (suc j) d le within =
    let after = later x xs canonical.1 canonical.2 j d (omega arith) in omega (arith, after.0, canonical.0)
firsts_rise (x ∷ xs) canonical (suc i) zero d le within = absurd (omega arith)
firsts_rise (x ∷ xs) canonical (suc i) (suc j) d le within = firsts_rise xs canonical.2 i j d (omega arith) (omega arith)

pub lasts_rise : (xs : List Run) → IsCanonical xs → IsNonDecreasingBy (λ (r : Run). r.last) xs
lasts_rise [] canonical i j d le within = absurd (omega arith)
lasts_rise (x ∷ xs) canonical zero zero d le within = omega arith
lasts_rise (x ∷ xs) canonical zero (suc j) d le within =
    let after = later x xs canonical.1 canonical.2 j d (omega arith) in omega (arith, after.0, after.1)
lasts_rise (x ∷ xs) canonical (suc i) zero d le within = absurd (omega arith)
lasts_rise (x ∷ xs) canonical (suc i) (suc j) d le within = lasts_rise xs canonical.2 i j d (omega arith) (omega arith)

-- a count of the elements in front that pass a test, and a place up to which all pass and from which none does
counted : (p : Run → Bool) (count : List Run → ℕ) → count [] ≡ 0 → ((x : Run) (xs : List Run) → count (x ∷ xs) ≡ cond (p x) (suc (count xs)) 0)
    → (xs : List Run) (i : ℕ) → i ≤ length xs → ((k : ℕ) (d : Run) → 0 ≤ k → k < i → p (get_or xs k d) ≡ true)
    → ((k : ℕ) (d : Run) → i ≤ k → k < length xs → p (get_or xs k d) ≡ false) → i ≡ count xs
counted p count none step [] i bound pass fail = let e : i ≡ 0 = omega arith in e ∙ sym none
counted p count none step (x ∷ xs) zero bound pass fail =
    sym (step x xs ∙ ap (λ (b : Bool). cond b (suc (count xs)) 0) (fail 0 x (omega arith) (omega arith)))
counted p count none step (x ∷ xs) (suc i) bound pass fail =
    ap suc (counted p count none step xs i (omega arith) (λ k d lo hi. pass (suc k) d (omega arith) (omega arith)) (λ k d lo hi. fail (suc k) d (omega arith) (omega arith)))
    ∙ sym (step x xs ∙ ap (λ (b : Bool). cond b (suc (count xs)) 0) (pass 0 x (omega arith) (omega arith)))

pub counted-begin_count : (offset : ℕ) (xs : List Run) (i : ℕ) → i ≤ length xs → ((k : ℕ) (d : Run) → 0 ≤ k → k < i → nat_lt (get_or xs k d).first offset ≡ true)
    → ((k : ℕ) (d : Run) → i ≤ k → k < length xs → nat_lt (get_or xs k d).first offset ≡ false) → i ≡ begin_count xs offset
counted-begin_count offset = counted (λ r. nat_lt r.first offset) (λ xs. begin_count xs offset) refl (λ x xs. refl)

pub counted-end_count : (offset : ℕ) (xs : List Run) (i : ℕ) → i ≤ length xs → ((k : ℕ) (d : Run) → 0 ≤ k → k < i → nat_lt (get_or xs k d).last offset ≡ true)
    → ((k : ℕ) (d : Run) → i ≤ k → k < length xs → nat_lt (get_or xs k d).last offset ≡ false) → i ≡ end_count xs offset
counted-end_count offset = counted (λ r. nat_lt r.last offset) (λ xs. end_count xs offset) refl (λ x xs. refl)

-- a test for `at most` as one for `below`
pub upto : (m n : ℕ) (b : Bool) → nat_le m n ≡ b → nat_lt m (n + 1) ≡ b
upto m n b e = grind (arith, nat_tests)
