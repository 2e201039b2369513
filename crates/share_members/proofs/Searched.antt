-- A search among places that rise.
use Rattle.std.proofs.Common.{◌≡◌, ℕ, ◌<◌, false, List, [], length, get_or, Result, Ok, Err, sym, arith, nat_eq, inl, inr}
use Rattle.std.proofs.lemmas.Bool.{cases_lt, ne_eqb, eq-eqb}
use Rattle.std.proofs.lemmas.List.{get_or_default}
use Rattle.std.proofs.lemmas.List.Folds.{list_any_at, list_any_none}
use Rattle.std.proofs.lemmas.List.Sorted.{searched}
use Rattle.std.proofs.lemmas.Map.Keys.{non_decreasing_from_sorted}
use Rattle.std.specs.List.Sorted.{IsStrictlySortedBy, IsBinarySearchResult}
use Rattle.std.specs.Ordering.{nat_cmp}
use Rattle.std.specs.Result.{is_ok}
use Rattle.share_members.specs.Assignments.{has_place}

-- no places rise
pub nothing_rises : IsStrictlySortedBy nat_cmp []
unfolding IsStrictlySortedBy
nothing_rises = tt

-- what a search for x answers says whether x is there
pub found_place : (xs : List ℕ) (x : ℕ) (r : Result ℕ ℕ) → IsStrictlySortedBy nat_cmp xs → IsBinarySearchResult (λ y. nat_cmp y x) xs r
    → is_ok r ≡ has_place x xs
found_place xs x (Ok i) rising is =
    let at = searched xs x (Ok i) is (λ i j le lt. non_decreasing_from_sorted xs rising i j 0 le lt) in
    sym (list_any_at (λ y. nat_eq y x) xs i 0 at.0 (eq-eqb _ _ at.1))
found_place xs x (Err i) rising is =
    let at = searched xs x (Err i) is (λ i j le lt. non_decreasing_from_sorted xs rising i j 0 le lt) in
    let differs : (k d : ℕ) → k < length xs → nat_eq (get_or xs k d) x ≡ false = λ k d lt. elim (cases_lt k i) [
      | inl low ↦ ne_eqb _ _ (λ e. absurd (omega (arith, at.1 k low, get_or_default xs k d 0 lt, e)))
      | inr high ↦ ne_eqb _ _ (λ e. absurd (omega (arith, at.2 k high lt, get_or_default xs k d 0 lt, e)))
    ] in
    sym (list_any_none (λ y. nat_eq y x) xs differs)
