-- Runs that are cut at an offset.
use Rattle.std.proofs.Common.{◌≡◌, ℕ, ◌<◌, ◌≤◌, Bool, true, false, cond, List, [], ◌∷◌, Option, None, refl, ap, ◌∙◌, sym, arith, inl, inr}
use Rattle.std.proofs.lemmas.Bool.{cases_lt}
use Rattle.std.proofs.lemmas.Bool.Decides.{nat_tests}
use Rattle.std.specs.Prelude.{nat_lt}
use Rattle.share_model.proofs.Lookups.{row_at-here, row_at-below, row_at-beyond, row_at-none, row_at-first}
use Rattle.share_model.specs.Runs.{row_at, Follows, IsCanonical}
use Rattle.share_model.specs.declared.row.Row.{Row}
use Rattle.share_model.specs.declared.run.Run.{Run}
use Rattle.offset_runs.proofs.Joins.{choose}
use Rattle.offset_runs.specs.Parts.{run_before, run_from, before, from_on, EndsBelow, StartsFrom}

pub lt_yes : (m n : ℕ) → nat_lt m n ≡ true → m < n
lt_yes m n e = grind (arith, nat_tests)

pub yes_lt : (m n : ℕ) → m < n → nat_lt m n ≡ true
yes_lt m n h = grind (arith, nat_tests)

pub no_lt : (m n : ℕ) → n ≤ m → nat_lt m n ≡ false
no_lt m n h = grind (arith, nat_tests)

pub lt_no : (m n : ℕ) → nat_lt m n ≡ false → n ≤ m
lt_no m n e = grind (arith, nat_tests)

-- below the offset a cut list has the rows of the whole, and from it on none
pub before-row_at : (xs : List Run) (f o : ℕ) → IsCanonical xs → row_at (before xs f) o ≡ cond (nat_lt o f) (row_at xs o) None
before-row_at [] f o canonical = choose (λ (l : Option Row). None ≡ l) (nat_lt o f) None None (λ e. refl) (λ e. refl)
before-row_at (x ∷ xs) f o canonical =
    choose (λ (zs : List Run). row_at zs o ≡ cond (nat_lt o f) (row_at (x ∷ xs) o) None) (nat_lt x.first f) (run_before x f ∷ before xs f) []
    (λ begins. let lt = lt_yes x.first f begins in
    choose (λ (l : Option Row). row_at (run_before x f ∷ before xs f) o ≡ l) (nat_lt o f) (row_at (x ∷ xs) o) None
    (λ below. let low = lt_yes o f below in
    elim (cases_lt o x.first) [
      | inl early ↦ row_at-below (run_before x f) (before xs f) o early ∙ before-row_at xs f o canonical.2 ∙ ap (λ (b : Bool). cond b (row_at xs o) None) below ∙ sym (row_at-below x xs o early)
      | inr from ↦ elim (cases_lt x.last o) [
        | inl beyond ↦ row_at-beyond (run_before x f) (before xs f) o (omega arith) ∙ before-row_at xs f o canonical.2
            ∙ ap (λ (b : Bool). cond b (row_at xs o) None) below ∙ sym (row_at-beyond x xs o beyond)
        | inr upto ↦ row_at-here (run_before x f) (before xs f) o from (omega arith) ∙ sym (row_at-here x xs o from upto)
      ]
    ])
    (λ above. let high = lt_no o f above in
    row_at-beyond (run_before x f) (before xs f) o (omega arith) ∙ before-row_at xs f o canonical.2 ∙ ap (λ (b : Bool). cond b (row_at xs o) None) above))
    (λ later. let from = lt_no x.first f later in
    choose (λ (l : Option Row). None ≡ l) (nat_lt o f) (row_at (x ∷ xs) o) None
    (λ below. let low = lt_yes o f below in sym (row_at-first x xs o canonical (omega arith)))
    (λ above. refl))

Follows-before : (x : Run) (xs : List Run) (f : ℕ) → Follows x xs → Follows (run_before x f) (before xs f)
Follows-before x [] f follows = tt
Follows-before x (next ∷ xs) f follows =
    choose (λ (zs : List Run). Follows (run_before x f) zs) (nat_lt next.first f) (run_before next f ∷ before xs f) []
    (λ e. (omega (arith, follows.0), λ touch. follows.1 (omega (arith, follows.0, lt_yes next.first f e)))) (λ e. tt)

pub before-canonical : (xs : List Run) (f : ℕ) → IsCanonical xs → IsCanonical (before xs f)
before-canonical [] f canonical = tt
before-canonical (x ∷ xs) f canonical =
    choose IsCanonical (nat_lt x.first f) (run_before x f ∷ before xs f) []
    (λ e. (omega (arith, canonical.0, lt_yes x.first f e), Follows-before x xs f canonical.1, before-canonical xs f canonical.2))
    (λ e. tt)

pub before-ends : (xs : List Run) (f : ℕ) → EndsBelow (before xs f) f
before-ends [] f = tt
before-ends (x ∷ xs) f =
    choose (λ (zs : List Run). EndsBelow zs f) (nat_lt x.first f) (run_before x f ∷ before xs f) []
    (λ e. (omega (arith, lt_yes x.first f e), before-ends xs f)) (λ e. tt)

-- from the offset on a cut list has the rows of the whole, and below it none
pub from_on-row_at : (xs : List Run) (f o : ℕ) → IsCanonical xs → row_at (from_on xs f) o ≡ cond (nat_lt o f) None (row_at xs o)
from_on-row_at [] f o canonical = choose (λ (r : Option Row). None ≡ r) (nat_lt o f) None None (λ e. refl) (λ e. refl)
from_on-row_at (x ∷ xs) f o canonical =
    choose (λ (zs : List Run). row_at zs o ≡ cond (nat_lt o f) None (row_at (x ∷ xs) o)) (nat_lt x.last f) (from_on xs f) (run_from x f ∷ xs)
    (λ ends. let low = lt_yes x.last f ends in
    from_on-row_at xs f o canonical.2 ∙ choose (λ (r : Option Row). cond (nat_lt o f) None (row_at xs o) ≡ r) (nat_lt o f) None (row_at (x ∷ xs) o)
    (λ under. ap (λ (b : Bool). cond b None (row_at xs o)) under)
    (λ over. ap (λ (b : Bool). cond b None (row_at xs o)) over ∙ sym (row_at-beyond x xs o (omega (arith, lt_no o f over)))))
    (λ goes. let more = lt_no x.last f goes in
    choose (λ (r : Option Row). row_at (run_from x f ∷ xs) o ≡ r) (nat_lt o f) None (row_at (x ∷ xs) o)
    (λ under. let low = lt_yes o f under in
    row_at-below (run_from x f) xs o (omega arith) ∙ row_at-none x xs o canonical.1 canonical.2 (omega arith))
    (λ over. let high = lt_no o f over in
    elim (cases_lt o x.first) [
      | inl early ↦ row_at-below (run_from x f) xs o (omega arith) ∙ sym (row_at-below x xs o early)
      | inr from ↦ elim (cases_lt x.last o) [
        | inl beyond ↦ row_at-beyond (run_from x f) xs o beyond ∙ sym (row_at-beyond x xs o beyond)
        | inr within ↦ row_at-here (run_from x f) xs o (omega arith) within ∙ sym (row_at-here x xs o from within)
      ]
    ]))

Follows-from : (x : Run) (xs : List Run) (f : ℕ) → Follows x xs → Follows (run_from x f) xs
Follows-from x [] f follows = tt
Follows-from x (next ∷ xs) f follows = follows

pub from_on-canonical : (xs : List Run) (f : ℕ) → IsCanonical xs → IsCanonical (from_on xs f)
from_on-canonical [] f canonical = tt
from_on-canonical (x ∷ xs) f canonical =
    choose IsCanonical (nat_lt x.last f) (from_on xs f) (run_from x f ∷ xs) (λ e. from_on-canonical xs f canonical.2)
    (λ e. (omega (arith, canonical.0, lt_no x.last f e), Follows-from x xs f canonical.1, canonical.2))

pub from_on-starts : (xs : List Run) (f : ℕ) → StartsFrom (from_on xs f) f
from_on-starts [] f = tt
from_on-starts (x ∷ xs) f =
    choose (λ (zs : List Run). StartsFrom zs f) (nat_lt x.last f) (from_on xs f) (run_from x f ∷ xs) (λ e. from_on-starts xs f) (λ e. omega arith)
