-- A look-up has one canonical list of runs.
use Rattle.std.proofs.Common.{◌≡◌, ℕ, ◌+◌, ◌<◌, List, [], ◌∷◌, Option, Some, None, refl, ap, ◌∙◌, sym, arith, inl, inr}
use Rattle.std.proofs.lemmas.Bool.{cases_lt}
use Rattle.share_model.proofs.Lookups.{row_at-here, row_at-beyond, row_at-none, row_at-first}
use Rattle.share_model.specs.Runs.{row_of, row_at, Follows, IsCanonical}
use Rattle.share_model.specs.declared.row.Row.{Row}
use Rattle.share_model.specs.declared.run.Run.{Run}

absent : (row : Row) (o : Option Row) → o ≡ None → o ≡ Some row → ⊥
absent row o none some = cc

-- behind a run its row doesn't go on
other : (run : Run) (runs : List Run) → Follows run runs → IsCanonical runs → row_at runs (run.last + 1) ≡ Some (row_of run) → ⊥
other run [] follows canonical is = absent (row_of run) None refl is
other run (next ∷ runs) follows canonical is =
    elim (cases_lt (run.last + 1) next.first) [
      | inl below ↦ absent (row_of run) _ (row_at-first next runs (run.last + 1) canonical below) is
      | inr from ↦
          let touches : next.first ≡ run.last + 1 = omega (arith, follows.0) in
          let same : Some (row_of next) ≡ Some (row_of run) = sym (row_at-here next runs (run.last + 1) from (omega (arith, canonical.0))) ∙ is in
          follows.1 touches cc
    ]

-- one that begins earlier has a row where the other has none
begins : (x y : Run) (xs ys : List Run) → IsCanonical (x ∷ xs) → IsCanonical (y ∷ ys) → ((o : ℕ) → row_at (x ∷ xs) o ≡ row_at (y ∷ ys) o) → x.first < y.first → ⊥
begins x y xs ys cx cy same before =
    absent (row_of x) _ (row_at-first y ys x.first cy before) (sym (same x.first) ∙ row_at-here x xs x.first (omega arith) cx.0)

-- one that ends earlier differs behind its end
ends : (x y : Run) (xs ys : List Run) → IsCanonical (x ∷ xs) → IsCanonical (y ∷ ys) → ((o : ℕ) → row_at (x ∷ xs) o ≡ row_at (y ∷ ys) o)
    → x.first ≡ y.first → row_of x ≡ row_of y → x.last < y.last → ⊥
ends x y xs ys cx cy same first row before =
    other x xs cx.1 cx.2 (
    sym (row_at-beyond x xs (x.last + 1) (omega arith)) ∙ same (x.last + 1)
    ∙ row_at-here y ys (x.last + 1) (omega (arith, cx.0)) (omega arith) ∙ ap (λ (r : Row). Some r) (sym row))

rest : (x y : Run) (xs ys : List Run) → IsCanonical (x ∷ xs) → IsCanonical (y ∷ ys) → ((o : ℕ) → row_at (x ∷ xs) o ≡ row_at (y ∷ ys) o)
    → x.last ≡ y.last → (o : ℕ) → row_at xs o ≡ row_at ys o
rest x y xs ys cx cy same last o =
    elim (cases_lt x.last o) [
      | inl beyond ↦ sym (row_at-beyond x xs o beyond) ∙ same o ∙ row_at-beyond y ys o (omega arith)
      | inr upto ↦ row_at-none x xs o cx.1 cx.2 upto ∙ sym (row_at-none y ys o cy.1 cy.2 (omega arith))
    ]

alike : (x y : Run) → x.first ≡ y.first → x.last ≡ y.last → row_of x ≡ row_of y → x ≡ y
alike x y first last row = λ i. record { first = first i; last = last i; state = (row i).state; count = (row i).count }

no_first : (x : Run) (xs : List Run) → IsCanonical (x ∷ xs) → ((o : ℕ) → None ≡ row_at (x ∷ xs) o) → ⊥
no_first x xs canonical same = absent (row_of x) None refl (same x.first ∙ row_at-here x xs x.first (omega arith) canonical.0)

equal_from : (m n : ℕ) → (m < n → ⊥) → (n < m → ⊥) → m ≡ n
equal_from m n less more = omega arith

-- two canonical lists that give the same look-up are one
pub one_list : (xs ys : List Run) → IsCanonical xs → IsCanonical ys → ((o : ℕ) → row_at xs o ≡ row_at ys o) → xs ≡ ys
one_list [] [] cx cy same = refl
one_list [] (y ∷ ys) cx cy same = absurd (no_first y ys cy same)
one_list (x ∷ xs) [] cx cy same = absurd (no_first x xs cx (λ o. sym (same o)))
one_list (x ∷ xs) (y ∷ ys) cx cy same =
    let first : x.first ≡ y.first = equal_from x.first y.first (begins x y xs ys cx cy same) (begins y x ys xs cy cx (λ o. sym (same o))) in
    let found : Some (row_of x) ≡ Some (row_of y) =
    sym (row_at-here x xs x.first (omega arith) cx.0) ∙ same x.first ∙ row_at-here y ys x.first (omega arith) (omega (arith, cy.0)) in
    let row : row_of x ≡ row_of y = cc in
    let last : x.last ≡ y.last = equal_from x.last y.last (ends x y xs ys cx cy same first row) (ends y x ys xs cy cx (λ o. sym (same o)) (sym first) (sym row)) in
    λ i. alike x y first last row i ∷ one_list xs ys cx.2 cy.2 (rest x y xs ys cx cy same last) i
