-- A look-up has one canonical list of pieces.
use Rattle.std.proofs.Common.{◌≡◌, ℕ, ◌+◌, ◌<◌, List, [], ◌∷◌, Option, Some, None, refl, ap, ◌∙◌, sym, arith, inl, inr}
use Rattle.std.proofs.lemmas.Bool.{cases_lt}
use Rattle.share_model.specs.declared.ack.AckKind.{AckKind}
use Rattle.ack_ranges.specs.Pieces.{piece_at, Follows, IsCanonical}
use Rattle.ack_ranges.specs.declared.piece.Piece.{Piece}
use Rattle.ack_ranges.proofs.Looks.{here, beyond, none, begins_at}

absent : (kind : AckKind) (o : Option AckKind) → o ≡ None → o ≡ Some kind → ⊥
absent kind o nothing some = cc

-- behind a piece its kind doesn't go on
other : (x : Piece) (xs : List Piece) → Follows x xs → IsCanonical xs → piece_at xs (x.last + 1) ≡ Some x.kind → ⊥
other x [] follows canonical is = absent x.kind None refl is
other x (next ∷ xs) follows canonical is =
    elim (cases_lt (x.last + 1) next.first) [
      | inl under ↦ absent x.kind _ (begins_at next xs (x.last + 1) canonical under) is
      | inr from ↦
          let touches : next.first ≡ x.last + 1 = omega (arith, follows.0) in
          let same : Some next.kind ≡ Some x.kind = sym (here next xs (x.last + 1) from (omega (arith, canonical.0))) ∙ is in
          follows.1 touches cc
    ]

-- one that begins earlier says something where the other says nothing
begins : (x y : Piece) (xs ys : List Piece) → IsCanonical (x ∷ xs) → IsCanonical (y ∷ ys) → ((o : ℕ) → piece_at (x ∷ xs) o ≡ piece_at (y ∷ ys) o) → x.first < y.first → ⊥
begins x y xs ys cx cy same before =
    absent x.kind _ (begins_at y ys x.first cy before) (sym (same x.first) ∙ here x xs x.first (omega arith) cx.0)

-- one that ends earlier differs behind its end
ends : (x y : Piece) (xs ys : List Piece) → IsCanonical (x ∷ xs) → IsCanonical (y ∷ ys) → ((o : ℕ) → piece_at (x ∷ xs) o ≡ piece_at (y ∷ ys) o)
    → x.first ≡ y.first → x.kind ≡ y.kind → x.last < y.last → ⊥
ends x y xs ys cx cy same first kind before =
    other x xs cx.1 cx.2 (
    sym (beyond x xs (x.last + 1) (omega arith)) ∙ same (x.last + 1)
    ∙ here y ys (x.last + 1) (omega (arith, cx.0)) (omega arith) ∙ ap (λ (k : AckKind). Some k) (sym kind))

rest : (x y : Piece) (xs ys : List Piece) → IsCanonical (x ∷ xs) → IsCanonical (y ∷ ys) → ((o : ℕ) → piece_at (x ∷ xs) o ≡ piece_at (y ∷ ys) o)
    → x.last ≡ y.last → (o : ℕ) → piece_at xs o ≡ piece_at ys o
rest x y xs ys cx cy same last o =
    elim (cases_lt x.last o) [
      | inl over ↦ sym (beyond x xs o over) ∙ same o ∙ beyond y ys o (omega arith)
      | inr upto ↦ none x xs o cx.1 cx.2 upto ∙ sym (none y ys o cy.1 cy.2 (omega arith))
    ]

alike : (x y : Piece) → x.first ≡ y.first → x.last ≡ y.last → x.kind ≡ y.kind → x ≡ y
alike x y first last kind = λ i. record { first = first i; last = last i; kind = kind i }

no_first : (x : Piece) (xs : List Piece) → IsCanonical (x ∷ xs) → ((o : ℕ) → None ≡ piece_at (x ∷ xs) o) → ⊥
no_first x xs canonical same = absent x.kind None refl (same x.first ∙ here x xs x.first (omega arith) canonical.0)

equal_from : (m n : ℕ) → (m < n → ⊥) → (n < m → ⊥) → m ≡ n
equal_from m n less more = omega arith

-- two canonical lists that give the same look-up are one
pub one_list : (xs ys : List Piece) → IsCanonical xs → IsCanonical ys → ((o : ℕ) → piece_at xs o ≡ piece_at ys o) → xs ≡ ys
one_list [] [] cx cy same = refl
one_list [] (y ∷ ys) cx cy same = absurd (no_first y ys cy same)
one_list (x ∷ xs) [] cx cy same = absurd (no_first x xs cx (λ o. sym (same o)))
one_list (x ∷ xs) (y ∷ ys) cx cy same =
    let first : x.first ≡ y.first = equal_from x.first y.first (begins x y xs ys cx cy same) (begins y x ys xs cy cx (λ o. sym (same o))) in
    let found : Some x.kind ≡ Some y.kind =
    sym (here x xs x.first (omega arith) cx.0) ∙ same x.first ∙ here y ys x.first (omega arith) (omega (arith, cy.0)) in
    let kind : x.kind ≡ y.kind = cc in
    let last : x.last ≡ y.last = equal_from x.last y.last (ends x y xs ys cx cy same first kind) (ends y x ys xs cy cx (λ o. sym (same o)) (sym first) (sym kind)) in
    λ i. alike x y first last kind i ∷ one_list xs ys cx.2 cy.2 (rest x y xs ys cx cy same last) i
