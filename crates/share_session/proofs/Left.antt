-- On the acknowledgements that are left while a list of partitions, of which none stands twice, is walked.
use Rattle.std.proofs.Common.{◌≡◌, ◌<◌, ◌+◌, ℕ, zero, suc, Bool, true, false, nat_eq, ◌||◌, List, [], ◌∷◌, length, drop, get_or, refl, sym, ap, subst, ◌∙◌, arith}
use Rattle.std.specs.List.{IsDistinct, AllByRecursion}
use Rattle.std.proofs.lemmas.Map.Keys.{IsDistinct-head, IsDistinct-tail}
use Rattle.std.proofs.lemmas.Bool.Decides.{nat_tests}
use Rattle.std.proofs.lemmas.List.{drop_more}
use Rattle.share_model.specs.declared.ack.AckBatch.{AckBatch}
use Rattle.share_session.specs.Requests.{acks_for, has}

equal : (m n : ℕ) → nat_eq m n ≡ true → m ≡ n
equal m n h = grind (arith, nat_tests)

itself : (n : ℕ) → nat_eq n n ≡ true
itself n = grind (arith, nat_tests)

distinct_left : (xs : List ℕ) (i : ℕ) → IsDistinct nat_eq xs → IsDistinct nat_eq (drop i xs)
distinct_left xs zero h = h
distinct_left [] (suc i) h = h
distinct_left (x ∷ xs) (suc i) h = distinct_left xs i (IsDistinct-tail nat_eq x xs h)

all_apart : (x : ℕ) (ys : List ℕ) (q : ℕ) → AllByRecursion (λ y. nat_eq x y ≡ false) ys → has ys q ≡ true → nat_eq x q ≡ false
all_apart x [] q a h = absurd (cc)
all_apart x (y ∷ ys) q a h = by (nat_eq q y) refl h (all_apart x ys q a.1)
  where
    by : (b : Bool) → nat_eq q y ≡ b → (b || has ys q) ≡ true → (has ys q ≡ true → nat_eq x q ≡ false) → nat_eq x q ≡ false
    by true e h rest = subst (λ (n : ℕ). nat_eq x n ≡ false) (sym (equal q y e)) a.0
    by false e h rest = rest h

module _ (list : List ℕ) (i : ℕ) (within : i < length list) where
  here : drop i list ≡ get_or list i 0 ∷ drop (i + 1) list
  here = drop_more list i 0 within

  has_here : has (drop i list) (get_or list i 0) ≡ true
  has_here = ap (λ l. has l (get_or list i 0)) here ∙ ap (λ b. b || has (drop (i + 1) list) (get_or list i 0)) (itself (get_or list i 0))

  has_later : (q : ℕ) → has (drop (i + 1) list) q ≡ true → has (drop i list) q ≡ true
  has_later q h = ap (λ l. has l q) here ∙ ap (λ b. nat_eq q (get_or list i 0) || b) h ∙ or_true (nat_eq q (get_or list i 0))
    where
      or_true : (b : Bool) → (b || true) ≡ true
      or_true true = refl
      or_true false = refl

  module _ (old all : List (ℕ × List AckBatch)) (left : (q : ℕ) → has (drop i list) q ≡ true → acks_for old q ≡ acks_for all q) where
    -- those for the partition that is next are there
    pub still_there : acks_for old (get_or list i 0) ≡ acks_for all (get_or list i 0)
    still_there = left (get_or list i 0) has_here

    -- those for the later ones stay where it takes its own
    pub left_later : IsDistinct nat_eq list → (new : List (ℕ × List AckBatch)) →
        ((q : ℕ) → nat_eq (get_or list i 0) q ≡ false → acks_for new q ≡ acks_for old q) →
        (q : ℕ) → has (drop (i + 1) list) q ≡ true → acks_for new q ≡ acks_for all q
    left_later distinct new others q h =
        let rest = subst (IsDistinct nat_eq) here (distinct_left list i distinct) in
        let apart = all_apart (get_or list i 0) (drop (i + 1) list) q (IsDistinct-head nat_eq (get_or list i 0) (drop (i + 1) list) rest) h in
        others q apart ∙ left q (has_later q h)
