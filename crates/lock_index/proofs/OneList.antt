-- What is held has one canonical list of runs.
use Rattle.std.proofs.Common.{◌≡◌, ℕ, ◌+◌, ◌<◌, List, [], ◌∷◌, Option, Some, None, refl, ap, ◌∙◌, sym, arith, inl, inr}
use Rattle.std.proofs.lemmas.Bool.{cases_lt}
use Rattle.share_model.specs.Held.{Held, hold_at}
use Rattle.lock_index.proofs.Looks.{look_here, look_beyond, look_none, look_first}
use Rattle.lock_index.specs.Runs.{Follows, IsCanonical, IsRunList, held_of}
use Rattle.share_model.specs.declared.hold.Hold.{Hold}
use Rattle.lock_index.specs.declared.run.HoldRun.{HoldRun}

absent : (hold : Hold) (o : Option Hold) → o ≡ None → o ≡ Some hold → ⊥
absent hold o none some = cc

-- behind a run its hold doesn't go on
other : (run : HoldRun) (runs : List HoldRun) → Follows run runs → IsCanonical runs → hold_at (held_of runs) (run.last + 1) ≡ Some run.hold → ⊥
other run [] follows canonical is = absent run.hold None refl is
other run (next ∷ runs) follows canonical is =
    elim (cases_lt (run.last + 1) next.first) [
      | inl below ↦ absent run.hold _ (look_first next runs (run.last + 1) canonical below) is
      | inr from ↦
          let touches : next.first ≡ run.last + 1 = omega (arith, follows.0) in
          let same : Some next.hold ≡ Some run.hold = sym (look_here next runs (run.last + 1) from (omega (arith, canonical.0))) ∙ is in
          follows.1 touches cc
    ]

-- one that begins earlier holds where the other has none
begins : (x y : HoldRun) (xs ys : List HoldRun) → IsCanonical (x ∷ xs) → IsCanonical (y ∷ ys) → ((o : ℕ) → hold_at (held_of (x ∷ xs)) o ≡ hold_at (held_of (y ∷ ys)) o) → x.first < y.first → ⊥
begins x y xs ys cx cy same before =
    absent x.hold _ (look_first y ys x.first cy before) (sym (same x.first) ∙ look_here x xs x.first (omega arith) cx.0)

-- one that ends earlier differs behind its end
ends : (x y : HoldRun) (xs ys : List HoldRun) → IsCanonical (x ∷ xs) → IsCanonical (y ∷ ys) → ((o : ℕ) → hold_at (held_of (x ∷ xs)) o ≡ hold_at (held_of (y ∷ ys)) o)
    → x.first ≡ y.first → x.hold ≡ y.hold → x.last < y.last → ⊥
ends x y xs ys cx cy same first row before =
    other x xs cx.1 cx.2 (
    sym (look_beyond x xs (x.last + 1) cx.0 (omega arith)) ∙ same (x.last + 1)
    ∙ look_here y ys (x.last + 1) (omega (arith, cx.0)) (omega arith) ∙ ap (λ (r : Hold). Some r) (sym row))

rest : (x y : HoldRun) (xs ys : List HoldRun) → IsCanonical (x ∷ xs) → IsCanonical (y ∷ ys) → ((o : ℕ) → hold_at (held_of (x ∷ xs)) o ≡ hold_at (held_of (y ∷ ys)) o)
    → x.last ≡ y.last → (o : ℕ) → hold_at (held_of xs) o ≡ hold_at (held_of ys) o
rest x y xs ys cx cy same last o =
    elim (cases_lt x.last o) [
      | inl beyond ↦ sym (look_beyond x xs o cx.0 beyond) ∙ same o ∙ look_beyond y ys o cy.0 (omega arith)
      | inr upto ↦ look_none x xs o cx.1 cx.2 upto ∙ sym (look_none y ys o cy.1 cy.2 (omega arith))
    ]

alike : (x y : HoldRun) → x.first ≡ y.first → x.last ≡ y.last → x.hold ≡ y.hold → x ≡ y
alike x y first last row = λ i. record { first = first i; last = last i; hold = row i }

no_first : (x : HoldRun) (xs : List HoldRun) → IsCanonical (x ∷ xs) → ((o : ℕ) → None ≡ hold_at (held_of (x ∷ xs)) o) → ⊥
no_first x xs canonical same = absent x.hold None refl (same x.first ∙ look_here x xs x.first (omega arith) canonical.0)

equal_from : (m n : ℕ) → (m < n → ⊥) → (n < m → ⊥) → m ≡ n
equal_from m n less more = omega arith

-- two canonical lists that give the same look-up are one
pub one_list : (xs ys : List HoldRun) → IsCanonical xs → IsCanonical ys → ((o : ℕ) → hold_at (held_of xs) o ≡ hold_at (held_of ys) o) → xs ≡ ys
one_list [] [] cx cy same = refl
one_list [] (y ∷ ys) cx cy same = absurd (no_first y ys cy same)
one_list (x ∷ xs) [] cx cy same = absurd (no_first x xs cx (λ o. sym (same o)))
one_list (x ∷ xs) (y ∷ ys) cx cy same =
    let first : x.first ≡ y.first = equal_from x.first y.first (begins x y xs ys cx cy same) (begins y x ys xs cy cx (λ o. sym (same o))) in
    let found : Some x.hold ≡ Some y.hold =
    sym (look_here x xs x.first (omega arith) cx.0) ∙ same x.first ∙ look_here y ys x.first (omega arith) (omega (arith, cy.0)) in
    let row : x.hold ≡ y.hold = cc in
    let last : x.last ≡ y.last = equal_from x.last y.last (ends x y xs ys cx cy same first row) (ends y x ys xs cy cx (λ o. sym (same o)) (sym first) (sym row)) in
    λ i. alike x y first last row i ∷ one_list xs ys cx.2 cy.2 (rest x y xs ys cx cy same last) i

pub one_run_list : (held : Held) (xs ys : List HoldRun) → IsRunList held xs → IsRunList held ys → xs ≡ ys
one_run_list held xs ys x y =
    one_list xs ys x.canonical y.canonical (λ o. ap (λ (h : Held). hold_at h o) (x.same ∙ sym y.same))
