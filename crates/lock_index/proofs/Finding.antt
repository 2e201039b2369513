-- What a look-up in holds by rising offset gives.
use Rattle.std.proofs.Common.{◌≡◌, ℕ, zero, suc, ◌+◌, ◌<◌, ◌≤◌, cond, [], ◌∷◌, length, get_or, Some, None, refl, ap, ◌∙◌, sym, subst, arith, inl, inr}
use Rattle.std.proofs.lemmas.Bool.{cases_lt}
use Rattle.std.specs.Ordering.{is_eq}
use Rattle.std.specs.declared.cmp.Ordering.{Ordering}
use Rattle.share_model.specs.Held.{Held, hold_at}
use Rattle.share_model.specs.declared.hold.Hold.{Hold}
use Rattle.lock_index.specs.Windows.{RisesFrom}
use Rattle.lock_index.proofs.Orders.{cmp_less, cmp_equal, cmp_greater}

-- each offset is at least the lower bound
pub from_low : (low : ℕ) (held : Held) → RisesFrom low held → (j : ℕ) (d : ℕ × Hold) → j < length held → low ≤ (get_or held j d).0
from_low low [] rises j d within = absurd (omega arith)
from_low low (e ∷ es) rises zero d within = rises.0
from_low low (e ∷ es) rises (suc j) d within = omega (arith, rises.0, from_low (e.0 + 1) es rises.1 j d (omega arith))

-- at the first hold's offset, below it and above it
pub here : (e : ℕ × Hold) (es : Held) → hold_at (e ∷ es) e.0 ≡ Some e.1
here e es = ap (λ (c : Ordering). cond (is_eq c) (Some e.1) (hold_at es e.0)) (cmp_equal e.0 e.0 refl)

pub below : (e : ℕ × Hold) (es : Held) (o : ℕ) → o < e.0 → hold_at (e ∷ es) o ≡ hold_at es o
below e es o h = ap (λ (c : Ordering). cond (is_eq c) (Some e.1) (hold_at es o)) (cmp_less o e.0 h)

pub above : (e : ℕ × Hold) (es : Held) (o : ℕ) → e.0 < o → hold_at (e ∷ es) o ≡ hold_at es o
above e es o h = ap (λ (c : Ordering). cond (is_eq c) (Some e.1) (hold_at es o)) (cmp_greater o e.0 h)

-- nothing is held below the first offset
pub none_below : (low : ℕ) (held : Held) (o : ℕ) → RisesFrom low held → o < low → hold_at held o ≡ None
none_below low [] o rises h = refl
none_below low (e ∷ es) o rises h = below e es o (omega (arith, rises.0)) ∙ none_below (e.0 + 1) es o rises.1 (omega (arith, rises.0))

-- the hold at a place is what a look-up gives
pub at_place : (low : ℕ) (held : Held) → RisesFrom low held → (i : ℕ) (d : ℕ × Hold) → i < length held → hold_at held (get_or held i d).0 ≡ Some (get_or held i d).1
at_place low [] rises i d within = absurd (omega arith)
at_place low (e ∷ es) rises zero d within = here e es
at_place low (e ∷ es) rises (suc i) d within =
    above e es (get_or es i d).0 (omega (arith, from_low (e.0 + 1) es rises.1 i d (omega arith))) ∙ at_place (e.0 + 1) es rises.1 i d (omega arith)

-- what holds of the hold at each place holds of what a look-up gives
pub of_each : (P : ℕ × Hold → Type 0) (held : Held) → ((i : ℕ) (d : ℕ × Hold) → i < length held → P (get_or held i d)) → (o : ℕ) (hold : Hold) → hold_at held o ≡ Some hold → P (o, hold)
of_each P [] each o hold is = absurd (cc)
of_each P (e ∷ es) each o hold is =
    elim (cases_lt o e.0) [
      | inl low ↦ of_each P es (λ i d within. each (suc i) d (omega arith)) o hold (sym (below e es o low) ∙ is)
      | inr from ↦ elim (cases_lt e.0 o) [
        | inl high ↦ of_each P es (λ i d within. each (suc i) d (omega arith)) o hold (sym (above e es o high) ∙ is)
        | inr upto ↦
            let same : e.0 ≡ o = omega arith in
            let value : Some e.1 ≡ Some hold = sym (here e es) ∙ ap (hold_at (e ∷ es)) same ∙ is in
            let found : e.1 ≡ hold = cc in
            subst P (λ i. (same i, found i)) (each 0 e (omega arith))
      ]
    ]
