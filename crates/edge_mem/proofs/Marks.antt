-- The last step is marked as synced.
use Rattle.std.proofs.Common.{◌≡◌, ◌⊎◌, inl, inr, ⊎_elim, refl, sym, ap, ◌∙◌, ℕ, zero, suc}
use Rattle.std.proofs.Common.{◌+◌, Bool, true, false, List, [], ◌∷◌, ◌++◌, length, drop, get_or, arith}
use Rattle.std.proofs.Math.ListN.{set}
use Rattle.edge_mem.specs.Events.{Event, Kept}
use Rattle.edge_mem.specs.Steps.{event_of, with_sync, events, changes, Marked}
use Rattle.edge_mem.specs.declared.change.Step.{Step}

pub with_sync_push : (b : Bool) (es fs : List Event) → with_sync b (es ++ fs) ≡ with_sync b es ++ fs
with_sync_push true es fs = refl
with_sync_push false es fs = refl

pub events_push : (log : List Step) (x : Step) → events (log ++ x ∷ []) ≡ events log ++ events (x ∷ [])
events_push [] x = refl
events_push (s ∷ log) x = ap (λ (l : List Event). event_of s.change ∷ l) (ap (with_sync s.synced) (events_push log x)
    ∙ with_sync_push s.synced (events log) (events (x ∷ [])))

pub changes_push : (log : List Step) (x : Step) → changes (log ++ x ∷ []) ≡ changes log ++ event_of x.change ∷ []
changes_push [] x = refl
changes_push (s ∷ log) x = ap (λ (l : List Event). event_of s.change ∷ l) (changes_push log x)

abbrev Noted : List Step → List Step → Type 0
Noted old new = (events new ≡ events old ++ Kept ∷ []) ⊎ ((events new ≡ events old) × ((front : List Event) × (events old ≡ front ++ Kept ∷ [])))

one : (x y : Step) → y.change ≡ x.change → y.synced ≡ true → (b : Bool) → x.synced ≡ b → Noted (x ∷ []) (y ∷ [])
one x y same on true was = inr (
  ap (λ (c : _). event_of c ∷ with_sync y.synced []) same
      ∙ ap (λ (b : Bool). event_of x.change ∷ with_sync b []) (on ∙ sym was),
  (event_of x.change ∷ [], ap (λ (b : Bool). event_of x.change ∷ with_sync b []) was),
)
one x y same on false was = inl (ap (λ (c : _). event_of c ∷ with_sync y.synced []) same
    ∙ ap (λ (b : Bool). event_of x.change ∷ with_sync b []) on
    ∙ ap (λ (b : Bool). (event_of x.change ∷ with_sync b []) ++ Kept ∷ []) (sym was))

more : (x : Step) (old new : List Step) → Noted old new → Noted (x ∷ old) (x ∷ new)
more x old new (inl p) = inl (ap (λ (l : List Event). event_of x.change ∷ with_sync x.synced l) p
    ∙ ap (λ (l : List Event). event_of x.change ∷ l) (with_sync_push x.synced (events old) (Kept ∷ [])))
more x old new (inr p) = inr (
  ap (λ (l : List Event). event_of x.change ∷ with_sync x.synced l) p.0,
  (
    event_of x.change ∷ with_sync x.synced p.1.0,
    ap (λ (l : List Event). event_of x.change ∷ with_sync x.synced l) p.1.1
        ∙ ap (λ (l : List Event). event_of x.change ∷ l) (with_sync_push x.synced p.1.0 (Kept ∷ [])),
  ),
)

noted : (log : List Step) (n : ℕ) (y d : Step) → n + 1 ≡ length log → y.change ≡ (get_or log n d).change → y.synced ≡ true
    → Noted log (set log n y)
noted [] n y d is same on = absurd (omega (arith, is))
noted (x ∷ log) zero y d is same on = last log (omega (arith, is))
  where
    last : (log : List Step) → length log ≡ 0 → Noted (x ∷ log) (y ∷ log)
    last [] none = one x y same on x.synced refl
    last (z ∷ log) none = absurd (omega (arith, none))
noted (x ∷ log) (suc n) y d is same on = more x log (set log n y) (noted log n y d (omega (arith, is)) same on)

same_changes : (log : List Step) (n : ℕ) (y d : Step) → y.change ≡ (get_or log n d).change → (m : ℕ)
    → changes (drop m (set log n y)) ≡ changes (drop m log)
same_changes [] n y d same m = refl
same_changes (x ∷ log) zero y d same zero = ap (λ (c : _). event_of c ∷ changes log) same
same_changes (x ∷ log) zero y d same (suc m) = refl
same_changes (x ∷ log) (suc n) y d same zero = ap (λ (l : List Event). event_of x.change ∷ l) (same_changes log n y d same zero)
same_changes (x ∷ log) (suc n) y d same (suc m) = same_changes log n y d same m

same_length : (log : List Step) (n : ℕ) (y : Step) → length (set log n y) ≡ length log
same_length [] n y = refl
same_length (x ∷ log) zero y = refl
same_length (x ∷ log) (suc n) y = omega (arith, same_length log n y)

pub marked : (log : List Step) (n : ℕ) (y d : Step) → n + 1 ≡ length log → y.change ≡ (get_or log n d).change → y.synced ≡ true
    → Marked log (set log n y)
marked log n y d is same on = record {
  same = same_changes log n y d same;
  len = same_length log n y;
  noted = ⊎_elim (λ p. inl p) (λ p. inr (p.0, inr p.1)) (noted log n y d is same on);
}

pub unmarked : (log : List Step) → length log ≡ 0 → Marked log log
unmarked [] none = record { same = λ n. refl; len = refl; noted = inr (refl, inl refl) }
unmarked (x ∷ log) none = absurd (omega (arith, none))
