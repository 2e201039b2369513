-- Slots that are taken out one after the other.
use Rattle.std.proofs.Common.{◌≡◌, ◌∙◌, ◌+◌, ◌<◌, ap, refl, zero, suc, ℕ, List, [], ◌∷◌, Bool, false, get_or, set, arith}
use Rattle.std.proofs.lemmas.List.{get_or-set_other}
use Rattle.std.specs.Slots.Ownership.{Filled}
use mathlib.Core.Logic.{dite}
use native.Mathlib.Decide.{ℕ_discrete}

unset : (fs : List Bool) (n : ℕ) → get_or (set fs n false) n false ≡ false
unset [] n = refl
unset (f ∷ fs) zero = refl
unset (f ∷ fs) (suc n) = unset fs n

-- one more was taken: those behind it are filled, and it and those before it are not
pub taken : (fs gs : List Bool) (n high : ℕ) → gs ≡ set fs n false → Filled fs n high → ((k : ℕ) → k < n → get_or fs k false ≡ false)
    → Filled gs (n + 1) high × ((k : ℕ) → k < n + 1 → get_or gs k false ≡ false)
taken fs gs n high is full none = (
  (λ k low up. ap (λ l. get_or l k false) is ∙ (get_or-set_other fs n k false false (λ e. absurd (omega arith)) ∙ full k (omega arith) up)),
  (λ k low. ap (λ l. get_or l k false) is ∙ dite (ℕ_discrete k n)
      (λ hit. ap (λ j. get_or (set fs n false) j false) hit ∙ unset fs n)
      (λ other. get_or-set_other fs n k false false other ∙ none k (omega arith))),
)
