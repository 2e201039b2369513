-- What is noted of frames that are handed over one by one.
use Rattle.std.proofs.Common.{◌≡◌, refl, sym, ap, ◌∙◌, subst, ℕ, List, [], ◌∷◌, ◌++◌}
use Rattle.checkpoint_journal.specs.Standings.{IsKnown}
use Rattle.checkpoint_journal.specs.declared.stands.Known.{Known}
use Rattle.checkpoint_journal.specs.declared.stands.Known.TheVariants.{Nothing}
use Rattle.checkpoint_journal.proofs.Knowing.{known_first}
use Rattle.coord_checkpoint.specs.Openings.{frames_in}

abbrev Handed : Type 0
Handed = List (ℕ × List ℕ)

in_more : (xs : Handed) (place : ℕ) (x : List ℕ) → frames_in (xs ++ (place, x) ∷ []) ≡ frames_in xs ++ x ∷ []
in_more [] place x = refl
in_more (y ∷ xs) place x = ap (λ (l : List (List ℕ)). y.1 ∷ l) (in_more xs place x)

-- no frame
pub noted_new : (handed : Handed) → handed ≡ [] → IsKnown (frames_in handed) Nothing
noted_new handed none = subst (λ (l : Handed). IsKnown (frames_in l) Nothing) (sym none) known_first

-- a frame that wasn't taken
pub noted_same : (old new : Handed) (known : Known) → IsKnown (frames_in old) known → new ≡ old → IsKnown (frames_in new) known
noted_same old new known is same = subst (λ (l : Handed). IsKnown (frames_in l) known) (sym same) is

-- one frame more
pub noted_more : (old new : Handed) (place : ℕ) (x : List ℕ) (was known : Known) → IsKnown (frames_in old) was
    → ((frames : List (List ℕ)) → IsKnown frames was → IsKnown (frames ++ x ∷ []) known) → new ≡ old ++ (place, x) ∷ [] → IsKnown (frames_in new) known
noted_more old new place x was known is then pushed =
    subst (λ (l : List (List ℕ)). IsKnown l known) (sym (ap frames_in pushed ∙ in_more old place x)) (then (frames_in old) is)
