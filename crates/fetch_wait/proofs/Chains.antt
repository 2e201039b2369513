-- Calls in a row, and polls in a row.
use Rattle.std.proofs.Common.{◌∷◌, ◌++◌, ◌∙◌, append_assoc, [], List, Option, Some, None, ℕ, refl, subst, ap}
use Rattle.futures.specs.declared.task.Poll.TheVariants.{Pending}
use Rattle.fetch_wait.specs.declared.watch.WatchCall.{WatchCall}
use Rattle.fetch_wait.specs.Calls.{AreCalls, Calls, TellsMore}
use Rattle.fetch_wait.specs.Polls.{ArePending, Polls}

pub tells_join : {A : Type 0} (x y z : Option (List A)) (xs ys : List A) → TellsMore x y xs → TellsMore y z ys → TellsMore x z (xs ++ ys)
tells_join x y None xs ys h k = tt
tells_join x None (Some c) xs ys h k = absurd k
tells_join None (Some b) (Some c) xs ys h k = absurd h
tells_join (Some a) (Some b) (Some c) xs ys h k = k ∙ (ap (λ l. l ++ ys) h ∙ append_assoc a xs ys)

module _ {W C : Type 0} (acts : W → C → W → Type 0) (told : W → Option (List C)) where
  are_join : (xs ys : List C) (a b c : W) → AreCalls acts xs a b → AreCalls acts ys b c → AreCalls acts (xs ++ ys) a c
  are_join [] ys a b c h k = subst (λ w. AreCalls acts ys w c) h k
  are_join (x ∷ xs) ys a b c h k = (h.0, h.1, are_join xs ys h.0 b c h.2 k)

  pub calls_join : (xs ys : List C) (a b c : W) → Calls acts told xs a b → Calls acts told ys b c → Calls acts told (xs ++ ys) a c
  calls_join xs ys a b c h k = record {
    acts_so = are_join xs ys a b c h.acts_so k.acts_so;
    told_so = tells_join (told a) (told b) (told c) xs ys h.told_so k.told_so;
  }

  pub calls_snoc : (xs : List C) (x : C) (a b c : W) → Calls acts told xs a b → acts b x c → TellsMore (told b) (told c) (x ∷ []) → Calls acts told (xs ++ x ∷ []) a c
  calls_snoc xs x a b c h done tells = calls_join xs (x ∷ []) a b c h (record { acts_so = (c, done, refl); told_so = tells })

module _ {W : Type 0} (acts : W → WatchCall → W → Type 0) (told : W → Option (List WatchCall)) (places deadline : ℕ) where
  pub polls_snoc : (mids : List W) (a b c : W) → ArePending acts told places deadline mids a b → Polls acts told places deadline b Pending c
      → ArePending acts told places deadline (mids ++ c ∷ []) a c
  polls_snoc [] a b c h p = (subst (λ w. Polls acts told places deadline w Pending c) h p, refl)
  polls_snoc (m ∷ mids) a b c h p = (h.0, polls_snoc mids m b c h.1 p)
