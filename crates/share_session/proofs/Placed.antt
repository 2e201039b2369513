-- On the place of a session.
use Rattle.std.proofs.Common.{◌≡◌, ◌+◌, ◌≤◌, ℕ, suc, Bool, true, false, cond, not, List, [], ◌∷◌, Option, Some, None, nat_lt, length, set, refl, sym, ap, ◌∙◌, arith, if◌then◌else◌}
use Rattle.std.specs.List.{position, position_or_len}
use Rattle.std.specs.Option.{option_map_or}
use Rattle.std.proofs.lemmas.List.{set_past}
use Rattle.std.proofs.lemmas.Bool.Decides.{nat_tests}
use Rattle.share_session.specs.SessionParts.{SessionParts}
use Rattle.share_session.specs.Sessions.{is_of, with_session}

module _ (new : SessionParts) where
  abbrev pub own : SessionParts → Bool
  own s = is_of new.group new.member s

  in_first : (ss : List SessionParts) → with_session new ss ≡ set ss (position_or_len own ss) new
  in_first [] = refl
  in_first (s ∷ ss) = by (own s) (in_first ss)
    where
      by : (b : Bool) → with_session new ss ≡ set ss (position_or_len own ss) new →
          (if b then new ∷ ss else s ∷ with_session new ss) ≡ set (s ∷ ss) (cond (not b) (1 + position_or_len own ss) 0) new
      by true h = refl
      by false h =
          let next : suc (position_or_len own ss) ≡ 1 + position_or_len own ss = omega arith in
          ap (λ l. s ∷ l) h ∙ ap (λ k. set (s ∷ ss) k new) next

  past : (m n : ℕ) → nat_lt m n ≡ false → n ≤ m
  past m n h = grind (arith, nat_tests)

  -- the session stands at the first place of its member, where there is one
  pub placed : (ss : List SessionParts) (o : Option ℕ) → o ≡ position own ss → with_session new ss ≡ option_map_or (λ i. set ss i new) o ss
  placed ss o h = by (nat_lt n (length ss)) refl ∙ ap (λ p. option_map_or (λ i. set ss i new) p ss) (sym h)
    where
      n : ℕ
      n = position_or_len own ss

      by : (b : Bool) → nat_lt n (length ss) ≡ b → with_session new ss ≡ option_map_or (λ i. set ss i new) (cond b (Some n) None) ss
      by true e = in_first ss
      by false e = in_first ss ∙ set_past ss n new (past n (length ss) e)
