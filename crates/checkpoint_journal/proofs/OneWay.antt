-- Two contents are read in one way.
use Rattle.std.proofs.Common.{◌≡◌, ◌⊎◌, inl, inr, refl, sym, ap, ◌∙◌, ℕ, Bool, true, false, List, [], Option, Some, None}
use Rattle.gate_journal.specs.Frames.{StandsFor, IsDamaged}
use Rattle.checkpoint_journal.specs.Generations.{IsListed, IsUnlisted, IsUnsealed, live_of}

list_in : Option (List (List ℕ)) → List (List ℕ)
list_in (Some frames) = frames
list_in None = []

none_is : (frames : List (List ℕ)) → ◌≡◌ {A = Option (List (List ℕ))} (Some frames) None → ⊥
none_is frames e = absurd cc

module _ (once : (c : List ℕ) (fs gs : List (List ℕ)) → StandsFor c fs → StandsFor c gs → fs ≡ gs)
    (apart : (c : List ℕ) (fs : List (List ℕ)) (place : ℕ) → StandsFor c fs → IsDamaged c place → ⊥)
    (one_place : (c : List ℕ) (p q : ℕ) → IsDamaged c p → IsDamaged c q → p ≡ q) where
  same_live : (a b : List ℕ) (ones twos others more : List (List ℕ)) → StandsFor a ones → StandsFor b twos → StandsFor a others → StandsFor b more
      → live_of ones twos ≡ live_of others more
  same_live a b ones twos others more p q r s =
      ap (λ (l : List (List ℕ)). live_of l twos) (once a ones others p r) ∙ ap (live_of others) (once b twos more q s)

  pub one_list : (a b : List ℕ) (fs gs : List (List ℕ)) → IsListed a b fs → IsListed a b gs → fs ≡ gs
  unfolding list_in
  one_list a b fs gs p q =
      let same : Some fs ≡ Some gs = sym p.live ∙ same_live a b p.ones p.twos q.ones q.twos p.first_is p.second_is q.first_is q.second_is ∙ q.live in
      ap list_in same

  listed_sealed : (a b : List ℕ) (fs : List (List ℕ)) → IsListed a b fs → IsUnsealed a b → ⊥
  listed_sealed a b fs p q =
      none_is fs (sym p.live ∙ same_live a b p.ones p.twos q.ones q.twos p.first_is p.second_is q.first_is q.second_is ∙ q.none)

  pub not_listed : (a b : List ℕ) (fs : List (List ℕ)) (second : Bool) (place : ℕ) → IsListed a b fs → IsUnlisted a b second place → ⊥
  not_listed a b fs true place p q = apart b p.twos place p.second_is q.1
  not_listed a b fs false place p (inl q) = apart a p.ones place p.first_is q
  not_listed a b fs false place p (inr q) = listed_sealed a b fs p q.1

  pub one_fault : (a b : List ℕ) (s t : Bool) (p q : ℕ) → IsUnlisted a b s p → IsUnlisted a b t q → (s ≡ t) × (p ≡ q)
  one_fault a b true true p q x y = (refl, one_place b p q x.1 y.1)
  one_fault a b true false p q x (inl y) = absurd (apart a x.0.0 q x.0.1 y)
  one_fault a b true false p q x (inr y) = absurd (apart b y.1.twos p y.1.second_is x.1)
  one_fault a b false true p q (inl x) y = absurd (apart a y.0.0 p y.0.1 x)
  one_fault a b false true p q (inr x) y = absurd (apart b x.1.twos q x.1.second_is y.1)
  one_fault a b false false p q (inl x) (inl y) = (refl, one_place a p q x y)
  one_fault a b false false p q (inl x) (inr y) = absurd (apart a y.1.ones p y.1.first_is x)
  one_fault a b false false p q (inr x) (inl y) = absurd (apart a x.1.ones q x.1.first_is y)
  one_fault a b false false p q (inr x) (inr y) = (refl, x.0 ∙ sym y.0)

by_live : (a b : List ℕ) (ones twos : List (List ℕ)) → StandsFor a ones → StandsFor b twos → (o : Option (List (List ℕ))) → live_of ones twos ≡ o
    → ((frames : List (List ℕ)) × IsListed a b frames) ⊎ ((second : Bool) × (place : ℕ) × IsUnlisted a b second place)
by_live a b ones twos p q (Some frames) is = inl (frames, record { ones = ones; twos = twos; first_is = p; second_is = q; live = is })
by_live a b ones twos p q None is = inr (false, 0, inr (refl, record { ones = ones; twos = twos; first_is = p; second_is = q; none = is }))

pub one_or_other : ((c : List ℕ) → ((frames : List (List ℕ)) × StandsFor c frames) ⊎ ((place : ℕ) × IsDamaged c place))
    → (a b : List ℕ) → ((frames : List (List ℕ)) × IsListed a b frames) ⊎ ((second : Bool) × (place : ℕ) × IsUnlisted a b second place)
one_or_other text a b = elim (text a) [
  | inl p ↦ elim (text b) [
    | inl q ↦ by_live a b p.0 q.0 p.1 q.1 (live_of p.0 q.0) refl
    | inr q ↦ inr (true, q.0, ((p.0, p.1), q.1))
  ]
  | inr p ↦ inr (false, p.0, inl p.1)
]
