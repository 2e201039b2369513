-- The lesser of two steps.
use Rattle.std.proofs.Common.{◌≡◌, ◌∙◌, ◌⊎◌, sym, inl, inr, arith}
use Rattle.std.proofs.lemmas.Bool.{cases_order}
use Rattle.tape_merge.specs.declared.place.Place.{Place}
use Rattle.tape_merge.specs.Matching.{IsBefore}

before_trans : (a b c : Place) → IsBefore a b → IsBefore b c → IsBefore a c
before_trans a b c (inl h) (inl k) = inl (omega (arith, h, k))
before_trans a b c (inl h) (inr k) = inl (omega (arith, h, k.0))
before_trans a b c (inr h) (inl k) = inl (omega (arith, h.0, k))
before_trans a b c (inr h) (inr k) = inr (h.0 ∙ k.0, omega (arith, h.1, k.1))

-- of two steps the one is before the other, or they are one
before_or : (a b : Place) → IsBefore a b ⊎ (((a.link ≡ b.link) × (a.step ≡ b.step)) ⊎ IsBefore b a)
before_or a b = elim (cases_order a.link b.link) [
  | inl same ↦ elim (cases_order a.step b.step) [
    | inl one ↦ inr (inl (same, one))
    | inr other ↦ elim other [
      | inl lt ↦ inl (inr (same, lt))
      | inr gt ↦ inr (inr (inr (sym same, gt)))
    ]
  ]
  | inr other ↦ elim other [
    | inl lt ↦ inl (inl lt)
    | inr gt ↦ inr (inr (inl gt))
  ]
]

same_before : (a b p : Place) → (a.link ≡ b.link) × (a.step ≡ b.step) → IsBefore p a → IsBefore p b
same_before a b p same (inl h) = inl (omega (arith, h, same.0))
same_before a b p same (inr h) = inr (h.0 ∙ same.0, omega (arith, h.1, same.1))

-- place is the new step, least the one before it
pub lesser_left : (place least other : Place) → IsBefore least place → IsBefore other least → IsBefore other least × IsBefore other place
lesser_left place least other h k = (k, before_trans other least place k h)

pub lesser_right : (place least other : Place) → (IsBefore least place → ⊥) → IsBefore other place → IsBefore other least × IsBefore other place
lesser_right place least other fails k = elim (before_or least place) [
  | inl before ↦ absurd (fails before)
  | inr more ↦ elim more [
    | inl same ↦ (same_before place least other (sym same.0, sym same.1) k, k)
    | inr behind ↦ (before_trans other place least k behind, k)
  ]
]
