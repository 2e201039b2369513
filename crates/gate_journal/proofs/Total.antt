-- Each content is journal text, or is damaged at a place.
use Rattle.std.proofs.Common.{◌≡◌, ◌≢◌, ◌⊎◌, inl, inr, refl, sym, ap, ◌∙◌, subst, ℕ, ◌<◌, ◌≤◌, Bool, true, false}
use Rattle.std.proofs.Common.{◌+◌, List, [], ◌∷◌, ◌++◌, length, take, drop, arith, rules}
use Rattle.std.proofs.Common.{append_assoc, length-append, length-take, length-drop, take-append-drop}
use Rattle.std.proofs.lemmas.Bool.{cases_Bool, cases_eq}
use Rattle.std.proofs.lemmas.List.{take_at, drop_at}
use Rattle.std.proofs.lemmas.Nat.{from_be_bytes-to_be_bytes_4}
use Rattle.std.proofs.lemmas.Slice.Eq.{bytes_eq-Decides}
use Rattle.std.specs.Int.{w32, to_be_bytes, from_be_bytes}
use Rattle.std.specs.List.{AllByRecursion}
use Rattle.std.specs.Str.{bytes_eq}
use Rattle.gate_journal.specs.Frames.{IsFrame, behind_gate, blocks, StandsFor, IsBroken, IsDamaged}

-- ---- the frame behind an open gate

abbrev HasFrame : List ℕ → Type 0
HasFrame behind = (frame : List ℕ) × (after : List ℕ) × IsFrame frame × (0 < length after) × (behind ≡ behind_gate frame ++ after)

module _ (behind : List ℕ) where
  abbrev number : ℕ
  number = from_be_bytes w32 (take 4 behind)

  abbrev rest : List ℕ
  rest = drop 4 behind

  -- what the number says, where a frame is there
  word_is : (h : HasFrame behind) → take 4 behind ≡ to_be_bytes w32 (length h.0)
  word_is h =
      ap (λ (l : List ℕ). take 4 l) (h.4 ∙ append_assoc (to_be_bytes w32 (length h.0)) h.0 h.1)
      ∙ take_at (to_be_bytes w32 (length h.0)) (h.0 ++ h.1) 4 refl

  number_is : (h : HasFrame behind) → number ≡ length h.0
  number_is h = ap (from_be_bytes w32) (word_is h) ∙ from_be_bytes-to_be_bytes_4 (length h.0) (omega (arith, h.2.1))

  rest_is : (h : HasFrame behind) → rest ≡ h.0 ++ h.1
  rest_is h =
      ap (λ (l : List ℕ). drop 4 l) (h.4 ∙ append_assoc (to_be_bytes w32 (length h.0)) h.0 h.1)
      ∙ drop_at (to_be_bytes w32 (length h.0)) (h.0 ++ h.1) 4 refl

  rest_length : (h : HasFrame behind) → length rest ≡ length h.0 + length h.1
  rest_length h = omega (arith, ap length (rest_is h), length-append h.0 h.1)

  there : to_be_bytes w32 number ≡ take 4 behind → 0 < number → number ≤ 33554432 → number < length rest → HasFrame behind
  there word some few more =
      let len : length (take number rest) ≡ number = omega (arith, length-take number rest, more) in (
        take number rest,
        drop number rest,
        (omega (arith, len, some), omega (arith, len, few)),
        omega (arith, length-drop number rest, more),
        sym (take-append-drop 4 behind)
            ∙ ap (λ (l : List ℕ). l ++ rest) (sym word ∙ ap (λ (n : ℕ). to_be_bytes w32 n) (sym len))
            ∙ ap (λ (l : List ℕ). to_be_bytes w32 (length (take number rest)) ++ l) (sym (take-append-drop number rest))
            ∙ sym (append_assoc (to_be_bytes w32 (length (take number rest))) (take number rest) (drop number rest)),
      )

  no_frame : (HasFrame behind → ⊥) → IsBroken behind
  no_frame none frame after one some is = none (frame, after, one, some, is)

  low : (n m : ℕ) → (n < m) ⊎ (m ≤ n)
  low n m = grind arith

  pub frame_or_broken : HasFrame behind ⊎ IsBroken behind
  frame_or_broken = elim (cases_Bool (bytes_eq (to_be_bytes w32 number) (take 4 behind))) [
    | inr other ↦ inr (no_frame (λ h. clash ((bytes_eq-Decides (to_be_bytes w32 number) (take 4 behind)).1 (ap
        (λ (n : ℕ). to_be_bytes w32 n) (number_is h) ∙ sym (word_is h))) other))
    | inl same ↦ elim (low 0 number) [
      | inr none ↦ inr (no_frame (λ h. omega (arith, none, number_is h, h.2.0)))
      | inl some ↦ elim (low 33554432 number) [
        | inl many ↦ inr (no_frame (λ h. omega (arith, many, number_is h, h.2.1)))
        | inr few ↦ elim (low number (length rest)) [
          | inr short ↦ inr (no_frame (λ h. omega (arith, short, number_is h, rest_length h, h.3)))
          | inl more ↦ inl (there ((bytes_eq-Decides (to_be_bytes w32 number) (take 4 behind)).0 same) some few more)
        ]
      ]
    ]
  ]
    where
      clash : {b : Bool} → b ≡ true → b ≡ false → ⊥
      clash holds fails = let e : true ≡ false = sym holds ∙ fails in absurd (search rules)

-- ---- a whole content

abbrev Shut : List ℕ → Type 0
Shut c = (frames : List (List ℕ)) × (gate : ℕ) × (tail : List ℕ) × (gate ≢ 1) × (c ≡ blocks frames ++ (gate ∷ tail))
    × AllByRecursion IsFrame frames

abbrev Cut : List ℕ → Type 0
Cut c = (frames : List (List ℕ)) × (behind : List ℕ) × (c ≡ blocks frames ++ (1 ∷ behind)) × AllByRecursion IsFrame frames × IsBroken behind

more : (frame after : List ℕ) → IsFrame frame → Shut after ⊎ Cut after
    → Shut (1 ∷ (behind_gate frame ++ after)) ⊎ Cut (1 ∷ (behind_gate frame ++ after))
more frame after one (inl s) = inl (
  frame ∷ s.0,
  s.1,
  s.2,
  s.3,
  ap (λ (l : List ℕ). 1 ∷ l) (ap (λ (l : List ℕ). behind_gate frame ++ l) s.4
      ∙ sym (append_assoc (behind_gate frame) (blocks s.0) (s.1 ∷ s.2))),
  (one, s.5),
)
more frame after one (inr s) = inr (
  frame ∷ s.0,
  s.1,
  ap (λ (l : List ℕ). 1 ∷ l) (ap (λ (l : List ℕ). behind_gate frame ++ l) s.2
      ∙ sym (append_assoc (behind_gate frame) (blocks s.0) (1 ∷ s.1))),
  (one, s.3),
  s.4,
)

-- `fuel` is at least as long as the content
read : (fuel c : List ℕ) → 0 < length c → length c ≤ length fuel → Shut c ⊎ Cut c
read fuel [] some le = absurd (omega (arith, some))
read [] (g ∷ behind) some le = absurd (omega (arith, le))
read (x ∷ fuel) (g ∷ behind) some le = elim (cases_eq g 1) [
  | inr shut ↦ inl ([], g, behind, shut, refl, tt)
  | inl is_open ↦ elim (frame_or_broken behind) [
    | inr broken ↦ inr ([], behind, ap (λ (k : ℕ). k ∷ behind) is_open, tt, broken)
    | inl h ↦
        let whole : g ∷ behind ≡ 1 ∷ (behind_gate h.0 ++ h.1) = ap (λ (k : ℕ). k ∷ behind) is_open ∙ ap (λ (l : List ℕ). 1 ∷ l) h.4 in
        subst (λ (l : List ℕ). Shut l ⊎ Cut l) (sym whole)
        (more h.0 h.1 h.2 (read fuel h.1 h.3 (omega (arith, le, ap length h.4, length-append (behind_gate h.0) h.1))))
  ]
]

pub text_or_damaged : (c : List ℕ) → ((frames : List (List ℕ)) × StandsFor c frames) ⊎ ((place : ℕ) × IsDamaged c place)
text_or_damaged c = elim (size (length c)) [
  | inl short ↦ inl ([], inl (short, refl))
  | inr long ↦ elim (read c c (omega (arith, long)) (omega arith)) [
    | inl s ↦ inl (s.0, inr (s.1, s.2, s.3, s.4, s.5))
    | inr s ↦ inr (length (blocks s.0), record { frames = s.0; behind = s.1; long = long; is = s.2; at = refl; fit = s.3; broken = s.4 })
  ]
]
  where
    size : (n : ℕ) → (n ≤ 1) ⊎ (1 < n)
    size n = grind arith
