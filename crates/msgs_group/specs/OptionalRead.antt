-- Proof that a structure or null is read just where bytes stand for it. There is nothing to believe here.
use Rattle.std.proofs.Common.{◌≡◌, ℕ, ℤ, pos, negsuc, ◌+◌, ◌<◌, true, cond, List, ◌++◌, length, Option, Some, None}
use Rattle.std.proofs.Common.{Result, Ok, Err, refl, sym, ap, subst, ◌∙◌, append_assoc, arith, inl, inr, length-append}
use Rattle.std.specs.Int.{w8}
use Rattle.std.specs.Ordering.{int_eq}
use Rattle.std.proofs.lemmas.Bool.Decides.{Decides-int_eq}
use Rattle.flex_fields.specs.declared.fault.WireFault.{WireFault}
use Rattle.flex_fields.specs.declared.fault.WireFault.TheVariants.{BadLength}
use Rattle.flex_fields.specs.Reading.{At, int_at, as_at}
use Rattle.flex_fields.specs.Grammar.{IsInt, IsBytes}
use Rattle.flex_fields.specs.Laws.{Takes, IsReader}
use Rattle.flex_fields.specs.Sound.Fields.{bind_ok, chosen, ok_is, int8_reads, IsBytes-rest}
use Rattle.flex_fields.specs.Sound.Readers.{Takes-then}
use Rattle.msgs_group.specs.Optional.{IsOptional, optional_at}

abbrev at_place : ℕ → List ℕ → At
at_place place left = record { place = place; left = left }

same_int : (x y : ℤ) → int_eq x y ≡ true → x ≡ y
same_int x y e = (Decides-int_eq x y).0 e

abbrev beyond : {A : Type 0} → At → Result A WireFault
beyond at = Err (BadLength at.place)

module _ {A : Type 0} (P : List ℕ → A → Type 0) (r : At → Result (A × At) WireFault) (p : IsReader P r) where
  optional_takes : (at : At) (x : Option A) (after : At) → IsBytes at.left → optional_at r at ≡ Ok (x, after) → Takes at after (λ front. IsOptional P front x)
  unfolding optional_at
  optional_takes at x after fits e =
      let m = bind_ok (int_at w8 at)
      (λ n. cond (int_eq n.0 (negsuc 0)) (Ok (None, n.1)) (cond (int_eq n.0 (pos 1)) (as_at Some r n.1) (beyond at))) (x, after) e in
      let t = int8_reads.takes at m.0.0 m.0.1 fits m.1 in
      elim (chosen (int_eq m.0.0 (negsuc 0)) (Ok (None, m.0.1)) (cond (int_eq m.0.0 (pos 1)) (as_at Some r m.0.1) (beyond at)) (Ok (x, after)) m.2) [
        | inl null ↦
            let is : m.0.0 ≡ negsuc 0 = same_int _ _ null.0 in
            subst (λ (y : Option A × At). Takes at y.1 (λ front. IsOptional P front y.0)) (ok_is (None, m.0.1) (x, after) null.1)
            (record { front = t.front; parts = t.parts; moved = t.moved; spelled = subst (λ (z : ℤ). IsInt w8 t.front z) is t.spelled })
        | inr other ↦
            elim (chosen (int_eq m.0.0 (pos 1)) (as_at Some r m.0.1) (beyond at) (Ok (x, after)) other.1) [
              | inl value ↦
                  let is : m.0.0 ≡ pos 1 = same_int _ _ value.0 in
                  let q = bind_ok (r m.0.1) (λ a. Ok (Some a.0, a.1)) (x, after) value.1 in
                  let u = p.takes m.0.1 q.0.0 q.0.1 (IsBytes-rest at m.0.1 _ fits t) q.1 in
                  subst (λ (y : Option A × At). Takes at y.1 (λ front. IsOptional P front y.0)) (ok_is (Some q.0.0, q.0.1) (x, after) q.2)
                  (Takes-then {R = λ front. IsOptional P front (Some q.0.0)} at m.0.1 q.0.1 t u
                  (λ f g s v. (f, g, subst (λ (z : ℤ). IsInt w8 f z) is s, v, refl)))
              | inr bad ↦ absurd cc
            ]
      ]

  optional_gives : (front tail : List ℕ) (place : ℕ) (x : Option A) → IsOptional P front x
      → optional_at r (at_place place (front ++ tail)) ≡ Ok (x, at_place (place + length front) tail)
  unfolding optional_at
  optional_gives front tail place None c = rw (int8_reads.gives front tail place (negsuc 0) c) refl
  optional_gives front tail place (Some x) c =
      let f = c.0 in
      let g = c.1 in
      let first = int8_reads.gives f (g ++ tail) place (pos 1) c.2 in
      let second = p.gives g tail (place + length f) x c.3 in
      let len : place + length f + length g ≡ place + length (f ++ g) = omega (arith, length-append f g) in
      subst (λ (l : List ℕ). optional_at r (at_place place (l ++ tail)) ≡ Ok (Some x, at_place (place + length l) tail)) (sym c.4)
      (ap (λ (l : List ℕ). optional_at r (at_place place l)) (append_assoc f g tail) ∙ rw (first, second) (λ i. Ok (Some x, at_place (len i) tail)))

  optional_some : (front : List ℕ) (x : Option A) → IsOptional P front x → 0 < length front
  optional_some front None c = int8_reads.some front (negsuc 0) c
  optional_some front (Some x) c = omega (arith, ap length c.4, length-append c.0 c.1, int8_reads.some c.0 (pos 1) c.2)

  pub optional_reads : IsReader (IsOptional P) (optional_at r)
  optional_reads = record { takes = optional_takes; gives = optional_gives; some = optional_some }
