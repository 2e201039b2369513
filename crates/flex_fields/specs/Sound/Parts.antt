-- Parts of a structure are read just where they stand; one that stands in some versions alone may have no byte.
use Rattle.std.proofs.Common.{◌≡◌, ℕ, ◌+◌, ◌<◌, Bool, true, false, ◌||◌, List, [], ◌++◌, length, Result, Ok, refl, sym, ap, subst, ◌∙◌, append_assoc}
use Rattle.std.proofs.Common.{arith, length-append}
use Rattle.flex_fields.specs.declared.fault.WireFault.{WireFault}
use Rattle.flex_fields.specs.Reading.{At, ◌>>=◌, as_at, then_at, tags_at}
use Rattle.flex_fields.specs.Grammar.{IsBytes, IsTags, Then}
use Rattle.flex_fields.specs.Laws.{Takes, IsReader}
use Rattle.flex_fields.specs.Sound.Fields.{bind_ok, ok_is, IsBytes-rest}
use Rattle.flex_fields.specs.Sound.Readers.{Takes-then, gives_then}
use Rattle.flex_fields.specs.Sound.Counted.{tags_take, tags_give, shape_reads}

abbrev at_place : ℕ → List ℕ → At
at_place place left = record { place = place; left = left }

abbrev done : {A : Type 0} → A → Result A WireFault
done x = Ok x

-- The reader reads just what stands for a value, whatever follows it.
pub record IsPart {A : Type 0} (P : List ℕ → A → Type 0) (read : At → Result (A × At) WireFault) : Type 0 where
  pub takes : (at : At) (x : A) (after : At) → IsBytes at.left → read at ≡ Ok (x, after) → Takes at after (λ front. P front x)
  pub gives : (front tail : List ℕ) (place : ℕ) (x : A) → P front x
      → read (record { place = place; left = front ++ tail }) ≡ Ok (x, record { place = place + length front; left = tail })

pub reader_part : {A : Type 0} {P : List ℕ → A → Type 0} {r : At → Result (A × At) WireFault} → IsReader P r → IsPart P r
reader_part p = record { takes = p.takes; gives = p.gives }

-- ---- where a field stands

-- nothing stands for the one value
abbrev pub IsWhere : {A : Type 0} → Bool → A → (List ℕ → A → Type 0) → List ℕ → A → Type 0
IsWhere true absent P bytes x = P bytes x
IsWhere false absent P bytes x = (bytes ≡ []) × (x ≡ absent)

abbrev pub where_at : {A : Type 0} → Bool → A → (At → Result (A × At) WireFault) → At → Result (A × At) WireFault
where_at true absent read at = read at
where_at false absent read at = Ok (absent, at)

nothing : (at : At) → Takes at at (λ front. front ≡ [])
nothing at = record { front = []; parts = refl; moved = omega arith; spelled = refl }

module _ {A : Type 0} (absent : A) (P : List ℕ → A → Type 0) (r : At → Result (A × At) WireFault) (p : IsReader P r) where
  where_takes : (there : Bool) (at : At) (x : A) (after : At) → IsBytes at.left → where_at there absent r at ≡ Ok (x, after)
      → Takes at after (λ front. IsWhere there absent P front x)
  where_takes true at x after fits e = p.takes at x after fits e
  where_takes false at x after fits e =
      subst (λ (y : A × At). Takes at y.1 (λ front. (front ≡ []) × (y.0 ≡ absent))) (ok_is (absent, at) (x, after) e)
      (record { front = []; parts = refl; moved = omega arith; spelled = (refl, refl) })

  where_gives : (there : Bool) (front tail : List ℕ) (place : ℕ) (x : A) → IsWhere there absent P front x
      → where_at there absent r (at_place place (front ++ tail)) ≡ Ok (x, at_place (place + length front) tail)
  where_gives true front tail place x c = p.gives front tail place x c
  where_gives false front tail place x c =
      let none : place ≡ place + 0 = omega arith in
      subst (λ (l : List ℕ). done {A = A × At} (absent, at_place place (l ++ tail)) ≡ Ok (x, at_place (place + length l) tail)) (sym c.0)
      (λ i. Ok (sym c.1 i, at_place (none i) tail))

pub where_part : {A : Type 0} (there : Bool) (absent : A) (P : List ℕ → A → Type 0) (r : At → Result (A × At) WireFault) → IsReader P r
    → IsPart (IsWhere there absent P) (where_at there absent r)
where_part there absent P r p = record { takes = where_takes absent P r p there; gives = where_gives absent P r p there }

-- it is no case of a field that may have no byte
pub not_solid : {A : Type 0} (P : List ℕ → A → Type 0) → false ≡ true → (front : List ℕ) (x : A) → P front x → 0 < length front
not_solid P e = absurd cc

-- ---- the one, and then the other

pub then_part : {A B : Type 0} (P : List ℕ → A → Type 0) (Q : List ℕ → B → Type 0) (r : At → Result (A × At) WireFault)
    (s : At → Result (B × At) WireFault) → IsPart P r → IsPart Q s → IsPart (Then P Q) (then_at r s)
then_part {A} {B} P Q r s p q = record {
  takes = λ at x after fits e.
      let m = bind_ok (r at) (λ a. s a.1 >>= λ b. Ok ((a.0, b.0), b.1)) (x, after) e in
      let n = bind_ok (s m.0.1) (λ b. Ok ((m.0.0, b.0), b.1)) (x, after) m.2 in
      let t = p.takes at m.0.0 m.0.1 fits m.1 in
      let u = q.takes m.0.1 n.0.0 n.0.1 (IsBytes-rest at m.0.1 _ fits t) n.1 in
      subst (λ (y : (A × B) × At). Takes at y.1 (λ front. Then P Q front y.0)) (ok_is ((m.0.0, n.0.0), n.0.1) (x, after) n.2)
      (Takes-then at m.0.1 n.0.1 t u (λ f g h k. (f, g, h, k, refl)));
  gives = λ front tail place x c.
      subst (λ (f : List ℕ). then_at r s (at_place place (f ++ tail)) ≡ Ok (x, at_place (place + length f) tail)) (sym c.4)
      (gives_then r s c.0 c.1 tail place x.0 x.1 (p.gives c.0 (c.1 ++ tail) place x.0 c.2) (q.gives c.1 tail (place + length c.0) x.1 c.3));
}

-- one of the two has a byte
pub pair_some : {A B : Type 0} (P : List ℕ → A → Type 0) (Q : List ℕ → B → Type 0) (a b : Bool)
    → (a ≡ true → (front : List ℕ) (x : A) → P front x → 0 < length front)
    → (b ≡ true → (front : List ℕ) (x : B) → Q front x → 0 < length front)
    → a || b ≡ true → (front : List ℕ) (x : A × B) → Then P Q front x → 0 < length front
pair_some P Q true b p q e front x c = omega (arith, ap length c.4, length-append c.0 c.1, p refl c.0 x.0 c.2)
pair_some P Q false b p q e front x c = omega (arith, ap length c.4, length-append c.0 c.1, q e c.1 x.1 c.3)

-- ---- what ends a structure

abbrev pub IsEnd : Bool → List ℕ → Type 0
IsEnd true bytes = IsTags bytes
IsEnd false bytes = bytes ≡ []

abbrev pub end_at : Bool → At → Result At WireFault
end_at true at = tags_at at
end_at false at = Ok at

-- the fields of a structure, and its end
abbrev pub Ended : {A : Type 0} → Bool → (List ℕ → A → Type 0) → List ℕ → A → Type 0
Ended flexible P bytes x = (first second : List ℕ) × P first x × IsEnd flexible second × (bytes ≡ first ++ second)

abbrev pub ended_at : {A : Type 0} → Bool → (At → Result (A × At) WireFault) → At → Result (A × At) WireFault
ended_at flexible fields at = do
  x ← fields at
  after ← end_at flexible x.1
  Ok (x.0, after)

end_take : (flexible : Bool) (at after : At) → IsBytes at.left → end_at flexible at ≡ Ok after → Takes at after (IsEnd flexible)
end_take true at after fits e = tags_take at after fits e
end_take false at after fits e = subst (λ (a : At). Takes at a (λ front. front ≡ [])) (ok_is at after e) (nothing at)

end_give : (flexible : Bool) (front tail : List ℕ) (place : ℕ) → IsEnd flexible front
    → end_at flexible (at_place place (front ++ tail)) ≡ Ok (at_place (place + length front) tail)
end_give true front tail place c = tags_give front tail place c
end_give false front tail place c =
    let none : place ≡ place + 0 = omega arith in
    subst (λ (l : List ℕ). done (at_place place (l ++ tail)) ≡ Ok (at_place (place + length l) tail)) (sym c) (λ i. Ok (at_place (none i) tail))

fields_read : {A : Type 0} (flexible : Bool) (P : List ℕ → A → Type 0) (r : At → Result (A × At) WireFault) → IsPart P r
    → ((front : List ℕ) (x : A) → P front x → 0 < length front) → IsReader (Ended flexible P) (ended_at flexible r)
fields_read {A} flexible P r p some = record {
  takes = λ at x after fits e.
      let m = bind_ok (r at) (λ a. end_at flexible a.1 >>= λ b. Ok (a.0, b)) (x, after) e in
      let n = bind_ok (end_at flexible m.0.1) (λ b. Ok (m.0.0, b)) (x, after) m.2 in
      let t = p.takes at m.0.0 m.0.1 fits m.1 in
      let u = end_take flexible m.0.1 n.0 (IsBytes-rest at m.0.1 _ fits t) n.1 in
      subst (λ (y : A × At). Takes at y.1 (λ front. Ended flexible P front y.0)) (ok_is (m.0.0, n.0) (x, after) n.2)
      (Takes-then {R = λ l. Ended flexible P l m.0.0} at m.0.1 n.0 t u (λ f g s w. (f, g, s, w, refl)));
  gives = λ front tail place x c.
      let f = c.0 in
      let g = c.1 in
      let len : place + length f + length g ≡ place + length (f ++ g) = omega (arith, length-append f g) in
      subst (λ (l : List ℕ). ended_at flexible r (at_place place (l ++ tail)) ≡ Ok (x, at_place (place + length l) tail)) (sym c.4)
      (ap (λ (l : List ℕ). ended_at flexible r (at_place place l)) (append_assoc f g tail)
      ∙ rw (p.gives f (g ++ tail) place x c.2, end_give flexible g tail (place + length f) c.3) (λ i. Ok (x, at_place (len i) tail)));
  some = λ front x c. omega (arith, ap length c.4, length-append c.0 c.1, some c.0 x c.2);
}

pub ended_reads : {S T : Type 0} (flexible : Bool) (make : T → S) (parts : S → T) → ((s : S) → make (parts s) ≡ s) → ((t : T) → parts (make t) ≡ t)
    → (P : List ℕ → T → Type 0) (r : At → Result (T × At) WireFault) → IsPart P r → ((front : List ℕ) (x : T) → P front x → 0 < length front)
    → IsReader (λ bytes s. Ended flexible P bytes (parts s)) (as_at make (ended_at flexible r))
ended_reads flexible make parts back there P r p some =
    shape_reads make parts back there (Ended flexible P) (ended_at flexible r) (fields_read flexible P r p some)
