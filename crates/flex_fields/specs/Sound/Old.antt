-- The fields of older messages are read just where they stand.
use Rattle.std.proofs.Common.{◌≡◌, ℕ, ℤ, pos, negsuc, ◌+◌, ◌<◌, ◌≤◌, true, false, cond, ltb, List, ◌++◌, length, take, Option, Some, None}
use Rattle.std.proofs.Common.{Result, Ok, Err, refl, sym, ap, subst, ◌∙◌, append_assoc, arith, inl, inr, length-append}
use Rattle.std.specs.Int.{Width, w16, w32, byte_len}
use Rattle.std.specs.Ordering.{int_eq}
use Rattle.std.specs.Str.{is_utf8}
use Rattle.std.proofs.lemmas.Bool.{ltb-false, le-ltb}
use Rattle.std.proofs.lemmas.Bool.Decides.{Decides-int_eq}
use Rattle.std.proofs.lemmas.List.{take_at, drop_at}
use Rattle.flex_fields.specs.declared.fault.WireFault.{WireFault}
use Rattle.flex_fields.specs.declared.fault.WireFault.TheVariants.{Short, BadLength, NotUtf8}
use Rattle.flex_fields.specs.Reading.{At, past, as_at, int_at, many_at}
use Rattle.flex_fields.specs.Grammar.{IsBytes, IsInt}
use Rattle.flex_fields.specs.Laws.{Takes, IsReader}
use Rattle.flex_fields.specs.Old.{IsOldSized, IsOldStr, IsCounted, OrMinus, behind_len, old_bytes_at, old_str_at, count_behind, old_count_at, counted_at, unless_minus_at}
use Rattle.flex_fields.specs.Sound.Fields.{bind_ok, guard_ok, chosen, ok_is, IsBytes-rest, int_reads}
use Rattle.flex_fields.specs.Sound.Readers.{Takes-then}
use Rattle.flex_fields.specs.Sound.Counted.{kept, took, many_take, many_give, many_long}

abbrev at_place : ℕ → List ℕ → At
at_place place left = record { place = place; left = left }

abbrev done : {A : Type 0} → A → Result A WireFault
done x = Ok x

module _ (w : Width) (wide : 0 < byte_len w) where
  behind_takes : (place : ℕ) (n : ℤ) (at : At) (x : List ℕ) (after start : At) → Takes start at (λ front. IsInt w front n)
      → behind_len place n at ≡ Ok (x, after) → Takes start after (λ front. IsOldSized w front x)
  behind_takes place (pos n) at x after start t e =
      let g = guard_ok (ltb (length at.left) n) (Short place) (done (take n at.left, past n at)) (x, after) e in
      let u = took n at (ltb-false _ _ g.0) in
      subst (λ (y : List ℕ × At). Takes start y.1 (λ front. IsOldSized w front y.0)) (ok_is (take n at.left, past n at) (x, after) g.1)
      (Takes-then {R = λ l. IsOldSized w l (take n at.left)} start at (past n at) t u (λ f d s v.
      let len : n ≡ length (take n at.left) = sym v.1 ∙ ap length v.0 in
      (f, subst (λ (j : ℕ). IsInt w f (pos j)) len s, ap (λ (l : List ℕ). f ++ l) v.0)))
  behind_takes place (negsuc n) at x after start t e = absurd cc

  pub old_sized_reads : IsReader (IsOldSized w) (old_bytes_at w)
  unfolding old_bytes_at
  old_sized_reads = record {
    takes = λ at x after fits e.
        let m = bind_ok (int_at w at) (λ n. behind_len at.place n.0 n.1) (x, after) e in
        behind_takes at.place m.0.0 m.0.1 x after at ((int_reads w wide).takes at m.0.0 m.0.1 fits m.1) m.2;
    gives = λ front tail place x c.
        let f = c.0 in
        let first = (int_reads w wide).gives f (x ++ tail) place (pos (length x)) c.1 in
        let long : ltb (length (x ++ tail)) (length x) ≡ false = le-ltb _ _ (omega (arith, length-append x tail)) in
        let len : place + length f + length x ≡ place + length (f ++ x) = omega (arith, length-append f x) in
        subst (λ (l : List ℕ). old_bytes_at w (at_place place (l ++ tail)) ≡ Ok (x, at_place (place + length l) tail)) (sym c.2)
        (ap (λ (l : List ℕ). old_bytes_at w (at_place place l)) (append_assoc f x tail)
        ∙ rw (first, long, take_at x tail (length x) refl, drop_at x tail (length x) refl) (λ i. Ok (x, at_place (len i) tail)));
    some = λ front x c. omega (arith, ap length c.2, length-append c.0 x, (int_reads w wide).some c.0 (pos (length x)) c.1);
  }

pub old_str_reads : IsReader IsOldStr old_str_at
unfolding old_str_at
old_str_reads = record {
  takes = λ at x after fits e.
      let r = bind_ok (old_bytes_at w16 at) (λ b. cond (is_utf8 b.0) (Ok b) (Err (NotUtf8 at.place))) (x, after) e in
      let g = kept (is_utf8 r.0.0) (NotUtf8 at.place) r.0 (x, after) r.2 in
      let t = (old_sized_reads w16 (omega arith)).takes at r.0.0 r.0.1 fits r.1 in
      subst (λ (p : List ℕ × At). Takes at p.1 (λ front. IsOldStr front p.0)) g.1
      (record { front = t.front; parts = t.parts; moved = t.moved; spelled = (t.spelled, g.0) });
  gives = λ front tail place x c. rw ((old_sized_reads w16 (omega arith)).gives front tail place x c.0, c.1) refl;
  some = λ front x c. (old_sized_reads w16 (omega arith)).some front x c.0;
}

-- ---- arrays

int32_reads : IsReader (IsInt w32) (int_at w32)
int32_reads = int_reads w32 (omega arith)

-- a number of elements, with so many bytes behind it
record CountTakes (at : At) (n : ℕ) (after : At) : Type 0 where
  front : Takes at after (λ front. IsInt w32 front (pos n))
  within : n ≤ length after.left

count_takes : (place : ℕ) (n : ℤ) (at : At) (m : ℕ) (after start : At) → Takes start at (λ front. IsInt w32 front n)
    → count_behind place n at ≡ Ok (m, after) → CountTakes start m after
count_takes place (pos n) at m after start t e =
    let g = guard_ok (ltb (length at.left) n) (BadLength place) (done (n, at)) (m, after) e in
    subst (λ (y : ℕ × At). CountTakes start y.0 y.1) (ok_is (n, at) (m, after) g.1) (record { front = t; within = ltb-false _ _ g.0 })
count_takes place (negsuc n) at m after start t e = absurd cc

old_count_takes : (at : At) (n : ℕ) (after : At) → IsBytes at.left → old_count_at at ≡ Ok (n, after) → CountTakes at n after
unfolding old_count_at
old_count_takes at n after fits e =
    let m = bind_ok (int_at w32 at) (λ n. count_behind at.place n.0 n.1) (n, after) e in
    count_takes at.place m.0.0 m.0.1 n after at (int32_reads.takes at m.0.0 m.0.1 fits m.1) m.2

old_count_gives : (front tail : List ℕ) (place n : ℕ) → IsInt w32 front (pos n) → n ≤ length tail
    → old_count_at (at_place place (front ++ tail)) ≡ Ok (n, at_place (place + length front) tail)
unfolding old_count_at
old_count_gives front tail place n s within =
    let first = int32_reads.gives front tail place (pos n) s in
    let long : ltb (length tail) n ≡ false = le-ltb _ _ within in
    rw (first, long) refl

module _ {A : Type 0} (P : List ℕ → A → Type 0) (r : At → Result (A × At) WireFault) (p : IsReader P r) where
  pub counted_reads : IsReader (IsCounted P) (counted_at r)
  unfolding counted_at
  counted_reads = record {
    takes = λ at xs after fits e.
        let m = bind_ok (old_count_at at) (λ n. many_at r n.0 n.1) (xs, after) e in
        let n = m.0.0 in
        let t = old_count_takes at n m.0.1 fits m.1 in
        let u = many_take P r p n m.0.1 xs after (IsBytes-rest at m.0.1 _ fits t.front) m.2 in
        Takes-then {R = λ l. IsCounted P l xs} at m.0.1 after t.front u
        (λ f d s v. (f, d, subst (λ (k : ℕ). IsInt w32 f (pos k)) (sym v.1) s, v.0, refl));
    gives = λ front tail place xs c.
        let f = c.0 in
        let g = c.1 in
        let first = old_count_gives f (g ++ tail) place (length xs) c.2 (omega (arith, length-append g tail, many_long P r p xs g c.3)) in
        let others = many_give P r p xs g tail (place + length f) c.3 in
        let len : place + length f + length g ≡ place + length (f ++ g) = omega (arith, length-append f g) in
        subst (λ (l : List ℕ). counted_at r (at_place place (l ++ tail)) ≡ Ok (xs, at_place (place + length l) tail)) (sym c.4)
        (ap (λ (l : List ℕ). counted_at r (at_place place l)) (append_assoc f g tail)
        ∙ rw (first, others) (λ i. Ok (xs, at_place (len i) tail)));
    some = λ front xs c. omega (arith, ap length c.4, length-append c.0 c.1, int32_reads.some c.0 (pos (length xs)) c.2);
  }

-- ---- null

-- what stands for a value begins with a number that isn't negative
abbrev pub NeverMinus : {A : Type 0} → Width → (List ℕ → A → Type 0) → Type 0
NeverMinus {A} w P = (front : List ℕ) (x : A) → P front x → (f rest : List ℕ) × (n : ℕ) × IsInt w f (pos n) × (front ≡ f ++ rest)

old_sized_never_minus : (w : Width) → NeverMinus w (IsOldSized w)
old_sized_never_minus w front x c = (c.0, x, length x, c.1, c.2)

old_str_never_minus : NeverMinus w16 IsOldStr
old_str_never_minus front x c = old_sized_never_minus w16 front x c.0

counted_never_minus : {A : Type 0} (P : List ℕ → A → Type 0) → NeverMinus w32 (IsCounted P)
counted_never_minus P front xs c = (c.0, c.1, length xs, c.2, c.4)

is_minus : (z : ℤ) → int_eq z (negsuc 0) ≡ true → z ≡ negsuc 0
is_minus z e = (Decides-int_eq z (negsuc 0)).0 e

module _ (w : Width) (wide : 0 < byte_len w) {A : Type 0} (P : List ℕ → A → Type 0) (r : At → Result (A × At) WireFault) (p : IsReader P r) (never : NeverMinus w P) where
  minus_takes : (at : At) (x : Option A) (after : At) → IsBytes at.left → unless_minus_at w r at ≡ Ok (x, after) → Takes at after (λ front. OrMinus w P front x)
  unfolding unless_minus_at
  minus_takes at x after fits e =
      let m = bind_ok (int_at w at) (λ n. cond (int_eq n.0 (negsuc 0)) (Ok (None, n.1)) (as_at Some r at)) (x, after) e in
      let t = (int_reads w wide).takes at m.0.0 m.0.1 fits m.1 in
      elim (chosen (int_eq m.0.0 (negsuc 0)) (Ok (None, m.0.1)) (as_at Some r at) (Ok (x, after)) m.2) [
        | inl null ↦
            subst (λ (y : Option A × At). Takes at y.1 (λ front. OrMinus w P front y.0)) (ok_is (None, m.0.1) (x, after) null.1)
            (record { front = t.front; parts = t.parts; moved = t.moved; spelled = subst (λ (z : ℤ). IsInt w t.front z) (is_minus m.0.0 null.0) t.spelled })
        | inr value ↦
            let q = bind_ok (r at) (λ a. Ok (Some a.0, a.1)) (x, after) value.1 in
            let u = p.takes at q.0.0 q.0.1 fits q.1 in
            subst (λ (y : Option A × At). Takes at y.1 (λ front. OrMinus w P front y.0)) (ok_is (Some q.0.0, q.0.1) (x, after) q.2)
            (record { front = u.front; parts = u.parts; moved = u.moved; spelled = u.spelled })
      ]

  minus_gives : (front tail : List ℕ) (place : ℕ) (x : Option A) → OrMinus w P front x
      → unless_minus_at w r (at_place place (front ++ tail)) ≡ Ok (x, at_place (place + length front) tail)
  unfolding unless_minus_at
  minus_gives front tail place None c = rw ((int_reads w wide).gives front tail place (negsuc 0) c) refl
  minus_gives front tail place (Some x) c =
      let s = never front x c in
      let first : int_at w (at_place place (front ++ tail)) ≡ Ok (pos s.2, at_place (place + length s.0) (s.1 ++ tail)) =
      ap (λ (l : List ℕ). int_at w (at_place place (l ++ tail))) s.4
      ∙ ap (λ (l : List ℕ). int_at w (at_place place l)) (append_assoc s.0 s.1 tail)
      ∙ (int_reads w wide).gives s.0 (s.1 ++ tail) place (pos s.2) s.3 in
      rw (first, p.gives front tail place x c) refl

  minus_some : (front : List ℕ) (x : Option A) → OrMinus w P front x → 0 < length front
  minus_some front None c = (int_reads w wide).some front (negsuc 0) c
  minus_some front (Some x) c = p.some front x c

  pub or_minus_reads : IsReader (OrMinus w P) (unless_minus_at w r)
  or_minus_reads = record { takes = minus_takes; gives = minus_gives; some = minus_some }

pub old_null_str_reads : IsReader (OrMinus w16 IsOldStr) (unless_minus_at w16 old_str_at)
old_null_str_reads = or_minus_reads w16 (omega arith) _ _ old_str_reads old_str_never_minus

pub old_byte_string_reads : IsReader (IsOldSized w32) (old_bytes_at w32)
old_byte_string_reads = old_sized_reads w32 (omega arith)

pub old_null_byte_string_reads : IsReader (OrMinus w32 (IsOldSized w32)) (unless_minus_at w32 (old_bytes_at w32))
old_null_byte_string_reads = or_minus_reads w32 (omega arith) _ _ old_byte_string_reads (old_sized_never_minus w32)

pub null_counted_reads : {A : Type 0} (P : List ℕ → A → Type 0) (r : At → Result (A × At) WireFault) → IsReader P r
    → IsReader (OrMinus w32 (IsCounted P)) (unless_minus_at w32 (counted_at r))
null_counted_reads P r p = or_minus_reads w32 (omega arith) _ _ (counted_reads P r p) (counted_never_minus P)
