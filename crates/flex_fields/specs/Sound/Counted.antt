-- Lengths with what they count are read just where they stand, and so are tags.
use Rattle.std.proofs.Common.{◌≡◌, ℕ, zero, suc, ◌+◌, ◌-◌, ◌<◌, ◌≤◌, Bool, true, false, cond, ltb, eqb, List, [], ◌∷◌, ◌++◌, length, take}
use Rattle.std.proofs.Common.{Option, Some, None, Result, Ok, Err, refl, sym, ap, subst, ◌∙◌, append_assoc, arith, inl, inr, length-append}
use Rattle.std.specs.Str.{is_utf8}
use Rattle.std.proofs.lemmas.Bool.{ltb-false, le-ltb, eqb-false, eqb-true, false_from_ne_true}
use Rattle.std.proofs.lemmas.List.{take_at, drop_at, take-append-drop, length-take}
use Rattle.flex_fields.specs.declared.fault.WireFault.{WireFault}
use Rattle.flex_fields.specs.declared.fault.WireFault.TheVariants.{Short, BadLength, NotUtf8}
use Rattle.flex_fields.specs.Reading.{At, past, ◌>>=◌, uvarint_at, len_at, array_len_at, bytes_at, str_at, nullable_at, as_at, tag_at}
use Rattle.flex_fields.specs.Reading.{some_tags_at, tags_at, many_at, array_at, tagged_at}
use Rattle.flex_fields.specs.Grammar.{IsUvarint, IsSized, IsStr, OrNull, IsTag, AreTags, IsTags, Tagged, AreMany, IsArray, IsBytes}
use Rattle.flex_fields.specs.Cursors.{no_value}
use Rattle.flex_fields.specs.Laws.{Takes, LenTakes, IsReader}
use Rattle.flex_fields.specs.Sound.Fields.{bind_ok, guard_ok, chosen, ok_is, IsBytes-rest}
use Rattle.flex_fields.specs.Sound.Readers.{uvarint_reads, Takes-then}

abbrev at_place : ℕ → List ℕ → At
at_place place left = record { place = place; left = left }

abbrev done : {A : Type 0} → A → Result A WireFault
done x = Ok x

-- what stands right at a place, of this length
pub took : (n : ℕ) (at : At) → n ≤ length at.left → Takes at (past n at) (λ front. (front ≡ take n at.left) × (length front ≡ n))
took n at le = let len : length (take n at.left) ≡ n = omega (arith, length-take n at.left) in
    record { front = take n at.left; parts = sym (take-append-drop n at.left); moved = ap (λ (k : ℕ). at.place + k) (sym len); spelled = (refl, len) }

pub len_takes : (beyond : WireFault) (at : At) (n : ℕ) (after : At) → IsBytes at.left → len_at beyond at ≡ Ok (n, after) → LenTakes at n after
unfolding len_at
len_takes beyond at n after fits e =
    let r = bind_ok (uvarint_at at)
    (λ n. cond (eqb n.0 0) (Err (BadLength at.place)) (cond (ltb (length n.1.left) (n.0 - 1)) (Err beyond) (Ok (n.0 - 1, n.1))))
    (n, after) e in
    let g = guard_ok (eqb r.0.0 0) (BadLength at.place) (cond (ltb (length r.0.1.left) (r.0.0 - 1)) (Err beyond) (Ok (r.0.0 - 1, r.0.1)))
    (n, after) r.2 in
    let h = guard_ok (ltb (length r.0.1.left) (r.0.0 - 1)) beyond (done (r.0.0 - 1, r.0.1)) (n, after) g.1 in
    let some : r.0.0 ≡ 0 → ⊥ = eqb-false r.0.0 0 g.0 in
    let t = uvarint_reads.takes at r.0.0 r.0.1 fits r.1 in
    let back : (r.0.0 - 1) + 1 ≡ r.0.0 = omega (arith, some) in
    subst (λ (p : ℕ × At). LenTakes at p.0 p.1) (ok_is (r.0.0 - 1, r.0.1) (n, after) h.1) (record {
      front = record { front = t.front; parts = t.parts; moved = t.moved; spelled = subst (λ (k : ℕ). IsUvarint t.front k) (sym back) t.spelled };
      within = ltb-false _ _ h.0;
    })

pub len_gives : (beyond : WireFault) (front tail : List ℕ) (place n : ℕ) → IsUvarint front (n + 1) → n ≤ length tail
    → len_at beyond (at_place place (front ++ tail)) ≡ Ok (n, at_place (place + length front) tail)
unfolding len_at
len_gives beyond front tail place n s within =
    let first = uvarint_reads.gives front tail place (n + 1) s in
    let some : eqb (n + 1) 0 ≡ false = false_from_ne_true _ (λ e. absurd (omega (arith, eqb-true _ _ e))) in
    let back : (n + 1) - 1 ≡ n = omega arith in
    let long : ltb (length tail) n ≡ false = le-ltb _ _ within in
    rw (first, some, back, long) refl

pub sized_reads : IsReader IsSized bytes_at
unfolding bytes_at
sized_reads = record {
  takes = λ at x after fits e.
      let r = bind_ok (len_at (Short at.place) at) (λ n. Ok (take n.0 n.1.left, past n.0 n.1)) (x, after) e in
      let n = r.0.0 in
      let t = len_takes (Short at.place) at n r.0.1 fits r.1 in
      let u = took n r.0.1 t.within in
      let n-is : length (take n r.0.1.left) + 1 ≡ n + 1 = omega (arith, length-take n r.0.1.left, t.within) in
      subst (λ (p : List ℕ × At). Takes at p.1 (λ front. IsSized front p.0)) (ok_is (take n r.0.1.left, past n r.0.1) (x, after) r.2)
      (Takes-then at r.0.1 (past n r.0.1) t.front u (λ f g s v. (f, subst (λ (k : ℕ). IsUvarint f k) (sym n-is) s, ap (λ (l : List ℕ). f ++ l) v.0)));
  gives = λ front tail place x c.
      let f = c.0 in
      let first = len_gives (Short place) f (x ++ tail) place (length x) c.1 (omega (arith, length-append x tail)) in
      let len : place + length f + length x ≡ place + length (f ++ x) = omega (arith, length-append f x) in
      subst (λ (l : List ℕ). bytes_at (at_place place (l ++ tail)) ≡ Ok (x, at_place (place + length l) tail)) (sym c.2)
      (ap (λ (l : List ℕ). bytes_at (at_place place l)) (append_assoc f x tail)
      ∙ rw (first, take_at x tail (length x) refl, drop_at x tail (length x) refl) (λ i. Ok (x, at_place (len i) tail)));
  some = λ front x c. omega (arith, ap length c.2, length-append c.0 x, uvarint_reads.some c.0 (length x + 1) c.1);
}

pub kept : {A : Type 0} (b : Bool) (d : WireFault) (x y : A) → cond b (Ok x) (Err d) ≡ Ok y → (b ≡ true) × (x ≡ y)
kept true d x y e = (refl, cc)
kept false d x y e = absurd cc

pub str_reads : IsReader IsStr str_at
unfolding str_at
str_reads = record {
  takes = λ at x after fits e.
      let r = bind_ok (bytes_at at) (λ b. cond (is_utf8 b.0) (Ok b) (Err (NotUtf8 at.place))) (x, after) e in
      let g = kept (is_utf8 r.0.0) (NotUtf8 at.place) r.0 (x, after) r.2 in
      let t = sized_reads.takes at r.0.0 r.0.1 fits r.1 in
      subst (λ (p : List ℕ × At). Takes at p.1 (λ front. IsStr front p.0)) g.1
      (record { front = t.front; parts = t.parts; moved = t.moved; spelled = (t.spelled, g.0) });
  gives = λ front tail place x c. rw (sized_reads.gives front tail place x c.0, c.1) refl;
  some = λ front x c. sized_reads.some front x c.0;
}

-- ---- null

-- what stands for a value begins with a number above 0
abbrev pub NeverNull : {A : Type 0} → (List ℕ → A → Type 0) → Type 0
NeverNull {A} P = (front : List ℕ) (x : A) → P front x → (f rest : List ℕ) × (n : ℕ) × IsUvarint f (n + 1) × (front ≡ f ++ rest)

pub sized_never_null : NeverNull IsSized
sized_never_null front x c = (c.0, x, length x, c.1, c.2)

pub str_never_null : NeverNull IsStr
str_never_null front x c = sized_never_null front x c.0

pub array_never_null : {A : Type 0} (P : List ℕ → A → Type 0) → NeverNull (IsArray P)
array_never_null P front xs c = (c.0, c.1, length xs, c.2, c.4)

module _ {A : Type 0} (P : List ℕ → A → Type 0) (r : At → Result (A × At) WireFault) (p : IsReader P r) (never : NeverNull P) where
  null_takes : (at : At) (x : Option A) (after : At) → IsBytes at.left → nullable_at r at ≡ Ok (x, after) → Takes at after (λ front. OrNull P front x)
  unfolding nullable_at
  null_takes at x after fits e =
      let m = bind_ok (uvarint_at at) (λ n. cond (eqb n.0 0) (Ok (None, n.1)) (as_at Some r at)) (x, after) e in
      let t = uvarint_reads.takes at m.0.0 m.0.1 fits m.1 in
      elim (chosen (eqb m.0.0 0) (Ok (None, m.0.1)) (as_at Some r at) (Ok (x, after)) m.2) [
        | inl null ↦
            let zero-is : m.0.0 ≡ 0 = eqb-true _ _ null.0 in
            subst (λ (y : Option A × At). Takes at y.1 (λ front. OrNull P front y.0)) (ok_is (None, m.0.1) (x, after) null.1)
            (record { front = t.front; parts = t.parts; moved = t.moved; spelled = subst (λ (k : ℕ). IsUvarint t.front k) zero-is t.spelled })
        | inr value ↦
            let q = bind_ok (r at) (λ a. Ok (Some a.0, a.1)) (x, after) value.1 in
            let u = p.takes at q.0.0 q.0.1 fits q.1 in
            subst (λ (y : Option A × At). Takes at y.1 (λ front. OrNull P front y.0)) (ok_is (Some q.0.0, q.0.1) (x, after) q.2)
            (record { front = u.front; parts = u.parts; moved = u.moved; spelled = u.spelled })
      ]

  null_gives : (front tail : List ℕ) (place : ℕ) (x : Option A) → OrNull P front x
      → nullable_at r (at_place place (front ++ tail)) ≡ Ok (x, at_place (place + length front) tail)
  unfolding nullable_at
  null_gives front tail place None c = rw (uvarint_reads.gives front tail place 0 c) refl
  null_gives front tail place (Some x) c =
      let s = never front x c in
      let first : uvarint_at (at_place place (front ++ tail)) ≡ Ok (s.2 + 1, at_place (place + length s.0) (s.1 ++ tail)) =
      ap (λ (l : List ℕ). uvarint_at (at_place place (l ++ tail))) s.4
      ∙ ap (λ (l : List ℕ). uvarint_at (at_place place l)) (append_assoc s.0 s.1 tail)
      ∙ uvarint_reads.gives s.0 (s.1 ++ tail) place (s.2 + 1) s.3 in
      let some : eqb (s.2 + 1) 0 ≡ false = false_from_ne_true _ (λ e. absurd (omega (arith, eqb-true _ _ e))) in
      rw (first, some, p.gives front tail place x c) refl

  null_some : (front : List ℕ) (x : Option A) → OrNull P front x → 0 < length front
  null_some front None c = uvarint_reads.some front 0 c
  null_some front (Some x) c = p.some front x c

  pub nullable_reads : IsReader (OrNull P) (nullable_at r)
  nullable_reads = record { takes = null_takes; gives = null_gives; some = null_some }

-- ---- tags

-- a size, and that many bytes
abbrev IsInner : List ℕ → Type 0
IsInner bytes = (second inner : List ℕ) × IsUvarint second (length inner) × (bytes ≡ second ++ inner)

tag_takes : (at after : At) → IsBytes at.left → tag_at at ≡ Ok after → Takes at after IsTag
unfolding tag_at
tag_takes at after fits e =
    let r = bind_ok (uvarint_at at)
    (λ t. uvarint_at t.1 >>= λ s. cond (ltb (length s.1.left) s.0) (Err (Short t.1.place)) (Ok (past s.0 s.1))) after e in
    let q = bind_ok (uvarint_at r.0.1) (λ s. cond (ltb (length s.1.left) s.0) (Err (Short r.0.1.place)) (Ok (past s.0 s.1))) after r.2 in
    let g = guard_ok (ltb (length q.0.1.left) q.0.0) (Short r.0.1.place) (done (past q.0.0 q.0.1)) after q.2 in
    let t = uvarint_reads.takes at r.0.0 r.0.1 fits r.1 in
    let u = uvarint_reads.takes r.0.1 q.0.0 q.0.1 (IsBytes-rest at r.0.1 _ fits t) q.1 in
    let v = took q.0.0 q.0.1 (ltb-false _ _ g.0) in
    let inner = Takes-then {Q = λ front. (front ≡ take q.0.0 q.0.1.left) × (length front ≡ q.0.0)} {R = IsInner} r.0.1 q.0.1
    (past q.0.0 q.0.1) u v (λ f d s w. (f, d, subst (λ (k : ℕ). IsUvarint f k) (sym w.1) s, refl)) in
    subst (λ (a : At). Takes at a IsTag) (ok_is (past q.0.0 q.0.1) after g.1)
    (Takes-then {R = IsTag} at r.0.1 (past q.0.0 q.0.1) t inner (λ f d s w. (f, w.0, w.1, r.0.0, s, w.2, ap (λ (l : List ℕ). f ++ l) w.3)))

tag_gives : (front tail : List ℕ) (place : ℕ) → IsTag front → tag_at (at_place place (front ++ tail)) ≡ Ok (at_place (place + length front) tail)
unfolding tag_at
tag_gives front tail place c =
    let f = c.0 in
    let g = c.1 in
    let d = c.2 in
    let first = uvarint_reads.gives f ((g ++ d) ++ tail) place c.3 c.4 in
    let second = uvarint_reads.gives g (d ++ tail) (place + length f) (length d) c.5 in
    let regrouped : (g ++ d) ++ tail ≡ g ++ (d ++ tail) = append_assoc g d tail in
    let long : ltb (length (d ++ tail)) (length d) ≡ false = le-ltb _ _ (omega (arith, length-append d tail)) in
    let len : place + length f + length g + length d ≡ place + length (f ++ (g ++ d)) = omega (arith, length-append f (g ++ d), length-append g d) in
    subst (λ (l : List ℕ). tag_at (at_place place (l ++ tail)) ≡ Ok (at_place (place + length l) tail)) (sym c.6)
    (ap (λ (l : List ℕ). tag_at (at_place place l)) (append_assoc f (g ++ d) tail)
    ∙ rw (first, regrouped, second, long, drop_at d tail (length d) refl) (λ i. Ok (at_place (len i) tail)))

some_tags_take : (n : ℕ) (at after : At) → IsBytes at.left → some_tags_at n at ≡ Ok after → Takes at after (AreTags n)
unfolding some_tags_at
some_tags_take zero at after fits e =
    subst (λ (a : At). Takes at a (AreTags 0)) (ok_is at after e) (record { front = []; parts = refl; moved = omega arith; spelled = refl })
some_tags_take (suc n) at after fits e =
    let r = bind_ok (tag_at at) (λ a. some_tags_at n a) after e in
    let t = tag_takes at r.0 fits r.1 in
    let u = some_tags_take n r.0 after (IsBytes-rest at r.0 _ fits t) r.2 in
    Takes-then {R = AreTags (suc n)} at r.0 after t u (λ f g s w. (f, g, s, w, refl))

some_tags_give : (n : ℕ) (front tail : List ℕ) (place : ℕ) → AreTags n front
    → some_tags_at n (at_place place (front ++ tail)) ≡ Ok (at_place (place + length front) tail)
unfolding some_tags_at
some_tags_give zero front tail place c = let none : place ≡ place + 0 = omega arith in
    subst (λ (l : List ℕ). some_tags_at 0 (at_place place (l ++ tail)) ≡ Ok (at_place (place + length l) tail)) (sym c)
    (λ i. Ok (at_place (none i) tail))
some_tags_give (suc n) front tail place c =
    let f = c.0 in
    let g = c.1 in
    let first = tag_gives f (g ++ tail) place c.2 in
    let others = some_tags_give n g tail (place + length f) c.3 in
    let len : place + length f + length g ≡ place + length (f ++ g) = omega (arith, length-append f g) in
    subst (λ (l : List ℕ). some_tags_at (suc n) (at_place place (l ++ tail)) ≡ Ok (at_place (place + length l) tail)) (sym c.4)
    (ap (λ (l : List ℕ). some_tags_at (suc n) (at_place place l)) (append_assoc f g tail) ∙ rw (first, others) (λ i. Ok (at_place (len i) tail)))

place_of : (r : Result At WireFault) (x : Unit {0}) (after : At) → no_value r ≡ Ok (x, after) → r ≡ Ok after
place_of (Ok at) x after e = ap (λ (a : At). done a) (ap (λ (p : Unit {0} × At). p.1) (ok_is (tt, at) (x, after) e))
place_of (Err f) x after e = absurd cc

pub tags_take : (at after : At) → IsBytes at.left → tags_at at ≡ Ok after → Takes at after IsTags
unfolding tags_at
tags_take at after fits e =
    let r = bind_ok (uvarint_at at) (λ n. some_tags_at n.0 n.1) after e in
    let t = uvarint_reads.takes at r.0.0 r.0.1 fits r.1 in
    let u = some_tags_take r.0.0 r.0.1 after (IsBytes-rest at r.0.1 _ fits t) r.2 in
    Takes-then {R = IsTags} at r.0.1 after t u (λ f g s w. (f, g, r.0.0, s, w, refl))

pub tags_give : (front tail : List ℕ) (place : ℕ) → IsTags front
    → tags_at (at_place place (front ++ tail)) ≡ Ok (at_place (place + length front) tail)
unfolding tags_at
tags_give front tail place c =
    let f = c.0 in
    let g = c.1 in
    let first = uvarint_reads.gives f (g ++ tail) place c.2 c.3 in
    let others = some_tags_give c.2 g tail (place + length f) c.4 in
    let len : place + length f + length g ≡ place + length (f ++ g) = omega (arith, length-append f g) in
    subst (λ (l : List ℕ). tags_at (at_place place (l ++ tail)) ≡ Ok (at_place (place + length l) tail)) (sym c.5)
    (ap (λ (l : List ℕ). tags_at (at_place place l)) (append_assoc f g tail) ∙ rw (first, others) (λ i. Ok (at_place (len i) tail)))

pub tags_reads : IsReader (λ bytes _. IsTags bytes) (λ at. no_value (tags_at at))
tags_reads = record {
  takes = λ at x after fits e. tags_take at after fits (place_of (tags_at at) x after e);
  gives = λ front tail place x c. ap no_value (tags_give front tail place c);
  some = λ front x c. omega (arith, ap length c.5, length-append c.0 c.1, uvarint_reads.some c.0 c.2 c.3);
}

pub tagged_reads : {A : Type 0} (P : List ℕ → A → Type 0) (r : At → Result (A × At) WireFault) → IsReader P r → IsReader (Tagged P) (tagged_at r)
tagged_reads {A} P r p = record {
  takes = λ at x after fits e.
      let m = bind_ok (r at) (λ a. tags_at a.1 >>= λ b. Ok (a.0, b)) (x, after) e in
      let n = bind_ok (tags_at m.0.1) (λ b. Ok (m.0.0, b)) (x, after) m.2 in
      let t = p.takes at m.0.0 m.0.1 fits m.1 in
      let u = tags_take m.0.1 n.0 (IsBytes-rest at m.0.1 _ fits t) n.1 in
      subst (λ (y : A × At). Takes at y.1 (λ front. Tagged P front y.0)) (ok_is (m.0.0, n.0) (x, after) n.2)
      (Takes-then {R = λ l. Tagged P l m.0.0} at m.0.1 n.0 t u (λ f g s w. (f, g, s, w, refl)));
  gives = λ front tail place x c.
      let f = c.0 in
      let g = c.1 in
      let len : place + length f + length g ≡ place + length (f ++ g) = omega (arith, length-append f g) in
      subst (λ (l : List ℕ). tagged_at r (at_place place (l ++ tail)) ≡ Ok (x, at_place (place + length l) tail)) (sym c.4)
      (ap (λ (l : List ℕ). tagged_at r (at_place place l)) (append_assoc f g tail)
      ∙ rw (p.gives f (g ++ tail) place x c.2, tags_give g tail (place + length f) c.3) (λ i. Ok (x, at_place (len i) tail)));
  some = λ front x c. omega (arith, ap length c.4, length-append c.0 c.1, p.some c.0 x c.2);
}

-- ---- items one after the other

module _ {A : Type 0} (P : List ℕ → A → Type 0) (r : At → Result (A × At) WireFault) (p : IsReader P r) where
  pub many_take : (n : ℕ) (at : At) (xs : List A) (after : At) → IsBytes at.left → many_at r n at ≡ Ok (xs, after)
      → Takes at after (λ front. AreMany P front xs × (length xs ≡ n))
  unfolding many_at
  many_take zero at xs after fits e =
      subst (λ (y : List A × At). Takes at y.1 (λ front. AreMany P front y.0 × (length y.0 ≡ 0))) (ok_is ([], at) (xs, after) e)
      (record { front = []; parts = refl; moved = omega arith; spelled = (refl, refl) })
  many_take (suc n) at xs after fits e =
      let m = bind_ok (r at) (λ a. many_at r n a.1 >>= λ b. Ok (a.0 ∷ b.0, b.1)) (xs, after) e in
      let q = bind_ok (many_at r n m.0.1) (λ b. Ok (m.0.0 ∷ b.0, b.1)) (xs, after) m.2 in
      let t = p.takes at m.0.0 m.0.1 fits m.1 in
      let u = many_take n m.0.1 q.0.0 q.0.1 (IsBytes-rest at m.0.1 _ fits t) q.1 in
      subst (λ (y : List A × At). Takes at y.1 (λ front. AreMany P front y.0 × (length y.0 ≡ suc n))) (ok_is (m.0.0 ∷ q.0.0, q.0.1) (xs, after) q.2)
      (Takes-then {R = λ l. AreMany P l (m.0.0 ∷ q.0.0) × (length (m.0.0 ∷ q.0.0) ≡ suc n)} at m.0.1 q.0.1 t u
      (λ f g s w. ((f, g, s, w.0, refl), ap suc w.1)))

  pub many_give : (xs : List A) (front tail : List ℕ) (place : ℕ) → AreMany P front xs
      → many_at r (length xs) (at_place place (front ++ tail)) ≡ Ok (xs, at_place (place + length front) tail)
  unfolding many_at
  many_give [] front tail place c = let none : place ≡ place + 0 = omega arith in
      subst (λ (l : List ℕ). many_at r 0 (at_place place (l ++ tail)) ≡ Ok ([], at_place (place + length l) tail)) (sym c)
      (λ i. Ok ([], at_place (none i) tail))
  many_give (x ∷ xs) front tail place c =
      let f = c.0 in
      let g = c.1 in
      let len : place + length f + length g ≡ place + length (f ++ g) = omega (arith, length-append f g) in
      subst (λ (l : List ℕ). many_at r (suc (length xs)) (at_place place (l ++ tail)) ≡ Ok (x ∷ xs, at_place (place + length l) tail)) (sym c.4)
      (ap (λ (l : List ℕ). many_at r (suc (length xs)) (at_place place l)) (append_assoc f g tail)
      ∙ rw (p.gives f (g ++ tail) place x c.2, many_give xs g tail (place + length f) c.3) (λ i. Ok (x ∷ xs, at_place (len i) tail)))

  -- each item takes a byte at least
  pub many_long : (xs : List A) (front : List ℕ) → AreMany P front xs → length xs ≤ length front
  many_long [] front c = omega arith
  many_long (x ∷ xs) front c = omega (arith, ap length c.4, length-append c.0 c.1, p.some c.0 x c.2, many_long xs c.1 c.3)

  pub array_reads : IsReader (IsArray P) (array_at r)
  unfolding array_at array_len_at
  array_reads = record {
    takes = λ at xs after fits e.
        let m = bind_ok (len_at (BadLength at.place) at) (λ n. many_at r n.0 n.1) (xs, after) e in
        let n = m.0.0 in
        let t = len_takes (BadLength at.place) at n m.0.1 fits m.1 in
        let u = many_take n m.0.1 xs after (IsBytes-rest at m.0.1 _ fits t.front) m.2 in
        Takes-then {R = λ l. IsArray P l xs} at m.0.1 after t.front u
        (λ f d s w. (f, d, subst (λ (k : ℕ). IsUvarint f (k + 1)) (sym w.1) s, w.0, refl));
    gives = λ front tail place xs c.
        let f = c.0 in
        let g = c.1 in
        let first = len_gives (BadLength place) f (g ++ tail) place (length xs) c.2 (omega (arith, length-append g tail, many_long xs g c.3)) in
        let others = many_give xs g tail (place + length f) c.3 in
        let len : place + length f + length g ≡ place + length (f ++ g) = omega (arith, length-append f g) in
        subst (λ (l : List ℕ). array_at r (at_place place (l ++ tail)) ≡ Ok (xs, at_place (place + length l) tail)) (sym c.4)
        (ap (λ (l : List ℕ). array_at r (at_place place l)) (append_assoc f g tail) ∙ rw (first, others) (λ i. Ok (xs, at_place (len i) tail)));
    some = λ front xs c. omega (arith, ap length c.4, length-append c.0 c.1, uvarint_reads.some c.0 (length xs + 1) c.2);
  }

-- ---- null, and structures

pub null_str_reads : IsReader (OrNull IsStr) (nullable_at str_at)
null_str_reads = nullable_reads _ _ str_reads str_never_null

pub null_sized_reads : IsReader (OrNull IsSized) (nullable_at bytes_at)
null_sized_reads = nullable_reads _ _ sized_reads sized_never_null

pub null_array_reads : {A : Type 0} (P : List ℕ → A → Type 0) (r : At → Result (A × At) WireFault) → IsReader P r
    → IsReader (OrNull (IsArray P)) (nullable_at (array_at r))
null_array_reads P r p = nullable_reads _ _ (array_reads P r p) (array_never_null P)

-- a struct as its fields
pub shape_reads : {S T : Type 0} (make : T → S) (parts : S → T) → ((s : S) → make (parts s) ≡ s) → ((t : T) → parts (make t) ≡ t)
    → (P : List ℕ → T → Type 0) (r : At → Result (T × At) WireFault) → IsReader P r → IsReader (λ bytes s. P bytes (parts s)) (as_at make r)
shape_reads {S} {T} make parts back there P r p = record {
  takes = λ at x after fits e.
      let m = bind_ok (r at) (λ a. Ok (make a.0, a.1)) (x, after) e in
      let t = p.takes at m.0.0 m.0.1 fits m.1 in
      subst (λ (y : S × At). Takes at y.1 (λ front. P front (parts y.0))) (ok_is (make m.0.0, m.0.1) (x, after) m.2)
      (record { front = t.front; parts = t.parts; moved = t.moved; spelled = subst (λ (z : T). P t.front z) (sym (there m.0.0)) t.spelled });
  gives = λ front tail place x c. rw (p.gives front tail place (parts x) c) (λ i. Ok (back x i, at_place (place + length front) tail));
  some = λ front x c. p.some front (parts x) c;
}

pub structure_reads : {S T : Type 0} (make : T → S) (parts : S → T) → ((s : S) → make (parts s) ≡ s) → ((t : T) → parts (make t) ≡ t)
    → (P : List ℕ → T → Type 0) (r : At → Result (T × At) WireFault) → IsReader P r
    → IsReader (λ bytes s. Tagged P bytes (parts s)) (as_at make (tagged_at r))
structure_reads make parts back there P r p = shape_reads make parts back there (Tagged P) (tagged_at r) (tagged_reads P r p)
