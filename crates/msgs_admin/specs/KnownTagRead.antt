-- Proof that tags of which one is known are read just where bytes stand for them. There is nothing to believe here.
use Rattle.std.proofs.Common.{◌≡◌, ℕ, zero, suc, ◌+◌, ◌<◌, ◌≤◌, Bool, true, false, cond, eqb, ltb, List, [], ◌∷◌, ◌++◌, length, take}
use Rattle.std.proofs.Common.{rules, Option, Some, None, Result, Ok, Err, refl, sym, ap, subst, ◌∙◌, append_assoc, arith, inl, inr, length-append}
use Rattle.std.specs.Option.{option_or}
use Rattle.std.proofs.lemmas.Bool.{ltb-false, le-ltb, eqb-true}
use Rattle.std.proofs.lemmas.List.{drop_at, length-take}
use Rattle.flex_fields.specs.declared.fault.WireFault.{WireFault}
use Rattle.flex_fields.specs.declared.fault.WireFault.TheVariants.{Short, BadLength}
use Rattle.flex_fields.specs.Reading.{At, past, ◌>>=◌, uvarint_at, as_at}
use Rattle.flex_fields.specs.Grammar.{IsUvarint, IsTag, AreTags, IsTags, IsBytes}
use Rattle.flex_fields.specs.Laws.{Takes, IsReader}
use Rattle.flex_fields.specs.Sound.Fields.{bind_ok, guard_ok, chosen, ok_is, IsBytes-rest}
use Rattle.flex_fields.specs.Sound.Readers.{uvarint_reads, Takes-then}
use Rattle.flex_fields.specs.Sound.Counted.{took, kept}
use Rattle.msgs_admin.specs.KnownTag.{Says, IsKnownTag, AreKnownTags, IsKnownTags, sized_at, known_tag_at, known_from_at, known_tags_at}

abbrev at_place : ℕ → List ℕ → At
at_place place left = record { place = place; left = left }

abbrev done : {A : Type 0} → A → Result A WireFault
done x = Ok x

module _ {A : Type 0} (known : ℕ) (P : List ℕ → A → Type 0) (r : At → Result (A × At) WireFault) (p : IsReader P r) where
  -- what stands behind a tag: a size, and bytes that say this
  abbrev IsSaid : ℕ → List ℕ → Option A → Type 0
  IsSaid tag bytes x = (second inner : List ℕ) × IsUvarint second (length inner) × Says known P tag inner x × (bytes ≡ second ++ inner)

  abbrev behind : ℕ → ℕ → (ℕ × At) → Result (Option A × At) WireFault
  behind tag place s = cond (ltb (length s.1.left) s.0) (Err (Short place))
      (cond (eqb tag known) (as_at Some (sized_at place s.0 r) s.1) (Ok (None, past s.0 s.1)))

  sized_kept : (place size : ℕ) (at : At) (x y : A × At) → IsBytes at.left → r at ≡ Ok x
      → cond (eqb x.1.place (at.place + size)) (Ok x) (Err (BadLength place)) ≡ Ok y
      → Takes at y.1 (λ front. P front y.0 × (length front ≡ size))
  sized_kept place size at x y fits e same =
      let k = kept (eqb x.1.place (at.place + size)) (BadLength place) x y same in
      let t = p.takes at x.0 x.1 fits e in
      let len : length t.front ≡ size = omega (arith, t.moved, eqb-true _ _ k.0) in
      subst (λ (z : A × At). Takes at z.1 (λ front. P front z.0 × (length front ≡ size))) k.1
      (record { front = t.front; parts = t.parts; moved = t.moved; spelled = (t.spelled, len) })

  sized_takes : (place size : ℕ) (at : At) (y : A × At) → IsBytes at.left → sized_at place size r at ≡ Ok y
      → Takes at y.1 (λ front. P front y.0 × (length front ≡ size))
  sized_takes place size at y fits e =
      let q = bind_ok (r at) (λ a. cond (eqb a.1.place (at.place + size)) (Ok a) (Err (BadLength place))) y e in
      sized_kept place size at q.0 y fits q.1 q.2

  -- a size was taken, and then the field
  known_takes : (tag place : ℕ) (at : At) (size : ℕ × At) (x : Option A) (after : At) → IsBytes size.1.left
      → Takes at size.1 (λ front. IsUvarint front size.0) → eqb tag known ≡ true → as_at Some (sized_at place size.0 r) size.1 ≡ Ok (x, after)
      → Takes at after (λ front. IsSaid tag front x)
  known_takes tag place at size x after fits u is e =
      let m = bind_ok (sized_at place size.0 r size.1) (λ a. Ok (Some a.0, a.1)) (x, after) e in
      let t = sized_takes place size.0 size.1 m.0 fits m.1 in
      subst (λ (y : Option A × At). Takes at y.1 (λ front. IsSaid tag front y.0)) (ok_is (Some m.0.0, m.0.1) (x, after) m.2)
      (Takes-then {R = λ front. IsSaid tag front (Some m.0.0)} at size.1 m.0.1 u t
      (λ f d s w. (f, d, subst (λ (n : ℕ). IsUvarint f n) (sym w.1) s, (is, w.0), refl)))

  -- a size was taken, and then what another tag has
  skipped_takes : (tag : ℕ) (at : At) (size : ℕ × At) (x : Option A) (after : At) → size.0 ≤ length size.1.left
      → Takes at size.1 (λ front. IsUvarint front size.0) → eqb tag known ≡ false
      → done {A = Option A × At} (None, past size.0 size.1) ≡ Ok (x, after) → Takes at after (λ front. IsSaid tag front x)
  skipped_takes tag at size x after within u other e =
      subst (λ (y : Option A × At). Takes at y.1 (λ front. IsSaid tag front y.0)) (ok_is (None, past size.0 size.1) (x, after) e)
      (Takes-then {R = λ front. IsSaid tag front None} at size.1 (past size.0 size.1) u (took size.0 size.1 within)
      (λ f d s w. (f, d, subst (λ (n : ℕ). IsUvarint f n) (sym w.1) s, other, refl)))

  behind_takes : (tag place : ℕ) (at : At) (size : ℕ × At) (x : Option A) (after : At) → IsBytes size.1.left
      → Takes at size.1 (λ front. IsUvarint front size.0) → behind tag place size ≡ Ok (x, after) → Takes at after (λ front. IsSaid tag front x)
  behind_takes tag place at size x after fits u b =
      let g = guard_ok (ltb (length size.1.left) size.0) (Short place)
      (cond (eqb tag known) (as_at Some (sized_at place size.0 r) size.1) (Ok (None, past size.0 size.1))) (x, after) b in
      elim (chosen (eqb tag known) (as_at Some (sized_at place size.0 r) size.1) (Ok (None, past size.0 size.1)) (Ok (x, after)) g.1) [
        | inl is ↦ known_takes tag place at size x after fits u is.0 is.1
        | inr other ↦ skipped_takes tag at size x after (ltb-false _ _ g.0) u other.0 other.1
      ]

  -- a tag was taken, and then its size and what it has
  both_take : (tag place : ℕ) (at after_tag : At) (size : ℕ × At) (x : Option A) (after : At) → IsBytes after_tag.left
      → Takes at after_tag (λ front. IsUvarint front tag) → uvarint_at after_tag ≡ Ok size → behind tag place size ≡ Ok (x, after)
      → Takes at after (λ front. IsKnownTag known P front x)
  both_take tag place at after_tag size x after fits first e b =
      let u = uvarint_reads.takes after_tag size.0 size.1 fits e in
      let second = behind_takes tag place after_tag size x after (IsBytes-rest after_tag size.1 _ fits u) u b in
      Takes-then {R = λ front. IsKnownTag known P front x} at after_tag after first second
      (λ f d s w. (f, w.0, w.1, tag, s, w.2, w.3, ap (λ (l : List ℕ). f ++ l) w.4))

  tag_takes : (at : At) (x : Option A) (after : At) → IsBytes at.left → known_tag_at known r at ≡ Ok (x, after)
      → Takes at after (λ front. IsKnownTag known P front x)
  unfolding known_tag_at
  tag_takes at x after fits e =
      let t = bind_ok (uvarint_at at) (λ t. uvarint_at t.1 >>= λ s. behind t.0 t.1.place s) (x, after) e in
      let s = bind_ok (uvarint_at t.0.1) (λ s. behind t.0.0 t.0.1.place s) (x, after) t.2 in
      let first = uvarint_reads.takes at t.0.0 t.0.1 fits t.1 in
      both_take t.0.0 t.0.1.place at t.0.1 s.0 x after (IsBytes-rest at t.0.1 _ fits first) first s.1 s.2

  said_gives : (tag place behind_place : ℕ) (inner tail : List ℕ) (x : Option A) → Says known P tag inner x
      → behind tag place (length inner, at_place behind_place (inner ++ tail)) ≡ Ok (x, at_place (behind_place + length inner) tail)
  said_gives tag place behind_place inner tail None other =
      let long : ltb (length (inner ++ tail)) (length inner) ≡ false = le-ltb _ _ (omega (arith, length-append inner tail)) in
      rw (long, other, drop_at inner tail (length inner) refl) refl
  said_gives tag place behind_place inner tail (Some x) says =
      let long : ltb (length (inner ++ tail)) (length inner) ≡ false = le-ltb _ _ (omega (arith, length-append inner tail)) in
      let end : eqb (behind_place + length inner) (behind_place + length inner) ≡ true = search rules in
      rw (long, says.0, p.gives inner tail behind_place x says.1, end) refl

  tag_gives : (front tail : List ℕ) (place : ℕ) (x : Option A) → IsKnownTag known P front x
      → known_tag_at known r (at_place place (front ++ tail)) ≡ Ok (x, at_place (place + length front) tail)
  unfolding known_tag_at
  tag_gives front tail place x c =
      let f = c.0 in
      let g = c.1 in
      let d = c.2 in
      let first = uvarint_reads.gives f ((g ++ d) ++ tail) place c.3 c.4 in
      let second = uvarint_reads.gives g (d ++ tail) (place + length f) (length d) c.5 in
      let third = said_gives c.3 (place + length f) (place + length f + length g) d tail x c.6 in
      let regrouped : (g ++ d) ++ tail ≡ g ++ (d ++ tail) = append_assoc g d tail in
      let len : place + length f + length g + length d ≡ place + length (f ++ (g ++ d)) = omega (arith, length-append f (g ++ d), length-append g d) in
      subst (λ (l : List ℕ). known_tag_at known r (at_place place (l ++ tail)) ≡ Ok (x, at_place (place + length l) tail)) (sym c.7)
      (ap (λ (l : List ℕ). known_tag_at known r (at_place place l)) (append_assoc f (g ++ d) tail)
      ∙ rw (first, regrouped, second, third) (λ i. Ok (x, at_place (len i) tail)))

  from_takes : (n : ℕ) (said : Option A) (at : At) (x : Option A) (after : At) → IsBytes at.left → known_from_at known r said n at ≡ Ok (x, after)
      → Takes at after (λ front. AreKnownTags known P said n front x)
  unfolding known_from_at
  from_takes zero said at x after fits e =
      subst (λ (y : Option A × At). Takes at y.1 (λ front. AreKnownTags known P said 0 front y.0)) (ok_is (said, at) (x, after) e)
      (record { front = []; parts = refl; moved = omega arith; spelled = (refl, refl) })
  from_takes (suc n) said at x after fits e =
      let m = bind_ok (known_tag_at known r at) (λ one. known_from_at known r (option_or one.0 said) n one.1) (x, after) e in
      let t = tag_takes at m.0.0 m.0.1 fits m.1 in
      let u = from_takes n (option_or m.0.0 said) m.0.1 x after (IsBytes-rest at m.0.1 _ fits t) m.2 in
      Takes-then {R = λ front. AreKnownTags known P said (suc n) front x} at m.0.1 after t u (λ f g s w. (m.0.0, f, g, s, w, refl))

  from_gives : (n : ℕ) (said : Option A) (front tail : List ℕ) (place : ℕ) (x : Option A) → AreKnownTags known P said n front x
      → known_from_at known r said n (at_place place (front ++ tail)) ≡ Ok (x, at_place (place + length front) tail)
  unfolding known_from_at
  from_gives zero said front tail place x c =
      let none : place ≡ place + 0 = omega arith in
      subst (λ (l : List ℕ). known_from_at known r said 0 (at_place place (l ++ tail)) ≡ Ok (x, at_place (place + length l) tail)) (sym c.0)
      (λ i. Ok (sym c.1 i, at_place (none i) tail))
  from_gives (suc n) said front tail place x c =
      let f = c.1 in
      let g = c.2 in
      let first = tag_gives f (g ++ tail) place c.0 c.3 in
      let others = from_gives n (option_or c.0 said) g tail (place + length f) x c.4 in
      let len : place + length f + length g ≡ place + length (f ++ g) = omega (arith, length-append f g) in
      subst (λ (l : List ℕ). known_from_at known r said (suc n) (at_place place (l ++ tail)) ≡ Ok (x, at_place (place + length l) tail)) (sym c.5)
      (ap (λ (l : List ℕ). known_from_at known r said (suc n) (at_place place l)) (append_assoc f g tail)
      ∙ rw (first, others) (λ i. Ok (x, at_place (len i) tail)))

  pub known_tags_reads : IsReader (IsKnownTags known P) (known_tags_at known r)
  unfolding known_tags_at
  known_tags_reads = record {
    takes = λ at x after fits e.
        let m = bind_ok (uvarint_at at) (λ n. known_from_at known r None n.0 n.1) (x, after) e in
        let t = uvarint_reads.takes at m.0.0 m.0.1 fits m.1 in
        let u = from_takes m.0.0 None m.0.1 x after (IsBytes-rest at m.0.1 _ fits t) m.2 in
        Takes-then {R = λ front. IsKnownTags known P front x} at m.0.1 after t u (λ f g s w. (f, g, m.0.0, s, w, refl));
    gives = λ front tail place x c.
        let f = c.0 in
        let g = c.1 in
        let first = uvarint_reads.gives f (g ++ tail) place c.2 c.3 in
        let others = from_gives c.2 None g tail (place + length f) x c.4 in
        let len : place + length f + length g ≡ place + length (f ++ g) = omega (arith, length-append f g) in
        subst (λ (l : List ℕ). known_tags_at known r (at_place place (l ++ tail)) ≡ Ok (x, at_place (place + length l) tail)) (sym c.5)
        (ap (λ (l : List ℕ). known_tags_at known r (at_place place l)) (append_assoc f g tail)
        ∙ rw (first, others) (λ i. Ok (x, at_place (len i) tail)));
    some = λ front x c. omega (arith, ap length c.5, length-append c.0 c.1, uvarint_reads.some c.0 c.2 c.3);
  }

-- ---- what a reader sees that knows none of the tags

module _ {A : Type 0} (known : ℕ) (P : List ℕ → A → Type 0) where
  skips_all : (n : ℕ) (said : Option A) (bytes : List ℕ) (x : Option A) → AreKnownTags known P said n bytes x → AreTags n bytes
  skips_all zero said bytes x c = c.0
  skips_all (suc n) said bytes x c =
      let one = c.3 in
      (c.1, c.2, (one.0, one.1, one.2, one.3, one.4, one.5, one.7), skips_all n (option_or c.0 said) c.2 x c.4, c.5)

  pub skips_known : (bytes : List ℕ) (x : Option A) → IsKnownTags known P bytes x → IsTags bytes
  skips_known bytes x c = (c.0, c.1, c.2, c.3, skips_all c.2 None c.1 x c.4, c.5)
