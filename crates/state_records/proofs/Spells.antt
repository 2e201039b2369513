-- Readers that read just what a spelling writes, and what is made of them.
use Rattle.std.proofs.Common.{◌≡◌, ℕ, suc, ◌+◌, ◌^◌, ◌<◌, ◌≤◌, Bool, true, false, cond, ltb, List, [], ◌∷◌, ◌++◌, length, get_or, take}
use Rattle.std.proofs.Common.{drop, Option, Some, None, Result, Ok, Err, refl, sym, ap, subst, ◌∙◌, append_assoc, arith, inl, inr}
use Rattle.std.specs.Int.{Width, w16, w32, w64, byte_len, from_be_bytes, to_be_bytes}
use Rattle.std.proofs.lemmas.Bool.{cases_lt, ltb-false, le-ltb}
use Rattle.std.proofs.lemmas.List.{take_at, drop_at, take-append-drop, length-append, length-take, get_or-drop, get_or-take, get_or_past}
use Rattle.std.proofs.lemmas.Nat.{be_bytes_2, be_bytes_4, be_bytes_8, from_be_bytes-to_be_bytes_2, from_be_bytes-to_be_bytes_4, from_be_bytes-to_be_bytes_8}
use Rattle.flex_fields.specs.Reading.{At, past}
use Rattle.state_records.specs.Reading.{◌>>=◌, as_at, then_at, only_at, byte_in, byte_at, raw_at, number_at, found_at}

abbrev pub IsBytes : List ℕ → Type 0
IsBytes bytes = (i : ℕ) → get_or bytes i 0 < 256

pub IsBytes-drop : (n : ℕ) (bytes : List ℕ) → IsBytes bytes → IsBytes (drop n bytes)
IsBytes-drop n bytes h i = rw get_or-drop (h (n + i))

IsBytes-take : (n : ℕ) (bytes : List ℕ) → IsBytes bytes → IsBytes (take n bytes)
IsBytes-take n bytes h i =
    elim (cases_lt i n) [
      | inl lt ↦ rw (get_or-take n bytes i 0 lt) (h i)
      | inr le ↦ rw (get_or_past (take n bytes) i 0 (omega (arith, length-take n bytes))) (omega arith)
    ]

pub IsBytes-rest : (b : ℕ) (bytes : List ℕ) → IsBytes (b ∷ bytes) → IsBytes bytes
IsBytes-rest b bytes h i = h (suc i)

-- the value of a step that did not fail
pub bind_ok : {A B : Type 0} (r : Result A ℕ) (f : A → Result B ℕ) (y : B) → (r >>= f) ≡ Ok y → (x : A) × (r ≡ Ok x) × (f x ≡ Ok y)
bind_ok (Ok x) f y e = (x, refl, e)
bind_ok (Err d) f y e = absurd cc

-- tests that did not fail
pub guard_else : {A : Type 0} (b : Bool) (d : ℕ) (r : Result A ℕ) (y : A) → cond b (Err d) r ≡ Ok y → (b ≡ false) × (r ≡ Ok y)
guard_else true d r y e = absurd cc
guard_else false d r y e = (refl, e)

pub guard_then : {A : Type 0} (b : Bool) (d : ℕ) (r : Result A ℕ) (y : A) → cond b r (Err d) ≡ Ok y → (b ≡ true) × (r ≡ Ok y)
guard_then true d r y e = (refl, e)
guard_then false d r y e = absurd cc

abbrev done : {A : Type 0} → A → Result A ℕ
done x = Ok x

pub ok_is : {A : Type 0} (x y : A) → done x ≡ done y → x ≡ y
ok_is x y e = cc

-- what a reader took from the front
pub record Takes (bytes text rest : List ℕ) : Type 0 where
  pub parts : bytes ≡ text ++ rest
  pub rest_fits : IsBytes rest

pub Takes-then : (a x b y c : List ℕ) → Takes a x b → Takes b y c → Takes a (x ++ y) c
Takes-then a x b y c p q = record { parts = p.parts ∙ ap (λ (t : List ℕ). x ++ t) q.parts ∙ sym (append_assoc x y c); rest_fits = q.rest_fits }

-- a reader reads x, and leaves the rest
pub record Again {A : Type 0} (read : At → Result (A × At) ℕ) (at : At) (x : A) (rest : List ℕ) : Type 0 where
  pub after : At
  pub is : read at ≡ Ok (x, after)
  pub left : after.left ≡ rest

-- what is read is spelled so and fits; what fits is read from its spelling, whatever follows
pub record Spells {A : Type 0} (read : At → Result (A × At) ℕ) (spell : A → List ℕ) (fits : A → Type 0) : Type 0 where
  pub takes : (at : At) (x : A) (after : At) → IsBytes at.left → read at ≡ Ok (x, after) → Takes at.left (spell x) after.left × fits x
  pub again : (at : At) (x : A) (rest : List ℕ) → fits x → at.left ≡ spell x ++ rest → Again read at x rest

pub then_spells : {A B : Type 0} (first : At → Result (A × At) ℕ) (second : At → Result (B × At) ℕ) (s1 : A → List ℕ) (s2 : B → List ℕ) (f1 : A → Type 0) (f2 : B → Type 0)
    → Spells first s1 f1 → Spells second s2 f2 → Spells (then_at first second) (λ x. s1 x.0 ++ s2 x.1) (λ x. f1 x.0 × f2 x.1)
then_spells {A} {B} first second s1 s2 f1 f2 p q = record {
  takes = λ at x after fits e.
      let a = bind_ok (first at) (λ u. second u.1 >>= λ v. Ok ((u.0, v.0), v.1)) (x, after) e in
      let b = bind_ok (second a.0.1) (λ v. Ok ((a.0.0, v.0), v.1)) (x, after) a.2 in
      let t1 = p.takes at a.0.0 a.0.1 fits a.1 in
      let t2 = q.takes a.0.1 b.0.0 b.0.1 t1.0.rest_fits b.1 in
      let made : (A × B) × At = ((a.0.0, b.0.0), b.0.1) in
      subst (λ (y : (A × B) × At). Takes at.left (s1 y.0.0 ++ s2 y.0.1) y.1.left × (f1 y.0.0 × f2 y.0.1)) (ok_is made (x, after) b.2)
      (Takes-then at.left (s1 a.0.0) a.0.1.left (s2 b.0.0) b.0.1.left t1.0 t2.0, (t1.1, t2.1));
  again = λ at x rest fits e.
      let g1 = p.again at x.0 (s2 x.1 ++ rest) fits.0 (e ∙ append_assoc (s1 x.0) (s2 x.1) rest) in
      let g2 = q.again g1.after x.1 rest fits.1 g1.left in
      record {
        after = g2.after;
        is = ap (λ (r : Result (A × At) ℕ). r >>= λ u. second u.1 >>= λ v. Ok ((u.0, v.0), v.1)) g1.is ∙ ap (λ (r : Result (B × At) ℕ). r >>= λ v. Ok ((x.0, v.0), v.1)) g2.is;
        left = g2.left;
      };
}

pub as_spells : {A B : Type 0} (f : A → B) (g : B → A) (read : At → Result (A × At) ℕ) (spell : A → List ℕ) (spell2 : B → List ℕ) (fits : A → Type 0) (fits2 : B → Type 0)
    → ((x : A) → spell2 (f x) ≡ spell x) → ((x : A) → fits x → fits2 (f x)) → ((y : B) → fits2 y → fits (g y) × (f (g y) ≡ y) × (spell (g y) ≡ spell2 y))
    → Spells read spell fits → Spells (as_at f read) spell2 fits2
as_spells {A} {B} f g read spell spell2 fits fits2 same good back p = record {
  takes = λ at y after bytes e.
      let a = bind_ok (read at) (λ u. Ok (f u.0, u.1)) (y, after) e in
      let t = p.takes at a.0.0 a.0.1 bytes a.1 in
      let made : B × At = (f a.0.0, a.0.1) in
      subst (λ (z : B × At). Takes at.left (spell2 z.0) z.1.left × fits2 z.0) (ok_is made (y, after) a.2)
      (subst (λ (l : List ℕ). Takes at.left l a.0.1.left) (sym (same a.0.0)) t.0, good a.0.0 t.1);
  again = λ at y rest h e.
      let b = back y h in
      let r = p.again at (g y) rest b.0 (e ∙ ap (λ (l : List ℕ). l ++ rest) (sym b.2)) in
      record {
        after = r.after;
        is = ap (λ (q : Result (A × At) ℕ). q >>= λ u. Ok (f u.0, u.1)) r.is ∙ ap (λ (z : B). Ok (z, r.after)) b.1;
        left = r.left;
      };
}

pub only_spells : {A : Type 0} (test : A → Bool) (read : At → Result (A × At) ℕ) (spell : A → List ℕ) (fits good : A → Type 0)
    → ((x : A) → fits x → test x ≡ true → good x) → ((x : A) → good x → fits x × (test x ≡ true)) → Spells read spell fits → Spells (only_at test read) spell good
only_spells {A} test read spell fits good passes back p = record {
  takes = λ at x after bytes e.
      let a = bind_ok (read at) (λ u. cond (test u.0) (Ok u) (Err at.place)) (x, after) e in
      let g = guard_then (test a.0.0) at.place (Ok a.0) (x, after) a.2 in
      let t = p.takes at a.0.0 a.0.1 bytes a.1 in
      subst (λ (z : A × At). Takes at.left (spell z.0) z.1.left × good z.0) (ok_is a.0 (x, after) g.1) (t.0, passes a.0.0 t.1 g.0);
  again = λ at x rest h e.
      let b = back x h in
      let r = p.again at x rest b.0 e in
      record {
        after = r.after;
        is = ap (λ (q : Result (A × At) ℕ). q >>= λ u. cond (test u.0) (Ok u) (Err at.place)) r.is ∙ ap (λ (t : Bool). cond t (Ok (x, r.after)) (Err at.place)) b.1;
        left = r.left;
      };
}

pub found_ok : {A : Type 0} (place : ℕ) (o : Option A) (at : At) (x : A) (after : At) → found_at place o at ≡ Ok (x, after) → (o ≡ Some x) × (at ≡ after)
found_ok {A} place None at x after e = absurd cc
found_ok {A} place (Some y) at x after e =
    let made : A × At = (y, at) in
    let both : made ≡ (x, after) = ok_is made (x, after) e in
    (ap (λ (p : A × At). Some p.0) both, ap (λ (p : A × At). p.1) both)

-- a number that stands for a value
pub found_spells : {A : Type 0} (decode : ℕ → Option A) (number : A → ℕ) (read : At → Result (ℕ × At) ℕ) (spell : ℕ → List ℕ) (fits : ℕ → Type 0) (good : A → Type 0)
    → ((n : ℕ) (x : A) → decode n ≡ Some x → (number x ≡ n) × good x) → ((x : A) → good x → fits (number x) × (decode (number x) ≡ Some x))
    → Spells read spell fits → Spells (λ at. read at >>= λ n. found_at at.place (decode n.0) n.1) (λ x. spell (number x)) good
found_spells {A} decode number read spell fits good back code p = record {
  takes = λ at x after bytes e.
      let a = bind_ok (read at) (λ n. found_at at.place (decode n.0) n.1) (x, after) e in
      let f = found_ok at.place (decode a.0.0) a.0.1 x after a.2 in
      let t = p.takes at a.0.0 a.0.1 bytes a.1 in
      let b = back a.0.0 x f.0 in
      (subst (λ (z : At). Takes at.left (spell (number x)) z.left) f.1 (subst (λ (n : ℕ). Takes at.left (spell n) a.0.1.left) (sym b.0) t.0), b.1);
  again = λ at x rest h e.
      let c = code x h in
      let r = p.again at (number x) rest c.0 e in
      record {
        after = r.after;
        is = ap (λ (q : Result (ℕ × At) ℕ). q >>= λ n. found_at at.place (decode n.0) n.1) r.is ∙ ap (λ (o : Option A). found_at at.place o r.after) c.1;
        left = r.left;
      };
}

-- ---- numbers

pub record IsWide (w : Width) (limit : ℕ) : Type 0 where
  pub len : (n : ℕ) → length (to_be_bytes w n) ≡ byte_len w
  pub back : (bytes : List ℕ) → length bytes ≡ byte_len w → IsBytes bytes → to_be_bytes w (from_be_bytes w bytes) ≡ bytes
  pub again : (n : ℕ) → n < limit → from_be_bytes w (to_be_bytes w n) ≡ n
  pub below : (bytes : List ℕ) → IsBytes bytes → from_be_bytes w bytes < limit

pub wide16 : IsWide w16 (2 ^ 16)
wide16 = record {
  len = λ n. refl;
  back = λ bytes len fits. be_bytes_2 bytes _ len fits refl;
  again = λ n lt. from_be_bytes-to_be_bytes_2 n lt;
  below = λ bytes fits. omega (arith, fits 0, fits 1);
}

pub wide32 : IsWide w32 (2 ^ 32)
wide32 = record {
  len = λ n. refl;
  back = λ bytes len fits. be_bytes_4 bytes _ len fits refl;
  again = λ n lt. from_be_bytes-to_be_bytes_4 n lt;
  below = λ bytes fits. omega (arith, fits 0, fits 1, fits 2, fits 3);
}

pub wide64 : IsWide w64 (2 ^ 64)
wide64 = record {
  len = λ n. refl;
  back = λ bytes len fits. be_bytes_8 bytes _ len fits refl;
  again = λ n lt. from_be_bytes-to_be_bytes_8 n lt;
  below = λ bytes fits. omega (arith, fits 0, fits 1, fits 2, fits 3, fits 4, fits 5, fits 6, fits 7);
}

pub raw_spells : (n : ℕ) → Spells (raw_at n) (λ x. x) (λ x. length x ≡ n)
raw_spells n = record {
  takes = λ at x after fits e.
      let g = guard_else (ltb (length at.left) n) at.place (Ok (take n at.left, past n at)) (x, after) e in
      let long : n ≤ length at.left = ltb-false _ _ g.0 in
      let made : List ℕ × At = (take n at.left, past n at) in
      subst (λ (z : List ℕ × At). Takes at.left z.0 z.1.left × (length z.0 ≡ n)) (ok_is made (x, after) g.1)
      (record { parts = sym (take-append-drop n at.left); rest_fits = IsBytes-drop n at.left fits }, omega (arith, length-take n at.left));
  again = λ at x rest fits e.
      let long : ltb (length at.left) n ≡ false = le-ltb _ _ (omega (arith, ap length e, length-append x rest)) in
      let front : take n at.left ≡ x = ap (take n) e ∙ take_at x rest n fits in
      let back : drop n at.left ≡ rest = ap (drop n) e ∙ drop_at x rest n fits in
      record {
        after = past n at;
        is = ap (λ (b : Bool). cond b (Err at.place) (Ok (take n at.left, past n at))) long ∙ ap (λ (l : List ℕ). Ok (l, past n at)) front;
        left = back;
      };
}

pub number_spells : (w : Width) (limit : ℕ) → IsWide w limit → Spells (number_at w) (to_be_bytes w) (λ n. n < limit)
number_spells w limit wide = record {
  takes = λ at n after fits e.
      let g = guard_else (ltb (length at.left) (byte_len w)) at.place (Ok (from_be_bytes w (take (byte_len w) at.left), past (byte_len w) at)) (n, after) e in
      let long : byte_len w ≤ length at.left = ltb-false _ _ g.0 in
      let front : to_be_bytes w (from_be_bytes w (take (byte_len w) at.left)) ≡ take (byte_len w) at.left =
      wide.back (take (byte_len w) at.left) (omega (arith, length-take (byte_len w) at.left)) (IsBytes-take (byte_len w) at.left fits) in
      let made : ℕ × At = (from_be_bytes w (take (byte_len w) at.left), past (byte_len w) at) in
      subst (λ (z : ℕ × At). Takes at.left (to_be_bytes w z.0) z.1.left × (z.0 < limit)) (ok_is made (n, after) g.1) (
        record { parts = sym (take-append-drop (byte_len w) at.left) ∙ ap (λ (l : List ℕ). l ++ drop (byte_len w) at.left) (sym front); rest_fits = IsBytes-drop (byte_len w) at.left fits },
        wide.below (take (byte_len w) at.left) (IsBytes-take (byte_len w) at.left fits),
      );
  again = λ at n rest lt e.
      let len = wide.len n in
      let long : ltb (length at.left) (byte_len w) ≡ false = le-ltb _ _ (omega (arith, ap length e, length-append (to_be_bytes w n) rest)) in
      let front : take (byte_len w) at.left ≡ to_be_bytes w n = ap (take (byte_len w)) e ∙ take_at (to_be_bytes w n) rest (byte_len w) len in
      let back : drop (byte_len w) at.left ≡ rest = ap (drop (byte_len w)) e ∙ drop_at (to_be_bytes w n) rest (byte_len w) len in
      record {
        after = past (byte_len w) at;
        is = ap (λ (b : Bool). cond b (Err at.place) (Ok (from_be_bytes w (take (byte_len w) at.left), past (byte_len w) at))) long
            ∙ ap (λ (l : List ℕ). Ok (from_be_bytes w l, past (byte_len w) at)) front ∙ ap (λ (k : ℕ). Ok (k, past (byte_len w) at)) (wide.again n lt);
        left = back;
      };
}

byte_ok : (place b : ℕ) (left rest : List ℕ) → byte_in place left ≡ Ok (b, rest) → left ≡ b ∷ rest
byte_ok place b [] rest e = absurd cc
byte_ok place b (c ∷ left) rest e =
    let made : ℕ × List ℕ = (c, left) in
    let both : made ≡ (b, rest) = ok_is made (b, rest) e in
    (λ i. (both i).0 ∷ (both i).1)

pub byte_spells : Spells byte_at (λ b. b ∷ []) (λ b. Unit {0})
byte_spells = record {
  takes = λ at b after fits e.
      let a = bind_ok (byte_in at.place at.left) (λ x. Ok (x.0, record { place = at.place + 1; left = x.1 })) (b, after) e in
      let split = byte_ok at.place a.0.0 at.left a.0.1 a.1 in
      let made : ℕ × At = (a.0.0, record { place = at.place + 1; left = a.0.1 }) in
      subst (λ (z : ℕ × At). Takes at.left (z.0 ∷ []) z.1.left × Unit {0}) (ok_is made (b, after) a.2)
      (record { parts = split; rest_fits = IsBytes-rest a.0.0 a.0.1 (subst IsBytes split fits) }, tt);
  again = λ at b rest fits e. record {
    after = record { place = at.place + 1; left = rest };
    is = ap (λ (l : List ℕ). byte_in at.place l >>= λ x. Ok (x.0, record { place = at.place + 1; left = x.1 })) e;
    left = refl;
  };
}
