-- Readers that fail: what stands before the fault is the front of some spelling, and no spelling has the field that stands
-- at the fault.
use Rattle.std.proofs.Common.{◌≡◌, ℕ, zero, suc, ◌+◌, ◌-◌, ◌<◌, ◌≤◌, ◌⊎◌, inl, inr, List, [], ◌∷◌, ◌++◌, length, take}
use Rattle.std.proofs.Common.{Result, Ok, Err, refl, sym, ap, subst, ◌∙◌, append_assoc, arith}
use Rattle.std.proofs.lemmas.List.{length-append}
use Rattle.flex_fields.specs.Reading.{At}
use Rattle.state_records.specs.Reading.{◌>>=◌, as_at, then_at}
use Rattle.state_records.proofs.Spells.{IsBytes, bind_ok, ok_is, Spells}

-- a step that failed
pub bind_err : {A B : Type 0} (r : Result A ℕ) (f : A → Result B ℕ) (place : ℕ) → (r >>= f) ≡ Err place → (r ≡ Err place) ⊎ ((x : A) × (r ≡ Ok x) × (f x ≡ Err place))
bind_err (Ok x) f place e = inr (x, refl, e)
bind_err (Err d) f place e = inl (let same : d ≡ place = cc in ap (λ (n : ℕ). Err n) same)

pub not_both : {X : Type 0} (r : Result X ℕ) (place : ℕ) (x : X) → r ≡ Err place → r ≡ Ok x → ⊥
not_both (Ok y) place x e f = absurd cc
not_both (Err d) place x e f = absurd cc

-- a text that agrees with the first bytes of a list, as far as these reach
pub record Agrees (a b l rest : List ℕ) (e : ℕ) : Type 0 where
  pub behind : List ℕ
  pub whole : l ≡ a ++ behind
  pub others : b ≡ take (e - length a) behind ++ rest

pub agrees : (a b l rest : List ℕ) (e : ℕ) → length a ≤ e → e ≤ length l → a ++ b ≡ take e l ++ rest → Agrees a b l rest e
agrees [] b l rest e le within same = record { behind = l; whole = refl; others = same ∙ ap (λ (k : ℕ). take k l ++ rest) (let q : e ≡ e - 0 = omega arith in q) }
agrees (x ∷ a) b l rest zero le within same = absurd (omega arith)
agrees (x ∷ a) b [] rest (suc e) le within same = absurd (omega arith)
agrees (x ∷ a) b (y ∷ l) rest (suc e) le within same =
    let head : x ≡ y = cc in
    let tail : a ++ b ≡ take e l ++ rest = cc in
    let others = agrees a b l rest e (omega arith) (omega arith) tail in
    record { behind = others.behind; whole = (λ i. sym head i ∷ others.whole i); others = others.others ∙ ap (λ (k : ℕ). take k others.behind ++ rest) (let q : e - length a ≡ suc e - suc (length a) = omega arith in q) }

pub take-behind : (a b : List ℕ) (n : ℕ) → take (length a + n) (a ++ b) ≡ a ++ take n b
take-behind [] b n = ap (λ (k : ℕ). take k b) (let q : 0 + n ≡ n = omega arith in q)
take-behind (x ∷ a) b n = let e : suc (length a) + n ≡ suc (length a + n) = omega arith in ap (λ (k : ℕ). take k (x ∷ a ++ b)) e ∙ ap (λ (l : List ℕ). x ∷ l) (take-behind a b n)

-- the bytes before the fault are the front of what one of these shows
pub record Front {C : Type 0} (show : C → List ℕ) (good : C → Type 0) (at : At) (place : ℕ) : Type 0 where
  pub taken : ℕ
  pub place_is : place ≡ at.place + taken
  pub within : taken ≤ length at.left
  pub whole : C
  pub is : good whole
  pub rest : List ℕ
  pub bytes : show whole ≡ take taken at.left ++ rest

-- How a reader fails. `field` says of a value that one of its fields begins and ends so far from its first byte.
pub record Fails {A C : Type 0} (read : At → Result (A × At) ℕ) (spell : A → List ℕ) (fits : A → Type 0) (field : A → ℕ → ℕ → Type 0)
    (show : C → List ℕ) (good : C → Type 0) : Type 0 where
  pub some : C
  pub some_good : good some
  pub ahead : (x : A) (p e : ℕ) → field x p e → p ≤ e
  pub moves : (at : At) (x : A) (after : At) → read at ≡ Ok (x, after) → after.place + length after.left ≡ at.place + length at.left
  pub front : (at : At) (place : ℕ) → IsBytes at.left → read at ≡ Err place → Front show good at place
  pub none : (at : At) (place : ℕ) → IsBytes at.left → read at ≡ Err place → (x : A) (e : ℕ) (more rest : List ℕ) → fits x → field x (place - at.place) e
      → e ≤ length at.left → spell x ++ more ≡ take e at.left ++ rest → ⊥

-- a field begins within the value's bytes
abbrev pub Inside : {A : Type 0} → (A → List ℕ) → (A → Type 0) → (A → ℕ → ℕ → Type 0) → Type 0
Inside {A} spell fits field = (x : A) (p e : ℕ) → fits x → field x p e → p < length (spell x)

-- the fields of the one, and behind them those of the other
abbrev pub then_field : {A B : Type 0} → (A → List ℕ) → (A → ℕ → ℕ → Type 0) → (B → ℕ → ℕ → Type 0) → A × B → ℕ → ℕ → Type 0
then_field s1 field1 field2 x p e = field1 x.0 p e ⊎ ((length (s1 x.0) ≤ p) × ((length (s1 x.0) ≤ e) × field2 x.1 (p - length (s1 x.0)) (e - length (s1 x.0))))

-- a text is read in one way
pub one_reading : {A : Type 0} (read : At → Result (A × At) ℕ) (spell : A → List ℕ) (fits : A → Type 0) → Spells read spell fits →
    (x y : A) (a b : List ℕ) → fits x → fits y → spell x ++ a ≡ spell y ++ b → (x ≡ y) × (a ≡ b)
one_reading {A} read spell fits p x y a b fx fy same =
    let at : At = record { place = 0; left = spell x ++ a } in
    let g = p.again at x a fx refl in
    let h = p.again at y b fy same in
    let both : (x, g.after) ≡ (y, h.after) = ok_is (x, g.after) (y, h.after) (sym g.is ∙ h.is) in
    (ap (λ (z : A × At). z.0) both, sym g.left ∙ ap (λ (z : A × At). z.1.left) both ∙ h.left)

module _ {A B C : Type 0} (first : At → Result (A × At) ℕ) (second : At → Result (B × At) ℕ) (s1 : A → List ℕ) (s2 : B → List ℕ) (f1 : A → Type 0) (f2 : B → Type 0)
    (field1 : A → ℕ → ℕ → Type 0) (field2 : B → ℕ → ℕ → Type 0) (show : C → List ℕ) (good : C → Type 0)
    (p : Spells first s1 f1) (inside : Inside s1 f1 field1) (u : Fails first s1 f1 field1 s1 f1) (v : Fails second s2 f2 field2 show good) where
  abbrev pair : A → B × At → Result ((A × B) × At) ℕ
  pair a b = Ok ((a, b.0), b.1)

  abbrev both : A × At → Result ((A × B) × At) ℕ
  both a = second a.1 >>= pair a.0

  both_err : (a : A × At) (place : ℕ) → both a ≡ Err place → second a.1 ≡ Err place
  both_err a place e = elim (bind_err (second a.1) (pair a.0) place e) [
    | inl h ↦ h
    | inr h ↦ absurd cc
  ]

  -- where the second begins
  mid_place : (at : At) (a : A) (mid : At) → first at ≡ Ok (a, mid) → at.left ≡ s1 a ++ mid.left → mid.place ≡ at.place + length (s1 a)
  mid_place at a mid e split = omega (arith, u.moves at a mid e, ap length split, length-append (s1 a) mid.left)

  front_first : (at : At) (place : ℕ) → Front s1 f1 at place → Front (λ (x : A × C). s1 x.0 ++ show x.1) (λ x. f1 x.0 × good x.1) at place
  front_first at place f = record {
    taken = f.taken;
    place_is = f.place_is;
    within = f.within;
    whole = (f.whole, v.some);
    is = (f.is, v.some_good);
    rest = f.rest ++ show v.some;
    bytes = ap (λ (l : List ℕ). l ++ show v.some) f.bytes ∙ append_assoc (take f.taken at.left) f.rest (show v.some);
  }

  front_second : (at : At) (place : ℕ) (a : A) (mid : At) → first at ≡ Ok (a, mid) → at.left ≡ s1 a ++ mid.left → f1 a → Front show good mid place
      → Front (λ (x : A × C). s1 x.0 ++ show x.1) (λ x. f1 x.0 × good x.1) at place
  front_second at place a mid e split fits f =
      let n : ℕ = length (s1 a) in
      record {
        taken = n + f.taken;
        place_is = omega (arith, f.place_is, mid_place at a mid e split);
        within = omega (arith, f.within, ap length split, length-append (s1 a) mid.left);
        whole = (a, f.whole);
        is = (fits, f.is);
        rest = f.rest;
        bytes = ap (λ (l : List ℕ). s1 a ++ l) f.bytes ∙ sym (append_assoc (s1 a) (take f.taken mid.left) f.rest)
            ∙ ap (λ (l : List ℕ). l ++ f.rest) (sym (take-behind (s1 a) mid.left f.taken)) ∙ ap (λ (l : List ℕ). take (n + f.taken) l ++ f.rest) (sym split);
      }

  none_first : (at : At) (place : ℕ) → IsBytes at.left → first at ≡ Err place → (x : A × B) (e : ℕ) (more rest : List ℕ) → f1 x.0 × f2 x.1
      → then_field s1 field1 field2 x (place - at.place) e → e ≤ length at.left → (s1 x.0 ++ s2 x.1) ++ more ≡ take e at.left ++ rest → ⊥
  none_first at place bytes err x e more rest fits (inl f) within same =
      u.none at place bytes err x.0 e (s2 x.1 ++ more) rest fits.0 f within (sym (append_assoc (s1 x.0) (s2 x.1) more) ∙ same)
  none_first at place bytes err x e more rest fits (inr f) within same =
      let h = agrees (s1 x.0) (s2 x.1 ++ more) at.left rest e f.1.0 within (sym (append_assoc (s1 x.0) (s2 x.1) more) ∙ same) in
      let g = p.again at x.0 h.behind fits.0 h.whole in
      not_both (first at) place (x.0, g.after) err g.is

  none_second : (at : At) (place : ℕ) → IsBytes at.left → (a : A) (mid : At) → first at ≡ Ok (a, mid) → at.left ≡ s1 a ++ mid.left → f1 a → IsBytes mid.left
      → second mid ≡ Err place → (x : A × B) (e : ℕ) (more rest : List ℕ) → f1 x.0 × f2 x.1
      → then_field s1 field1 field2 x (place - at.place) e → e ≤ length at.left → (s1 x.0 ++ s2 x.1) ++ more ≡ take e at.left ++ rest → ⊥
  none_second at place bytes a mid ok split fa mid_bytes err x e more rest fits field within same =
      let f = v.front mid place mid_bytes err in
      let n : ℕ = length (s1 a) in
      let d : place - at.place ≡ n + f.taken = omega (arith, f.place_is, mid_place at a mid ok split) in
      let long : place - at.place ≤ e = elim field [
        | inl g ↦ u.ahead x.0 _ e g
        | inr g ↦ omega (arith, v.ahead x.1 _ _ g.1.1, g.0, g.1.0)
      ] in
      let size : length (take e at.left) ≡ e = omega (arith, length_taken e at.left within) in
      let cut : take e at.left ++ rest ≡ s1 a ++ (take (e - n) mid.left ++ rest) =
      ap (λ (l : List ℕ). take e l ++ rest) split ∙ ap (λ (k : ℕ). take k (s1 a ++ mid.left) ++ rest) (let q : e ≡ n + (e - n) = omega (arith, d, long) in q)
      ∙ ap (λ (l : List ℕ). l ++ rest) (take-behind (s1 a) mid.left (e - n)) ∙ append_assoc (s1 a) (take (e - n) mid.left) rest in
      let one = one_reading first s1 f1 p x.0 a (s2 x.1 ++ more) (take (e - n) mid.left ++ rest) fits.0 fa (sym (append_assoc (s1 x.0) (s2 x.1) more) ∙ same ∙ cut) in
      let len : length (s1 x.0) ≡ n = ap (λ (y : A). length (s1 y)) one.0 in
      elim field [
        | inl g ↦ absurd (omega (arith, inside x.0 _ e fits.0 g, d, len))
        | inr g ↦
            let from : place - at.place - length (s1 x.0) ≡ place - mid.place = omega (arith, f.place_is, mid_place at a mid ok split, d, len) in
            let to : e - length (s1 x.0) ≡ e - n = omega (arith, len) in
            v.none mid place mid_bytes err x.1 (e - n) more rest fits.1 (subst (λ (k : ℕ). field2 x.1 (place - mid.place) k) to (subst (λ (k : ℕ). field2 x.1 k (e - length (s1 x.0))) from g.1.1))
            (omega (arith, within, ap length split, length-append (s1 a) mid.left)) one.1
      ]
    where
      length_taken : (k : ℕ) (l : List ℕ) → k ≤ length l → length (take k l) ≡ k
      length_taken zero l h = refl
      length_taken (suc k) [] h = absurd (omega arith)
      length_taken (suc k) (y ∷ l) h = ap suc (length_taken k l (omega arith))

  pub then_fails : Fails (then_at first second) (λ x. s1 x.0 ++ s2 x.1) (λ x. f1 x.0 × f2 x.1) (then_field s1 field1 field2) (λ (x : A × C). s1 x.0 ++ show x.1) (λ x. f1 x.0 × good x.1)
  then_fails = record {
    some = (u.some, v.some);
    some_good = (u.some_good, v.some_good);
    ahead = λ x p e f. elim f [
      | inl g ↦ u.ahead x.0 p e g
      | inr g ↦ omega (arith, v.ahead x.1 _ _ g.1.1, g.0, g.1.0)
    ];
    moves = λ at x after ok.
        let a = bind_ok (first at) both (x, after) ok in
        let b = bind_ok (second a.0.1) (pair a.0.0) (x, after) a.2 in
        let made : (A × B) × At = ((a.0.0, b.0.0), b.0.1) in
        let last : b.0.1 ≡ after = ap (λ (z : (A × B) × At). z.1) (ok_is made (x, after) b.2) in
        let one = u.moves at a.0.0 a.0.1 a.1 in
        let two = v.moves a.0.1 b.0.0 b.0.1 b.1 in
        subst (λ (z : At). z.place + length z.left ≡ at.place + length at.left) last (two ∙ one);
    front = λ at place bytes err. elim (bind_err (first at) both place err) [
      | inl h ↦ front_first at place (u.front at place bytes h)
      | inr h ↦
          let t = p.takes at h.0.0 h.0.1 bytes h.1 in
          front_second at place h.0.0 h.0.1 h.1 t.0.parts t.1 (v.front h.0.1 place t.0.rest_fits (both_err h.0 place h.2))
    ];
    none = λ at place bytes err x e more rest fits field within same. elim (bind_err (first at) both place err) [
      | inl h ↦ none_first at place bytes h x e more rest fits field within same
      | inr h ↦
          let t = p.takes at h.0.0 h.0.1 bytes h.1 in
          none_second at place bytes h.0.0 h.0.1 h.1 t.0.parts t.1 t.0.rest_fits (both_err h.0 place h.2) x e more rest fits field within same
    ];
  }

-- a value that is one field
abbrev pub whole_field : {A : Type 0} → (A → List ℕ) → A → ℕ → ℕ → Type 0
whole_field spell x p e = (p ≡ 0) × (e ≡ length (spell x))

pub field_fails : {A : Type 0} (read : At → Result (A × At) ℕ) (spell : A → List ℕ) (fits : A → Type 0) → Spells read spell fits → (x : A) → fits x
    → ((at : At) (place : ℕ) → read at ≡ Err place → place ≡ at.place)
    → ((at : At) (x : A) (after : At) → read at ≡ Ok (x, after) → after.place + length after.left ≡ at.place + length at.left)
    → Fails read spell fits (whole_field spell) spell fits
field_fails {A} read spell fits p some good here moves = record {
  some = some;
  some_good = good;
  ahead = λ x p e f. omega (arith, f.0);
  moves = moves;
  front = λ at place bytes err. record {
    taken = 0;
    place_is = omega (arith, here at place err);
    within = omega arith;
    whole = some;
    is = good;
    rest = spell some;
    bytes = refl;
  };
  none = λ at place bytes err x e more rest fx f within same.
      let h = agrees (spell x) more at.left rest e (omega (arith, f.1)) within same in
      let g = p.again at x h.behind fx h.whole in
      not_both (read at) place (x, g.after) err g.is;
}

-- the same seen by f
pub as_fails : {A B C : Type 0} (f : A → B) (g : B → A) (read : At → Result (A × At) ℕ) (spell : A → List ℕ) (spell2 : B → List ℕ) (fits : A → Type 0) (fits2 : B → Type 0)
    (field : A → ℕ → ℕ → Type 0) (show : C → List ℕ) (good : C → Type 0)
    → ((y : B) → fits2 y → fits (g y) × (spell (g y) ≡ spell2 y)) → Fails read spell fits field show good
    → Fails (as_at f read) spell2 fits2 (λ y. field (g y)) show good
as_fails {A} {B} f g read spell spell2 fits fits2 field show good back u = record {
  some = u.some;
  some_good = u.some_good;
  ahead = λ y p e h. u.ahead (g y) p e h;
  moves = λ at y after ok.
      let a = bind_ok (read at) (λ x. Ok (f x.0, x.1)) (y, after) ok in
      let made : B × At = (f a.0.0, a.0.1) in
      subst (λ (z : At). z.place + length z.left ≡ at.place + length at.left) (ap (λ (z : B × At). z.1) (ok_is made (y, after) a.2)) (u.moves at a.0.0 a.0.1 a.1);
  front = λ at place bytes err. u.front at place bytes (read_err at place err);
  none = λ at place bytes err y e more rest fits field within same.
      let b = back y fits in
      u.none at place bytes (read_err at place err) (g y) e more rest b.0 field within (ap (λ (l : List ℕ). l ++ more) b.1 ∙ same);
}
  where
    read_err : (at : At) (place : ℕ) → as_at f read at ≡ Err place → read at ≡ Err place
    read_err at place err = elim (bind_err (read at) (λ x. Ok (f x.0, x.1)) place err) [
      | inl h ↦ h
      | inr h ↦ absurd cc
    ]
