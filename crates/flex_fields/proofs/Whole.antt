-- Reading all of the bytes finds just what they stand for.
use Rattle.std.proofs.Common.{◌≡◌, ◌≤◌, ◌+◌, ℕ, List, [], ◌++◌, length, take, length-append, arith, eqb, cond, Result, Ok, Err, refl, sym}
use Rattle.std.proofs.Common.{ap, subst, ◌∙◌}
use Rattle.std.specs.Prelude.{IfOk}
use Rattle.std.proofs.lemmas.Bool.{eqb-true}
use Rattle.std.proofs.lemmas.List.{append-nil, nil_from_length, take_at}
use Rattle.flex_fields.specs.declared.fault.WireFault.{WireFault}
use Rattle.flex_fields.specs.declared.fault.WireFault.TheVariants.{Trailing}
use Rattle.flex_fields.specs.Reading.{whole_at}
use Rattle.flex_fields.specs.Grammar.{IsBytes}
use Rattle.flex_fields.specs.Cursors.{Gives}
use Rattle.flex_fields.specs.Formats.{Format, ReadsWhole, ReadsFront, front_at}
use Rattle.flex_fields.specs.Sound.Fields.{bind_ok, ok_is}
use Rattle.flex_fields.specs.Sound.Counted.{kept}

module _ {A : Type 0} (f : Format A) where
  whole_takes : (all : List ℕ) (x : A) → IsBytes all → whole_at f.read all ≡ Ok x → f.is all x
  whole_takes all x fits e =
      let m = bind_ok (f.read (record { place = 0; left = all })) (λ a. cond (eqb (length a.1.left) 0) (Ok a.0) (Err (Trailing a.1.place))) x e in
      let g = kept (eqb (length m.0.1.left) 0) (Trailing m.0.1.place) m.0.0 x m.2 in
      let t = f.sound.takes (record { place = 0; left = all }) m.0.0 m.0.1 fits m.1 in
      let nothing : m.0.1.left ≡ [] = nil_from_length m.0.1.left (eqb-true _ _ g.0) in
      let same : all ≡ t.front = t.parts ∙ ap (λ (l : List ℕ). t.front ++ l) nothing ∙ append-nil t.front in
      subst (λ (y : A). f.is all y) g.1 (subst (λ (l : List ℕ). f.is l m.0.0) (sym same) t.spelled)

  pub whole_gives : (all : List ℕ) (x : A) → f.is all x → whole_at f.read all ≡ Ok x
  whole_gives all x c =
      let e = f.sound.gives all [] 0 x c in
      ap (λ (l : List ℕ). whole_at f.read l) (sym (append-nil all)) ∙ rw e refl

  -- bytes stand for one value at most
  pub one_value : (all : List ℕ) (x y : A) → f.is all x → f.is all y → x ≡ y
  one_value all x y c d = ok_is x y (sym (whole_gives all x c) ∙ whole_gives all y d)

  found_by : (all : List ℕ) (result : Result A WireFault) → IsBytes all → Gives (λ x. x) result (whole_at f.read all) → IfOk result (λ x. f.is all x)
  found_by all (Ok x) fits given = whole_takes all x fits given
  found_by all (Err e) fits given = tt

  -- what was read stands there, and what stands there was read
  pub reads_whole : (all : List ℕ) (result : Result A WireFault) → IsBytes all → Gives (λ x. x) result (whole_at f.read all) → ReadsWhole f all result
  reads_whole all result fits given = record {
    found = found_by all result fits given;
    only = λ x c. subst (λ (s : Result A WireFault). Gives (λ x. x) result s) (whole_gives all x c) given;
    exact = given;
  }

  -- ---- the front alone

  front_takes : (all : List ℕ) (x : A) (n : ℕ) → IsBytes all → front_at f.read all ≡ Ok (x, n) → f.is (take n all) x × (n ≤ length all)
  front_takes all x n fits e =
      let m = bind_ok (f.read (record { place = 0; left = all })) (λ a. Ok (a.0, a.1.place)) (x, n) e in
      let t = f.sound.takes (record { place = 0; left = all }) m.0.0 m.0.1 fits m.1 in
      let moved : m.0.1.place ≡ length t.front = omega (arith, t.moved) in
      let same : take m.0.1.place all ≡ t.front =
      ap (λ (l : List ℕ). take m.0.1.place l) t.parts ∙ take_at t.front m.0.1.left m.0.1.place (sym moved) in
      subst (λ (y : A × ℕ). f.is (take y.1 all) y.0 × (y.1 ≤ length all)) (ok_is (m.0.0, m.0.1.place) (x, n) m.2)
      (subst (λ (l : List ℕ). f.is l m.0.0) (sym same) t.spelled, omega (arith, moved, ap length t.parts, length-append t.front m.0.1.left))

  front_gives : (all front rest : List ℕ) (x : A) → all ≡ front ++ rest → f.is front x → front_at f.read all ≡ Ok (x, length front)
  front_gives all front rest x parts c =
      let e = f.sound.gives front rest 0 x c in
      let len : 0 + length front ≡ length front = omega arith in
      ap (λ (l : List ℕ). front_at f.read l) parts ∙ rw e (λ i. Ok (x, len i))

  front_found : (all : List ℕ) (result : Result (A × ℕ) WireFault) → IsBytes all → Gives (λ y. y) result (front_at f.read all)
      → IfOk result (λ x. f.is (take x.1 all) x.0 × (x.1 ≤ length all))
  front_found all (Ok x) fits given = front_takes all x.0 x.1 fits given
  front_found all (Err e) fits given = tt

  pub reads_front : (all : List ℕ) (result : Result (A × ℕ) WireFault) → IsBytes all → Gives (λ y. y) result (front_at f.read all)
      → ReadsFront f all result
  reads_front all result fits given = record {
    found = front_found all result fits given;
    only = λ x front rest parts c. subst (λ (s : Result (A × ℕ) WireFault). Gives (λ y. y) result s) (front_gives all front rest x parts c) given;
    exact = given;
  }
