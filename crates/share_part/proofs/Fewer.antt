-- How many records are held from an offset on.
use Rattle.std.proofs.Common.{◌≡◌, refl, ap, arith, cond, ℕ, ◌+◌, ◌*◌, ◌<◌, ◌≤◌, List, [], ◌∷◌, length, Option, Some, None, Bool, true, false}
use Rattle.std.proofs.lemmas.Bool.Decides.{nat_tests}
use Rattle.std.proofs.lemmas.List.Sums.{count_by-le-length, sum_by-cons}
use Rattle.std.proofs.lemmas.Map.Lookups.{exact_unsigned}
use Rattle.std.specs.Prelude.{nat_le}
use Rattle.std.specs.BTreeMap.{is_at}
use Rattle.std.specs.Cmp.{nat_cmp_total}
use Rattle.std.specs.Ordering.{nat_cmp}
use Rattle.share_model.specs.Held.{Held, hold_at}
use Rattle.share_model.specs.declared.hold.Hold.{Hold}
use Rattle.share_part.specs.Acting.{HasSpareFrom, IsHeldWith, held_from}
use Rattle.share_part.proofs.Mapping.{at_is}

from_cons : (from : ℕ) (e : ℕ × Hold) (held : Held) → held_from from (e ∷ held) ≡ cond (nat_le from e.0) 1 0 + held_from from held
from_cons from e held = sum_by-cons _ e held

test_later : (from later o : ℕ) → from ≤ later → cond {A = ℕ} (nat_le later o) 1 0 ≤ cond {A = ℕ} (nat_le from o) 1 0
test_later from later o le = by_tests (nat_le from o) (nat_le later o) refl refl
  where
    by_tests : (a b : Bool) → nat_le from o ≡ a → nat_le later o ≡ b → cond {A = ℕ} b 1 0 ≤ cond {A = ℕ} a 1 0
    by_tests true true is at = omega arith
    by_tests true false is at = omega arith
    by_tests false false is at = omega arith
    by_tests false true is at =
        let up : later ≤ o = grind (arith, nat_tests) in
        let yes : nat_le from o ≡ true = grind (arith, nat_tests) in
        absurd (let clash : ⊥ = cc in clash)

one_from : (from o : ℕ) → from ≤ o → cond {A = ℕ} (nat_le from o) 1 0 ≡ 1
one_from from o le =
    let test : nat_le from o ≡ true = grind (arith, nat_tests) in
    ap (λ (b : Bool). cond {A = ℕ} b 1 0) test

none_from : (from o : ℕ) → o < from → cond {A = ℕ} (nat_le from o) 1 0 ≡ 0
none_from from o lt =
    let test : nat_le from o ≡ false = grind (arith, nat_tests) in
    ap (λ (b : Bool). cond {A = ℕ} b 1 0) test

pub held_later : (from later : ℕ) (held : Held) → from ≤ later → held_from later held ≤ held_from from held
held_later from later [] le = omega arith
held_later from later (e ∷ held) le =
    omega (arith, from_cons from e held, from_cons later e held, test_later from later e.0 le, held_later from later held le)

-- of these there are fewer behind one that is held
pub held_less : (from o later : ℕ) (held : Held) (hold : Hold) → from ≤ o → o < later → hold_at held o ≡ Some hold → held_from later held + 1 ≤ held_from from held
held_less from o later [] hold le lt at = absurd (let clash : ⊥ = cc in clash)
held_less from o later (e ∷ held) hold le lt at = by_test (is_at (nat_cmp o) e.0) refl at (held_less from o later held hold le lt)
  where
    by_test : (b : Bool) → is_at (nat_cmp o) e.0 ≡ b → cond b (Some e.1) (hold_at held o) ≡ Some hold
        → (hold_at held o ≡ Some hold → held_from later held + 1 ≤ held_from from held) → held_from later (e ∷ held) + 1 ≤ held_from from (e ∷ held)
    by_test true is found ih =
        let same : o ≡ e.0 = at_is nat_cmp nat_cmp_total exact_unsigned o e.0 is in
        omega (
          arith,
          from_cons from e held,
          from_cons later e held,
          one_from from e.0 (omega (arith, le, same)),
          none_from later e.0 (omega (arith, lt, same)),
          held_later from later held (omega (arith, le, lt)),
        )
    by_test false is found ih =
        omega (arith, from_cons from e held, from_cons later e held, test_later from later e.0 (omega (arith, le, lt)), ih found)

pub held_all : (held : Held) (spare : ℕ) → 2 * length held ≤ spare → HasSpareFrom held 0 spare
held_all held spare enough = omega (arith, enough, count_by-le-length (λ (e : ℕ × Hold). nat_le 0 e.0) held)

-- the hold of what a member holds
held_is : (member : List ℕ) (count : ℕ) (o : Option Hold) → IsHeldWith member count o → (hold : Hold) × (o ≡ Some hold)
held_is member count None h = absurd h
held_is member count (Some hold) h = (hold, refl)

pub held_with : (member : List ℕ) (count o later : ℕ) (held : Held) → IsHeldWith member count (hold_at held o) → o < later
    → held_from later held + 1 ≤ held_from o held
held_with member count o later held theirs lt =
    let its = held_is member count (hold_at held o) theirs in held_less o o later held its.0 (omega arith) lt its.1
