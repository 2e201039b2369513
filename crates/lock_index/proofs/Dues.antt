-- The least first offset of the pairs that have ended.
use Rattle.std.proofs.Common.{◌≡◌, ℕ, ◌<◌, ◌≤◌, true, false, cond, List, [], ◌∷◌, Some, None, refl, ap, ◌∙◌, sym, subst, arith, inl, inr}
use Rattle.std.proofs.lemmas.Bool.{cases_lt}
use Rattle.std.proofs.lemmas.Bool.Decides.{nat_tests}
use Rattle.std.specs.Prelude.{◌⊎◌, nat_lt, min}
use Rattle.lock_index.specs.Locks.{AreBehind, IsOrdered, HasPair, IsLeastFirst}
use Rattle.lock_index.specs.Places.{least_due}
use Rattle.lock_index.proofs.Ordering.{behind_has, ends_rise}

lt_yes : (m n : ℕ) → nat_lt m n ≡ true → m < n
lt_yes m n e = grind (arith, nat_tests)

lt_no : (m n : ℕ) → nat_lt m n ≡ false → n ≤ m
lt_no m n e = grind (arith, nat_tests)

-- none of the pairs from one on that ends later has ended
later : (p : ℕ × ℕ) (ps : List (ℕ × ℕ)) (now : ℕ) → AreBehind p ps → now < p.0 → (q : ℕ × ℕ) → HasPair (p ∷ ps) q → now < q.0
later p ps now behind late q has = elim has [
  | inl same ↦ subst (λ (x : ℕ × ℕ). now < x.0) same late
  | inr deep ↦ omega (arith, late, ends_rise p q (behind_has p q ps behind deep))
]

record IsLeastFrom (now least : ℕ) (ps : List (ℕ × ℕ)) (found : ℕ) : Type 0 where
  pub upto : found ≤ least
  pub whose : (found ≡ least) ⊎ ((end : ℕ) × HasPair ps (end, found) × (end ≤ now))
  pub under : (q : ℕ × ℕ) → HasPair ps q → q.0 ≤ now → found ≤ q.1

min_is : (m n : ℕ) → (min m n ≡ m) ⊎ (min m n ≡ n)
min_is m n = elim (cases_lt m n) [
  | inl less ↦ inl (omega arith)
  | inr more ↦ inr (omega arith)
]

step : (now least found : ℕ) (p : ℕ × ℕ) (ps : List (ℕ × ℕ)) → p.0 ≤ now → IsLeastFrom now (min least p.1) ps found → IsLeastFrom now least (p ∷ ps) found
step now least found p ps ended rest = record {
  upto = omega (arith, rest.upto);
  whose = elim rest.whose [
    | inl same ↦ elim (min_is least p.1) [
      | inl first ↦ inl (same ∙ first)
      | inr second ↦ let is : p.1 ≡ found = sym (same ∙ second) in inr (p.0, inl (λ i. (p.0, is i)), ended)
    ]
    | inr there ↦ inr (there.0, inr there.1, there.2)
  ];
  under = λ q has due. elim has [
    | inl same ↦ omega (arith, rest.upto, ap (λ (x : ℕ × ℕ). x.1) same)
    | inr deep ↦ rest.under q deep due
  ];
}

from_least : (now least : ℕ) (low : ℕ × ℕ) (ps : List (ℕ × ℕ)) → AreBehind low ps → (found : ℕ) × (least_due now (Some least) ps ≡ Some found) × IsLeastFrom now least ps found
from_least now least low [] behind = (least, refl, record { upto = omega arith; whose = inl refl; under = λ q has due. absurd has })
from_least now least low (p ∷ ps) behind =
    elim (nat_lt now p.0) as (λ b. nat_lt now p.0 ≡ b
    → (found : ℕ) × (cond b (Some least) (least_due now (Some (min least p.1)) ps) ≡ Some found) × IsLeastFrom now least (p ∷ ps) found) [
      | true ↦ λ test. (
        least,
        refl,
        record {
          upto = omega arith;
          whose = inl refl;
          under = λ q has due. absurd (omega (arith, due, later p ps now behind.1 (lt_yes now p.0 test) q has));
        },
      )
      | false ↦ λ test.
          let rest = from_least now (min least p.1) p ps behind.1 in
          (rest.0, rest.1, step now least rest.0 p ps (lt_no now p.0 test) rest.2)
    ] refl

first_least : (now found : ℕ) (p : ℕ × ℕ) (ps : List (ℕ × ℕ)) → p.0 ≤ now → IsLeastFrom now p.1 ps found → IsLeastFirst (p ∷ ps) now (Some found)
first_least now found p ps ended rest = (
  elim rest.whose [
    | inl same ↦ let is : p.1 ≡ found = sym same in (p.0, inl (λ i. (p.0, is i)), ended)
    | inr there ↦ (there.0, inr there.1, there.2)
  ],
  λ q has due. elim has [
    | inl same ↦ omega (arith, rest.upto, ap (λ (x : ℕ × ℕ). x.1) same)
    | inr deep ↦ rest.under q deep due
  ],
)

pub least_first : (now : ℕ) (ps : List (ℕ × ℕ)) → IsOrdered ps → IsLeastFirst ps now (least_due now None ps)
least_first now [] ordered = λ q has. absurd has
least_first now (p ∷ ps) ordered =
    elim (nat_lt now p.0) as (λ b. nat_lt now p.0 ≡ b → IsLeastFirst (p ∷ ps) now (cond b None (least_due now (Some p.1) ps))) [
      | true ↦ λ test. later p ps now ordered (lt_yes now p.0 test)
      | false ↦ λ test.
          let rest = from_least now p.1 p ps ordered in
          subst (IsLeastFirst (p ∷ ps) now) (sym rest.1) (first_least now rest.0 p ps (lt_no now p.0 test) rest.2)
    ] refl
