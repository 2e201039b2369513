-- How many partitions each subscriber has.
use Rattle.std.proofs.Common.{◌≡◌, ℕ, zero, suc, ◌+◌, ◌*◌, ◌/◌, ◌%◌, ◌<◌, ◌≤◌, Bool, true, false, cond, eqb, ltb, List, ◌∷◌, length, refl, ap, ◌∙◌, arith, inl, inr}
use Rattle.std.specs.List.{filter, range_with_len}
use Rattle.std.proofs.lemmas.Bool.{cases_lt, cases_eq, le-leb, lt-leb, eq-eqb, ne_eqb}
use Rattle.std.proofs.lemmas.Bool.Decides.{nat_tests}
use Rattle.std.proofs.lemmas.Nat.{div-mul-add, mod-mul-add, mod_below, div-add-mod', le-div}
use Rattle.std.proofs.Math.Nat.{add-mul, one-mul, zero-mul}
use Rattle.share_members.specs.Assignments.{owns, share}

-- of so many partitions and so many subscribers
pub record IsShared (parts subscribers : ℕ) : Type 0 where
  pub owned : (partition : ℕ) → partition < parts → (number : ℕ) × (number < subscribers) × (owns parts subscribers number partition ≡ true)
  pub some : (number : ℕ) → number < subscribers → 1 ≤ length (share parts subscribers number)
  pub even : (number other : ℕ) → number < subscribers → other < subscribers
      → length (share parts subscribers number) ≤ length (share parts subscribers other) + 1
  pub one : parts < subscribers → (number : ℕ) → number < subscribers → length (share parts subscribers number) ≡ 1

-- ---- by remainders

-- of the numbers below m, how many leave the remainder i by n
abbrev below : ℕ → ℕ → ℕ → ℕ
below n i m = m / n + cond (ltb i (m % n)) 1 0

once_more : (q n : ℕ) → (q + 1) * n ≡ q * n + n
once_more q n = add-mul q 1 n ∙ ap (λ (x : ℕ). q * n + x) (one-mul n)

-- one number more
below_next : (n i m : ℕ) → i < n → below n i (m + 1) ≡ below n i m + cond (eqb (m % n) i) 1 0
below_next n i m lt =
    let q = m / n in
    let r = m % n in
    let whole : q * n + r ≡ m = div-add-mod' m n in
    let small : r < n = mod_below m n (omega arith) in
    elim (cases_lt (r + 1) n) [
      | inl goes_on ↦
          let next : m + 1 ≡ q * n + (r + 1) = omega arith in
          let quotient : (m + 1) / n ≡ q = ap (λ x. x / n) next ∙ div-mul-add q n (r + 1) goes_on in
          let rest : (m + 1) % n ≡ r + 1 = ap (λ x. x % n) next ∙ mod-mul-add q n (r + 1) goes_on in
          rw (quotient, rest) (same_step q i r)
      | inr turns ↦
          let next : m + 1 ≡ (q + 1) * n + 0 = omega (arith, once_more q n) in
          let quotient : (m + 1) / n ≡ q + 1 = ap (λ x. x / n) next ∙ div-mul-add (q + 1) n 0 (omega arith) in
          let rest : (m + 1) % n ≡ 0 = ap (λ x. x % n) next ∙ mod-mul-add (q + 1) n 0 (omega arith) in
          rw (quotient, rest) (turn q i r (omega arith))
    ]
  where
    same_step : (q i r : ℕ) → q + cond (ltb i (r + 1)) 1 0 ≡ (q + cond (ltb i r) 1 0) + cond (eqb r i) 1 0
    same_step q i r = grind (arith, nat_tests)

    turn : (q i r : ℕ) → i ≤ r → (q + 1) + cond (ltb i 0) 1 0 ≡ (q + cond (ltb i r) 1 0) + cond (eqb r i) 1 0
    turn q i r le = grind (arith, nat_tests)

abbrev leaves : ℕ → ℕ → ℕ → Bool
leaves n i j = eqb (j % n) i

long_cons : (b : Bool) (x : ℕ) (xs : List ℕ) → length (cond b (x ∷ xs) xs) ≡ length xs + cond b 1 0
long_cons true x xs = omega arith
long_cons false x xs = omega arith

-- of so many numbers from a on
from_a_on : (n i : ℕ) → i < n → (a count : ℕ) → length (filter (leaves n i) (range_with_len a count)) + below n i a ≡ below n i (a + count)
from_a_on n i lt a zero =
    let end : below n i a ≡ below n i (a + 0) = ap (below n i) (omega arith) in
    omega (arith, end)
from_a_on n i lt a (suc count) =
    let rest = from_a_on n i lt (a + 1) count in
    let here = long_cons (leaves n i a) a (filter (leaves n i) (range_with_len (a + 1) count)) in
    let next = below_next n i a lt in
    let end : below n i (a + 1 + count) ≡ below n i (a + suc count) = ap (below n i) (omega arith) in
    omega (arith, rest, here, next, end)

none_below_0 : (n i : ℕ) → i < n → below n i 0 ≡ 0
none_below_0 n i lt =
    let quotient : 0 / n ≡ 0 = ap (λ x. x / n) (zero_is n) ∙ div-mul-add 0 n 0 (omega arith) in
    let rest : 0 % n ≡ 0 = ap (λ x. x % n) (zero_is n) ∙ mod-mul-add 0 n 0 (omega arith) in
    rw (quotient, rest) (nothing i)
  where
    zero_is : (n : ℕ) → 0 ≡ 0 * n + 0
    zero_is n = omega (arith, zero-mul n)

    nothing : (i : ℕ) → 0 + cond (ltb i 0) 1 0 ≡ 0
    nothing i = grind (arith, nat_tests)

abbrev by_turns : ℕ → ℕ → ℕ → ℕ
by_turns parts n i = length (filter (leaves n i) (range_with_len 0 parts))

by_turns_is : (parts n i : ℕ) → i < n → by_turns parts n i ≡ below n i parts
by_turns_is parts n i lt = let e : below n i (0 + parts) ≡ below n i parts = ap (below n i) (omega arith) in
    omega (arith, from_a_on n i lt 0 parts, none_below_0 n i lt, e)

at_most_one : (b : Bool) → cond b 1 0 ≤ 1
at_most_one true = omega arith
at_most_one false = omega arith

-- ---- one number alone

abbrev is : ℕ → ℕ → Bool
is k j = eqb k j

none_before : (k a count : ℕ) → k < a → length (filter (is k) (range_with_len a count)) ≡ 0
none_before k a zero lt = refl
none_before k a (suc count) lt =
    let not_here : is k a ≡ false = ne_eqb k a (λ e. absurd (omega (arith, e))) in
    rw not_here (none_before k (a + 1) count (omega arith))

one_within : (k a count : ℕ) → a ≤ k → k < a + count → length (filter (is k) (range_with_len a count)) ≡ 1
one_within k a zero le lt = absurd (omega arith)
one_within k a (suc count) le lt =
    elim (cases_eq k a) [
      | inl here ↦
          let yes : is k a ≡ true = eq-eqb k a here in
          rw yes (omega (arith, none_before k (a + 1) count (omega arith)))
      | inr later ↦
          let no_one : is k a ≡ false = ne_eqb k a later in
          rw no_one (one_within k (a + 1) count (omega (arith, later)) (omega arith))
    ]

-- ---- shares

abbrev share_by : Bool → ℕ → ℕ → ℕ → List ℕ
share_by few parts n i = filter (λ j. cond few (leaves n i j) (is (i % parts) j)) (range_with_len 0 parts)

share_turns : (parts n i : ℕ) → n ≤ parts → length (share parts n i) ≡ by_turns parts n i
share_turns parts n i le = ap (λ b. length (share_by b parts n i)) (le-leb n parts le)

share_one : (parts n i : ℕ) → 1 ≤ parts → parts < n → length (share parts n i) ≡ 1
share_one parts n i some lt = ap (λ b. length (share_by b parts n i)) (lt-leb n parts lt)
    ∙ one_within (i % parts) 0 parts (omega arith) (omega (arith, mod_below i parts some))

at_least_one : (parts n i : ℕ) → 1 ≤ parts → i < n → 1 ≤ length (share parts n i)
at_least_one parts n i some lt =
    elim (cases_lt parts n) [
      | inl many ↦ omega (arith, share_one parts n i some many)
      | inr few ↦
          let once : 1 ≤ parts / n = le-div 1 parts n (omega arith) (omega (arith, one-mul n)) in
          omega (arith, share_turns parts n i few, by_turns_is parts n i lt, once)
    ]

even : (parts n i k : ℕ) → 1 ≤ parts → i < n → k < n → length (share parts n i) ≤ length (share parts n k) + 1
even parts n i k some lt other =
    elim (cases_lt parts n) [
      | inl many ↦ omega (arith, share_one parts n i some many, share_one parts n k some many)
      | inr few ↦
          omega (
            arith,
            share_turns parts n i few,
            share_turns parts n k few,
            by_turns_is parts n i lt,
            by_turns_is parts n k other,
            at_most_one (ltb i (parts % n)),
            at_most_one (ltb k (parts % n)),
          )
    ]

mod_small : (j parts : ℕ) → j < parts → j % parts ≡ j
mod_small j parts lt =
    let e : j ≡ 0 * parts + j = omega (arith, zero-mul parts) in
    ap (λ x. x % parts) e ∙ mod-mul-add 0 parts j lt

owned : (parts n j : ℕ) → 1 ≤ n → j < parts → (i : ℕ) × (i < n) × (owns parts n i j ≡ true)
owned parts n j some lt =
    elim (cases_lt parts n) [
      | inl many ↦ (j, omega arith, ap (λ b. cond b (leaves n j j) (is (j % parts) j)) (lt-leb n parts many) ∙ eq-eqb (j % parts) j (mod_small j parts lt))
      | inr few ↦ (j % n, mod_below j n some, ap (λ b. cond b (leaves n (j % n) j) (is ((j % n) % parts) j)) (le-leb n parts few) ∙ eq-eqb (j % n) (j % n) refl)
    ]

pub shared : (parts subscribers : ℕ) → 1 ≤ parts → 1 ≤ subscribers → IsShared parts subscribers
shared parts n some any = record {
  owned = λ j lt. owned parts n j any lt;
  some = λ i lt. at_least_one parts n i some lt;
  even = λ i k lt other. even parts n i k some lt other;
  one = λ many i lt. share_one parts n i some many;
}
