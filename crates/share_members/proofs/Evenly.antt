-- The shares of a topic's subscribers.
use Rattle.std.proofs.Common.{◌≡◌, ℕ, zero, suc, ◌+◌, ◌<◌, ◌≤◌, Bool, true, false, cond, List, ◌∷◌, refl, ap, ◌∙◌, subst, arith, inl, inr}
use Rattle.std.proofs.lemmas.Bool.{cases_eq}
use Rattle.std.specs.List.{Contains, filter, range_with_len}
use Rattle.std.specs.List.Sorted.{IsStrictlySortedBy}
use Rattle.std.specs.Map.{keys_of}
use Rattle.share_members.specs.Groups.{Members, id_cmp}
use Rattle.share_members.specs.Assignments.{owns, subscribers, number}
use Rattle.share_members.specs.Shares.{IsSharedEvenly}
use Rattle.share_members.proofs.Shared.{shared}
use Rattle.share_members.proofs.Numbered.{numbered}

-- a number that passes is among those that pass
here : (x : ℕ) (xs : List ℕ) → Contains (x ∷ xs) x
here x xs = (0, omega arith, refl)

there : (x y : ℕ) (xs : List ℕ) → Contains xs y → Contains (x ∷ xs) y
there x y xs c = (suc c.0, omega (arith, c.1), c.2)

passes : (p : ℕ → Bool) (a count n : ℕ) → a ≤ n → n < a + count → p n ≡ true → Contains (filter p (range_with_len a count)) n
passes p a zero n from below is = absurd (omega arith)
passes p a (suc count) n from below is = elim (cases_eq a n) [
  | inl same ↦ rw (ap p same ∙ is) (subst (λ m. Contains (a ∷ filter p (range_with_len (a + 1) count)) m) same (here a (filter p (range_with_len (a + 1) count))))
  | inr differ ↦ later (p a) a n (filter p (range_with_len (a + 1) count)) (passes p (a + 1) count n (omega (arith, differ)) (omega arith) is)
]
  where
    later : (b : Bool) (x y : ℕ) (xs : List ℕ) → Contains xs y → Contains (cond b (x ∷ xs) xs) y
    later true x y xs c = there x y xs c
    later false x y xs c = c

pub evenly : (place parts : ℕ) (members : Members) → 1 ≤ parts → IsStrictlySortedBy id_cmp (keys_of members) → IsSharedEvenly place parts members
evenly place parts members some sorted =
    let count = subscribers place members in
    let numbers = numbered place members sorted in
    record {
      owned = λ any partition lt.
          let shares = shared parts count some any in
          let owner = shares.owned partition lt in
          let member = numbers.each owner.0 owner.1 in
          let has : owns parts count (number place member.0.0 members) partition ≡ true = ap (λ n. owns parts count n partition) member.3 ∙ owner.2 in
          (member.0, record { there = member.1; subscribed = member.2 }, passes (owns parts count (number place member.0.0 members)) 0 parts partition (omega arith) (omega arith) has);
      some = λ member m.
          let first = numbers.below member m.there m.subscribed in
          (shared parts count some (omega arith)).some (number place member.0 members) first;
      even = λ member other m o.
          let first = numbers.below member m.there m.subscribed in
          let second = numbers.below other o.there o.subscribed in
          (shared parts count some (omega arith)).even (number place member.0 members) (number place other.0 members) first second;
      one = λ many member m.
          let first = numbers.below member m.there m.subscribed in
          (shared parts count some (omega arith)).one many (number place member.0 members) first;
    }
