-- The numbers of a topic's subscribers.
use Rattle.std.proofs.Common.{◌≡◌, ℕ, zero, suc, ◌+◌, ◌<◌, ◌≤◌, Bool, true, false, cond, ◌&&◌, List, [], ◌∷◌, length, get_or, refl, sym, ap, ◌∙◌, subst, arith}
use Rattle.std.specs.Cmp.Lexicographic.{nat_list_cmp_total}
use Rattle.std.specs.List.{AllByRecursion, Contains, count_by}
use Rattle.std.specs.List.Sorted.{IsStrictlySortedBy}
use Rattle.std.specs.Map.{keys_of}
use Rattle.std.specs.Ordering.{is_lt}
use Rattle.std.specs.declared.cmp.Ordering.{Ordering}
use Rattle.std.specs.declared.cmp.Ordering.TheVariants.{Less, Equal}
use Rattle.std.proofs.lemmas.List.Sums.{sum_by-cons}
use Rattle.share_members.specs.declared.member.Member.{Member}
use Rattle.share_members.specs.Groups.{Members, id_cmp}
use Rattle.share_members.specs.Assignments.{subscribes, subscribers, number}
use Rattle.share_members.proofs.Maps.{none_in_front, before_at, itself}

-- the numbers of a topic's subscribers are those below how many they are, and each is that of one
pub record AreNumbered (place : ℕ) (members : Members) : Type 0 where
  pub below : (member : List ℕ × Member) → Contains members member → subscribes place member ≡ true → number place member.0 members < subscribers place members
  pub each : (n : ℕ) → n < subscribers place members
      → (member : List ℕ × Member) × Contains members member × (subscribes place member ≡ true) × (number place member.0 members ≡ n)

module _ (p : List ℕ × Member → Bool) where
  abbrev before : List ℕ → Members → ℕ
  before id members = count_by (λ member. is_lt (id_cmp member.0 id) && p member) members

  before_cons : (id : List ℕ) (e : List ℕ × Member) (es : Members) (o : Ordering) → id_cmp e.0 id ≡ o
      → before id (e ∷ es) ≡ cond (is_lt o && p e) 1 0 + before id es
  before_cons id e es o is = before_at id_cmp nat_list_cmp_total p id e es o is

  count_cons : (e : List ℕ × Member) (es : Members) → count_by p (e ∷ es) ≡ cond (p e) 1 0 + count_by p es
  count_cons e es = sum_by-cons _ e es

  part : (b c : Bool) → cond (b && c) 1 0 ≤ cond c 1 0
  part true c = omega arith
  part false true = omega arith
  part false false = omega arith

  before_le : (id : List ℕ) (es : Members) → before id es ≤ count_by p es
  before_le id [] = omega arith
  before_le id (e ∷ es) =
      omega (arith, before_cons id e es (id_cmp e.0 id) refl, count_cons e es, part (is_lt (id_cmp e.0 id)) (p e), before_le id es)

  -- one that is there isn't before itself
  below : (es : Members) (k : ℕ) (member : List ℕ × Member) → k < length es → get_or es k member ≡ member → p member ≡ true
      → before member.0 es < count_by p es
  below [] k member lt at passes = absurd (omega arith)
  below (e ∷ es) zero member lt at passes =
      let one : cond {A = ℕ} (p e) 1 0 ≡ 1 = ap (λ m. cond (p m) 1 0) at ∙ ap (λ b. cond b 1 0) passes in
      let same : id_cmp e.0 member.0 ≡ Equal = ap (λ m. id_cmp m.0 member.0) at ∙ itself id_cmp nat_list_cmp_total member.0 in
      omega (arith, before_cons member.0 e es Equal same, count_cons e es, one, before_le member.0 es)
  below (e ∷ es) (suc k) member lt at passes =
      omega (
        arith,
        before_cons member.0 e es (id_cmp e.0 member.0) refl,
        count_cons e es,
        part (is_lt (id_cmp e.0 member.0)) (p e),
        below es k member (omega arith) at passes,
      )

  -- the first key is below that of each later entry
  first_below : (id : List ℕ) (es : Members) (k : ℕ) (member : List ℕ × Member) → AllByRecursion (λ y. id_cmp id y ≡ Less) (keys_of es)
      → k < length es → get_or es k member ≡ member → id_cmp id member.0 ≡ Less
  first_below id [] k member above lt at = absurd (omega arith)
  first_below id (e ∷ es) zero member above lt at = ap (λ m. id_cmp id m.0) (sym at) ∙ above.0
  first_below id (e ∷ es) (suc k) member above lt at = first_below id es k member above.1 (omega arith) at

  abbrev Found : ℕ → Members → Type 0
  Found n es = (member : List ℕ × Member) × Contains es member × (p member ≡ true) × (before member.0 es ≡ n)

  -- one that is found among the others
  later : (e : List ℕ × Member) (es : Members) (n : ℕ) → AllByRecursion (λ y. id_cmp e.0 y ≡ Less) (keys_of es)
      → Found n es → Found (cond (p e) 1 0 + n) (e ∷ es)
  later e es n above f =
      let at = f.1 in
      let less : id_cmp e.0 f.0.0 ≡ Less = first_below e.0 es at.0 f.0 above at.1 at.2 in
      (f.0, (suc at.0, omega (arith, at.1), at.2), f.2, before_cons f.0.0 e es Less less ∙ ap (λ m. cond (p e) 1 0 + m) f.3)

  each : (es : Members) (n : ℕ) → IsStrictlySortedBy id_cmp (keys_of es) → n < count_by p es → Found n es
  unfolding IsStrictlySortedBy
  each [] n sorted lt = absurd (omega arith)
  each (e ∷ es) n sorted lt = go (λ m l. each es m sorted.1 l) (p e) refl n lt where
    go : ((m : ℕ) → m < count_by p es → Found m es) → (b : Bool) → p e ≡ b → (n : ℕ) → n < count_by p (e ∷ es) → Found n (e ∷ es)
    go rest_each false is n lt =
        let none : cond {A = ℕ} (p e) 1 0 ≡ 0 = ap (λ b. cond b 1 0) is in
        let rest = later e es n sorted.0 (rest_each n (omega (arith, count_cons e es, none))) in
        subst (λ m. Found m (e ∷ es)) (omega (arith, none)) rest
    go rest_each true is zero lt =
        let first : before e.0 (e ∷ es) ≡ 0 = omega (
          arith,
          before_cons e.0 e es Equal (itself id_cmp nat_list_cmp_total e.0),
          none_in_front id_cmp nat_list_cmp_total p e.0 es sorted.0,
        ) in
        (e, (0, omega arith, refl), is, first)
    go rest_each true is (suc n) lt =
        let one : cond {A = ℕ} (p e) 1 0 ≡ 1 = ap (λ b. cond b 1 0) is in
        let rest = later e es n sorted.0 (rest_each n (omega (arith, count_cons e es, one))) in
        subst (λ m. Found m (e ∷ es)) (omega (arith, one)) rest

pub numbered : (place : ℕ) (members : Members) → IsStrictlySortedBy id_cmp (keys_of members) → AreNumbered place members
numbered place members sorted = record {
  below = λ member there passes. below (subscribes place) members there.0 member there.1 there.2 passes;
  each = λ n lt. each (subscribes place) members n sorted lt;
}
