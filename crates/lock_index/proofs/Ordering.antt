-- Pairs of lock end and first offset in order: where a pair is put, and what is there.
use Rattle.std.proofs.Common.{◌≡◌, ℕ, zero, suc, ◌<◌, ◌≤◌, Bool, true, false, cond, List, [], ◌∷◌, length, get_or, refl, ap, ◌∙◌, sym, subst, arith, inl, inr}
use Rattle.std.proofs.lemmas.Bool.Decides.{nat_tests}
use Rattle.std.specs.List.{insert, remove}
use Rattle.std.specs.List.Sorted.{IsPartitionedBy}
use Rattle.lock_index.specs.Locks.{comes_before, AreBehind, IsOrdered, put_pair, HasPair}
use Rattle.lock_index.specs.Places.{before_count}

pub before_then : (p q r : ℕ × ℕ) → comes_before p q ≡ true → comes_before q r ≡ true → comes_before p r ≡ true
unfolding comes_before
before_then p q r a b = grind (arith, nat_tests)

pub never_itself : (p : ℕ × ℕ) → comes_before p p ≡ true → ⊥
unfolding comes_before
never_itself p a = grind (arith, nat_tests)

pub not_both : (p q : ℕ × ℕ) → comes_before p q ≡ true → comes_before q p ≡ false
unfolding comes_before
not_both p q a = grind (arith, nat_tests)

pub ends_rise : (p q : ℕ × ℕ) → comes_before p q ≡ true → p.0 ≤ q.0
unfolding comes_before
ends_rise p q a = grind (arith, nat_tests)

level_end : (p q : ℕ × ℕ) → comes_before p q ≡ false → comes_before q p ≡ false → p.0 ≡ q.0
unfolding comes_before
level_end p q a b = grind (arith, nat_tests)

level_first : (p q : ℕ × ℕ) → comes_before p q ≡ false → comes_before q p ≡ false → p.1 ≡ q.1
unfolding comes_before
level_first p q a b = grind (arith, nat_tests)

pub level : (p q : ℕ × ℕ) → comes_before p q ≡ false → comes_before q p ≡ false → p ≡ q
level p q a b = let e = level_end p q a b in let f = level_first p q a b in λ i. (e i, f i)

-- one of two pairs that differ comes first
pub comes_first : (p q : ℕ × ℕ) → (q ≡ p → ⊥) → comes_before q p ≡ false → comes_before p q ≡ true
comes_first p q differs later =
    elim (comes_before p q) as (λ b. comes_before p q ≡ b → comes_before p q ≡ true) [
      | true ↦ λ t. t
      | false ↦ λ t. absurd (differs (sym (level p q t later)))
    ] refl

-- ---- order

pub behind_lower : (low p : ℕ × ℕ) (ps : List (ℕ × ℕ)) → comes_before low p ≡ true → AreBehind p ps → AreBehind low ps
behind_lower low p [] le behind = tt
behind_lower low p (q ∷ qs) le behind = (before_then low p q le behind.0, behind.1)

behind_at : (low : ℕ × ℕ) (ps : List (ℕ × ℕ)) → AreBehind low ps → (j : ℕ) (d : ℕ × ℕ) → j < length ps → comes_before low (get_or ps j d) ≡ true
behind_at low [] behind j d within = absurd (omega arith)
behind_at low (q ∷ qs) behind zero d within = behind.0
behind_at low (q ∷ qs) behind (suc j) d within = before_then low q (get_or qs j d) behind.0 (behind_at q qs behind.1 j d (omega arith))

pub ordered_rest : (p : ℕ × ℕ) (ps : List (ℕ × ℕ)) → AreBehind p ps → IsOrdered ps
ordered_rest p [] behind = tt
ordered_rest p (q ∷ qs) behind = behind.1

pub parted : (ps : List (ℕ × ℕ)) (x : ℕ × ℕ) → IsOrdered ps → IsPartitionedBy (λ y. comes_before y x) ps
parted [] x ordered i j d le within is = absurd (omega arith)
parted (p ∷ ps) x ordered zero zero d le within is = is
parted (p ∷ ps) x ordered zero (suc j) d le within is = before_then p (get_or ps j d) x (behind_at p ps ordered j d (omega arith)) is
parted (p ∷ ps) x ordered (suc i) zero d le within is = absurd (omega arith)
parted (p ∷ ps) x ordered (suc i) (suc j) d le within is = parted ps x (ordered_rest p ps ordered) i j d (omega arith) (omega arith) is

-- a place up to which all come before a pair, and from which none does
pub counted : (x : ℕ × ℕ) (ps : List (ℕ × ℕ)) (i : ℕ) → i ≤ length ps → ((k : ℕ) (d : ℕ × ℕ) → 0 ≤ k → k < i → comes_before (get_or ps k d) x ≡ true)
    → ((k : ℕ) (d : ℕ × ℕ) → i ≤ k → k < length ps → comes_before (get_or ps k d) x ≡ false) → i ≡ before_count ps x
counted x [] i bound pass fail = omega arith
counted x (p ∷ ps) zero bound pass fail = ap (λ (b : Bool). cond b (suc (before_count ps x)) 0) (sym (fail 0 p (omega arith) (omega arith)))
counted x (p ∷ ps) (suc i) bound pass fail =
    ap suc (counted x ps i (omega arith) (λ k d lo hi. pass (suc k) d (omega arith) (omega arith)) (λ k d lo hi. fail (suc k) d (omega arith) (omega arith)))
    ∙ ap (λ (b : Bool). cond b (suc (before_count ps x)) 0) (sym (pass 0 p (omega arith) (omega arith)))

-- ---- a pair that is put in

pub put_at_count : (ps : List (ℕ × ℕ)) (x : ℕ × ℕ) → insert ps (before_count ps x) x ≡ put_pair x ps
put_at_count [] x = refl
put_at_count (p ∷ ps) x =
    elim (comes_before p x) as (λ b. insert (p ∷ ps) (cond b (suc (before_count ps x)) 0) x ≡ cond b (p ∷ put_pair x ps) (x ∷ p ∷ ps)) [
      | true ↦ ap (λ (l : List (ℕ × ℕ)). p ∷ l) (put_at_count ps x)
      | false ↦ refl
    ]

behind_put : (low x : ℕ × ℕ) (ps : List (ℕ × ℕ)) → comes_before low x ≡ true → AreBehind low ps → (HasPair ps x → ⊥) → AreBehind low (put_pair x ps)
behind_put low x [] le behind absent = (le, tt)
behind_put low x (p ∷ ps) le behind absent =
    elim (comes_before p x) as (λ b. comes_before p x ≡ b → AreBehind low (cond b (p ∷ put_pair x ps) (x ∷ p ∷ ps))) [
      | true ↦ λ test. (behind.0, behind_put p x ps test behind.1 (λ has. absent (inr has)))
      | false ↦ λ test. (le, (comes_first x p (λ same. absent (inl same)) test, behind.1))
    ] refl

pub ordered_put : (x : ℕ × ℕ) (ps : List (ℕ × ℕ)) → IsOrdered ps → (HasPair ps x → ⊥) → IsOrdered (put_pair x ps)
ordered_put x [] ordered absent = tt
ordered_put x (p ∷ ps) ordered absent =
    elim (comes_before p x) as (λ b. comes_before p x ≡ b → IsOrdered (cond b (p ∷ put_pair x ps) (x ∷ p ∷ ps))) [
      | true ↦ λ test. behind_put p x ps test ordered (λ has. absent (inr has))
      | false ↦ λ test. (comes_first x p (λ same. absent (inl same)) test, ordered)
    ] refl

-- ---- a pair that is taken away

pub behind_has : (low x : ℕ × ℕ) (ps : List (ℕ × ℕ)) → AreBehind low ps → HasPair ps x → comes_before low x ≡ true
behind_has low x [] behind has = absurd has
behind_has low x (p ∷ ps) behind has = elim has [
  | inl same ↦ subst (λ (q : ℕ × ℕ). comes_before low q ≡ true) same behind.0
  | inr deep ↦ before_then low p x behind.0 (behind_has p x ps behind.1 deep)
]

pub taken_within : (ps : List (ℕ × ℕ)) (x : ℕ × ℕ) → IsOrdered ps → HasPair ps x → before_count ps x < length ps
taken_within [] x ordered has = absurd has
taken_within (p ∷ ps) x ordered has =
    elim (comes_before p x) as (λ b. comes_before p x ≡ b → cond b (suc (before_count ps x)) 0 < suc (length ps)) [
      | true ↦ λ test. elim has [
        | inl same ↦ absurd (never_itself x (subst (λ (q : ℕ × ℕ). comes_before q x ≡ true) same test))
        | inr deep ↦ omega (arith, taken_within ps x (ordered_rest p ps ordered) deep)
      ]
      | false ↦ λ test. omega arith
    ] refl

put_first : (x : ℕ × ℕ) (ps : List (ℕ × ℕ)) → AreBehind x ps → put_pair x ps ≡ x ∷ ps
put_first x [] behind = refl
put_first x (p ∷ ps) behind = ap (λ (b : Bool). cond b (p ∷ put_pair x ps) (x ∷ p ∷ ps)) (not_both x p behind.0)

true_false : (b : Bool) → b ≡ true → b ≡ false → ⊥
true_false b t f = absurd (cc)

pub put_back : (ps : List (ℕ × ℕ)) (x : ℕ × ℕ) → IsOrdered ps → HasPair ps x → put_pair x (remove ps (before_count ps x)) ≡ ps
put_back [] x ordered has = absurd has
put_back (p ∷ ps) x ordered has =
    elim (comes_before p x) as (λ b. comes_before p x ≡ b → put_pair x (remove (p ∷ ps) (cond b (suc (before_count ps x)) 0)) ≡ p ∷ ps) [
      | true ↦ λ test. elim has [
        | inl same ↦ absurd (never_itself x (subst (λ (q : ℕ × ℕ). comes_before q x ≡ true) same test))
        | inr deep ↦
            ap (λ (b : Bool). cond b (p ∷ put_pair x (remove ps (before_count ps x))) (x ∷ p ∷ remove ps (before_count ps x))) test
            ∙ ap (λ (l : List (ℕ × ℕ)). p ∷ l) (put_back ps x (ordered_rest p ps ordered) deep)
      ]
      | false ↦ λ test. elim has [
        | inl same ↦ put_first x ps (subst (λ (q : ℕ × ℕ). AreBehind q ps) same ordered) ∙ ap (λ (q : ℕ × ℕ). q ∷ ps) (sym same)
        | inr deep ↦ absurd (true_false (comes_before p x) (behind_has p x ps ordered deep) test)
      ]
    ] refl

behind_removed : (low : ℕ × ℕ) (ps : List (ℕ × ℕ)) (n : ℕ) → AreBehind low ps → AreBehind low (remove ps n)
behind_removed low [] n behind = subst (λ (l : List (ℕ × ℕ)). AreBehind low l) (nothing n) tt where
  nothing : (n : ℕ) → [] ≡ remove {X = ℕ × ℕ} [] n
  nothing zero = refl
  nothing (suc n) = refl
behind_removed low (p ∷ ps) zero behind = behind_lower low p ps behind.0 behind.1
behind_removed low (p ∷ ps) (suc n) behind = (behind.0, behind_removed p ps n behind.1)

pub ordered_removed : (ps : List (ℕ × ℕ)) (n : ℕ) → n < length ps → IsOrdered ps → IsOrdered (remove ps n)
ordered_removed [] n within ordered = absurd (omega arith)
ordered_removed (p ∷ ps) zero within ordered = ordered_rest p ps ordered
ordered_removed (p ∷ ps) (suc n) within ordered = behind_removed p ps n ordered
