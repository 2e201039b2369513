-- The index of runs: what a run that comes, goes or changes leaves of it.
use Rattle.std.proofs.Common.{◌≡◌, ℕ, zero, suc, ◌<◌, ◌≤◌, Bool, true, false, cond, List, [], ◌∷◌, length, set, Some, refl, ap, ◌∙◌, sym, arith, inl, inr}
use Rattle.std.proofs.lemmas.Bool.Decides.{nat_tests}
use Rattle.std.specs.Prelude.{◌⊎◌}
use Rattle.std.specs.List.{slice_get, insert, remove}
use Rattle.lock_index.specs.declared.run.HoldRun.{HoldRun}
use Rattle.lock_index.specs.Locks.{comes_before, put_pair, HasPair}
use Rattle.lock_index.specs.Runs.{Follows, IsCanonical}
use Rattle.lock_index.proofs.Ordering.{never_itself, not_both, level}
use Rattle.window_runs.specs.Kept.{HasFirst, pair_of, indexed}

put_on : (x y : ℕ × ℕ) (l : List (ℕ × ℕ)) → comes_before y x ≡ true → put_pair x (y ∷ l) ≡ y ∷ put_pair x l
put_on x y l test = ap (λ (b : Bool). cond b (y ∷ put_pair x l) (x ∷ y ∷ l)) test

put_here : (x y : ℕ × ℕ) (l : List (ℕ × ℕ)) → comes_before y x ≡ false → put_pair x (y ∷ l) ≡ x ∷ y ∷ l
put_here x y l test = ap (λ (b : Bool). cond b (y ∷ put_pair x l) (x ∷ y ∷ l)) test

between : (h p q : ℕ × ℕ) → comes_before h q ≡ true → comes_before h p ≡ false → comes_before p q ≡ true
unfolding comes_before
between h p q a b = grind (arith, nat_tests)

not_itself : (p : ℕ × ℕ) → comes_before p p ≡ false
not_itself p = elim (comes_before p p) as (λ b. comes_before p p ≡ b → comes_before p p ≡ false) [
  | true ↦ λ t. absurd (never_itself p t)
  | false ↦ λ t. t
] refl

-- two that stand before all others
both_first : (p q : ℕ × ℕ) (l : List (ℕ × ℕ)) → cond (comes_before q p) (q ∷ p ∷ l) (p ∷ q ∷ l) ≡ cond (comes_before p q) (p ∷ q ∷ l) (q ∷ p ∷ l)
both_first p q l =
    elim (comes_before q p) as (λ b. comes_before q p ≡ b → cond b (q ∷ p ∷ l) (p ∷ q ∷ l) ≡ cond (comes_before p q) (p ∷ q ∷ l) (q ∷ p ∷ l)) [
      | true ↦ λ t. ap (λ (b : Bool). cond b (p ∷ q ∷ l) (q ∷ p ∷ l)) (sym (not_both q p t))
      | false ↦ λ t. elim (comes_before p q) as (λ b. comes_before p q ≡ b → p ∷ q ∷ l ≡ cond b (p ∷ q ∷ l) (q ∷ p ∷ l)) [
        | true ↦ λ u. refl
        | false ↦ λ u. let same = level p q u t in ap (λ (x : ℕ × ℕ). x ∷ q ∷ l) same ∙ ap (λ (x : ℕ × ℕ). q ∷ x ∷ l) (sym same)
      ] refl
    ] refl

pub commute : (p q : ℕ × ℕ) (l : List (ℕ × ℕ)) → put_pair p (put_pair q l) ≡ put_pair q (put_pair p l)
commute p q [] = both_first p q []
commute p q (h ∷ t) =
    elim (comes_before h q) as (λ b. comes_before h q ≡ b → put_pair p (put_pair q (h ∷ t)) ≡ put_pair q (put_pair p (h ∷ t))) [
      | true ↦ λ hq. elim (comes_before h p) as (λ b. comes_before h p ≡ b → put_pair p (put_pair q (h ∷ t)) ≡ put_pair q (put_pair p (h ∷ t))) [
        | true ↦ λ hp.
            ap (put_pair p) (put_on q h t hq) ∙ put_on p h (put_pair q t) hp ∙ ap (λ (l : List (ℕ × ℕ)). h ∷ l) (commute p q t)
            ∙ sym (ap (put_pair q) (put_on p h t hp) ∙ put_on q h (put_pair p t) hq)
        | false ↦ λ hp.
            ap (put_pair p) (put_on q h t hq) ∙ put_here p h (put_pair q t) hp
            ∙ sym (ap (put_pair q) (put_here p h t hp) ∙ put_on q p (h ∷ t) (between h p q hq hp) ∙ ap (λ (l : List (ℕ × ℕ)). p ∷ l) (put_on q h t hq))
      ] refl
      | false ↦ λ hq. elim (comes_before h p) as (λ b. comes_before h p ≡ b → put_pair p (put_pair q (h ∷ t)) ≡ put_pair q (put_pair p (h ∷ t))) [
        | true ↦ λ hp.
            ap (put_pair p) (put_here q h t hq) ∙ put_on p q (h ∷ t) (between h q p hp hq) ∙ ap (λ (l : List (ℕ × ℕ)). q ∷ l) (put_on p h t hp)
            ∙ sym (ap (put_pair q) (put_on p h t hp) ∙ put_here q h (put_pair p t) hq)
        | false ↦ λ hp.
            ap (put_pair p) (put_here q h t hq) ∙ ap (λ (l : List (ℕ × ℕ)). cond (comes_before q p) (q ∷ l) (p ∷ q ∷ h ∷ t)) (put_here p h t hp)
            ∙ both_first p q (h ∷ t)
            ∙ sym (ap (put_pair q) (put_here p h t hp) ∙ ap (λ (l : List (ℕ × ℕ)). cond (comes_before p q) (p ∷ l) (q ∷ p ∷ h ∷ t)) (put_here q h t hq))
      ] refl
    ] refl

-- ---- a pair that was put in, taken away again

untaken : ℕ × ℕ → List (ℕ × ℕ) → List (ℕ × ℕ)
untaken p [] = []
untaken p (h ∷ t) = cond (comes_before h p) (h ∷ untaken p t) t

untaken_put : (p : ℕ × ℕ) (l : List (ℕ × ℕ)) → untaken p (put_pair p l) ≡ l
unfolding untaken
untaken_put p [] = ap (λ (b : Bool). cond b (p ∷ []) []) (not_itself p)
untaken_put p (h ∷ t) =
    elim (comes_before h p) as (λ b. comes_before h p ≡ b → untaken p (cond b (h ∷ put_pair p t) (p ∷ h ∷ t)) ≡ h ∷ t) [
      | true ↦ λ test. ap (λ (b : Bool). cond b (h ∷ untaken p (put_pair p t)) (put_pair p t)) test ∙ ap (λ (l : List (ℕ × ℕ)). h ∷ l) (untaken_put p t)
      | false ↦ λ test. ap (λ (b : Bool). cond b (p ∷ untaken p (h ∷ t)) (h ∷ t)) (not_itself p)
    ] refl

pub put_once : (p : ℕ × ℕ) (l m : List (ℕ × ℕ)) → put_pair p l ≡ put_pair p m → l ≡ m
put_once p l m is = sym (untaken_put p l) ∙ ap (untaken p) is ∙ untaken_put p m

pub has_put : (p : ℕ × ℕ) (l : List (ℕ × ℕ)) → HasPair (put_pair p l) p
has_put p [] = inl refl
has_put p (h ∷ t) = elim (comes_before h p) as (λ b. HasPair (cond b (h ∷ put_pair p t) (p ∷ h ∷ t)) p) [
  | true ↦ inr (has_put p t)
  | false ↦ inl refl
]

pub keeps_put : (p q : ℕ × ℕ) (l : List (ℕ × ℕ)) → HasPair l q → HasPair (put_pair p l) q
keeps_put p q [] has = absurd has
keeps_put p q (h ∷ t) has = elim (comes_before h p) as (λ b. HasPair (cond b (h ∷ put_pair p t) (p ∷ h ∷ t)) q) [
  | true ↦ elim has [
    | inl same ↦ inl same
    | inr deep ↦ inr (keeps_put p q t deep)
  ]
  | false ↦ inr has
]

pub had_put : (p q : ℕ × ℕ) (l : List (ℕ × ℕ)) → HasPair (put_pair p l) q → (p ≡ q) ⊎ HasPair l q
had_put p q [] has = has
had_put p q (h ∷ t) has = elim (comes_before h p) as (λ b. HasPair (cond b (h ∷ put_pair p t) (p ∷ h ∷ t)) q → (p ≡ q) ⊎ HasPair (h ∷ t) q) [
  | true ↦ λ among. elim among [
    | inl same ↦ inr (inl same)
    | inr deep ↦ elim (had_put p q t deep) [
      | inl new ↦ inl new
      | inr old ↦ inr (inr old)
    ]
  ]
  | false ↦ λ among. among
] has

length_put : (p : ℕ × ℕ) (l : List (ℕ × ℕ)) → length (put_pair p l) ≡ suc (length l)
length_put p [] = refl
length_put p (h ∷ t) = elim (comes_before h p) as (λ b. length (cond b (h ∷ put_pair p t) (p ∷ h ∷ t)) ≡ suc (suc (length t))) [
  | true ↦ ap suc (length_put p t)
  | false ↦ refl
]

-- ---- the index of runs

pub length_indexed : (xs : List HoldRun) → length (indexed xs) ≡ length xs
length_indexed [] = refl
length_indexed (x ∷ xs) = length_put (pair_of x) (indexed xs) ∙ ap suc (length_indexed xs)

one_of : (x y : HoldRun) → Some x ≡ Some y → x ≡ y
one_of x y is = cc

pub index_get : (xs : List HoldRun) (n : ℕ) (r : HoldRun) → slice_get xs n ≡ Some r → indexed xs ≡ put_pair (pair_of r) (indexed (remove xs n))
index_get [] n r is = absurd (cc)
index_get (x ∷ xs) zero r is = let same = one_of x r is in ap (λ (z : HoldRun). put_pair (pair_of z) (indexed xs)) same
index_get (x ∷ xs) (suc n) r is =
    ap (put_pair (pair_of x)) (index_get xs n r is) ∙ commute (pair_of x) (pair_of r) (indexed (remove xs n))

pub index_set : (xs : List HoldRun) (n : ℕ) (r : HoldRun) → n < length xs → indexed (set xs n r) ≡ put_pair (pair_of r) (indexed (remove xs n))
index_set [] n r within = absurd (omega arith)
index_set (x ∷ xs) zero r within = refl
index_set (x ∷ xs) (suc n) r within =
    ap (put_pair (pair_of x)) (index_set xs n r (omega arith)) ∙ commute (pair_of x) (pair_of r) (indexed (remove xs n))

pub index_insert : (xs : List HoldRun) (n : ℕ) (r : HoldRun) → n ≤ length xs → indexed (insert xs n r) ≡ put_pair (pair_of r) (indexed xs)
index_insert xs zero r within = refl
index_insert [] (suc n) r within = absurd (omega arith)
index_insert (x ∷ xs) (suc n) r within =
    ap (put_pair (pair_of x)) (index_insert xs n r (omega arith)) ∙ commute (pair_of x) (pair_of r) (indexed xs)

-- a run in the place of one with the same pair
pub index_same : (xs : List HoldRun) (n : ℕ) (x y : HoldRun) → slice_get xs n ≡ Some x → n < length xs → pair_of y ≡ pair_of x → indexed (set xs n y) ≡ indexed xs
index_same xs n x y is within same =
    index_set xs n y within ∙ ap (λ (p : ℕ × ℕ). put_pair p (indexed (remove xs n))) same ∙ sym (index_get xs n x is)

-- ---- which offsets runs begin at

pub pair_first : (xs : List HoldRun) (p : ℕ × ℕ) → HasPair (indexed xs) p → HasFirst xs p.1
pair_first [] p has = absurd has
pair_first (x ∷ xs) p has = elim (had_put (pair_of x) p (indexed xs) has) [
  | inl same ↦ inl (ap (λ (q : ℕ × ℕ). q.1) same)
  | inr deep ↦ inr (pair_first xs p deep)
]

pub first_behind : (r : HoldRun) (xs : List HoldRun) (o : ℕ) → Follows r xs → IsCanonical xs → HasFirst xs o → r.last < o
first_behind r [] o follows canonical has = absurd has
first_behind r (x ∷ xs) o follows canonical has = elim has [
  | inl same ↦ omega (arith, same, follows.0)
  | inr deep ↦ omega (arith, follows.0, canonical.0, first_behind x xs o canonical.1 canonical.2 deep)
]

pub get_first : (xs : List HoldRun) (n : ℕ) (r : HoldRun) → slice_get xs n ≡ Some r → HasFirst xs r.first
get_first [] n r is = absurd (cc)
get_first (x ∷ xs) zero r is = let same = one_of x r is in inl (ap (λ (z : HoldRun). z.first) same)
get_first (x ∷ xs) (suc n) r is = inr (get_first xs n r is)

pub left_first : (xs : List HoldRun) (n o : ℕ) → HasFirst (remove xs n) o → HasFirst xs o
left_first [] zero o has = has
left_first [] (suc n) o has = has
left_first (x ∷ xs) zero o has = inr has
left_first (x ∷ xs) (suc n) o has = elim has [
  | inl same ↦ inl same
  | inr deep ↦ inr (left_first xs n o deep)
]

-- no run begins within another one
pub begins_apart : (xs : List HoldRun) (n : ℕ) (r : HoldRun) (o : ℕ) → IsCanonical xs → slice_get xs n ≡ Some r → HasFirst xs o → (o ≤ r.first) ⊎ (r.last < o)
begins_apart [] n r o canonical is has = absurd has
begins_apart (x ∷ xs) zero r o canonical is has =
    let same = one_of x r is in
    let first : x.first ≡ r.first = ap (λ (z : HoldRun). z.first) same in
    let last : x.last ≡ r.last = ap (λ (z : HoldRun). z.last) same in
    elim has [
      | inl begins ↦ inl (omega (arith, begins, first))
      | inr deep ↦ inr (omega (arith, last, first_behind x xs o canonical.1 canonical.2 deep))
    ]
begins_apart (x ∷ xs) (suc n) r o canonical is has = elim has [
  | inl begins ↦ inl (omega (arith, begins, canonical.0, first_behind x xs r.first canonical.1 canonical.2 (get_first xs n r is)))
  | inr deep ↦ begins_apart xs n r o canonical.2 is deep
]

pub within_apart : (xs : List HoldRun) (n : ℕ) (r : HoldRun) (o : ℕ) → IsCanonical xs → slice_get xs n ≡ Some r → r.first < o → o ≤ r.last → HasFirst xs o → ⊥
within_apart xs n r o canonical is over upto has = elim (begins_apart xs n r o canonical is has) [
  | inl low ↦ absurd (omega arith)
  | inr high ↦ absurd (omega arith)
]

pub removed_length : {X : Type 0} (xs : List X) (n : ℕ) → n < length xs → suc (length (remove xs n)) ≡ length xs
removed_length [] n within = absurd (omega arith)
removed_length (x ∷ xs) zero within = refl
removed_length (x ∷ xs) (suc n) within = ap suc (removed_length xs n (omega arith))
