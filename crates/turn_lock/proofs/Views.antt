-- Lists of views after one of them changed, and sums over them.
use Rattle.std.proofs.Common.{◌≡◌, ◌≢◌, ℕ, zero, suc, ◌+◌, ◌<◌, ◌≤◌, List, [], ◌∷◌, ◌++◌, length, set, sym, refl, ap, ◌∙◌, subst, ⊎_elim, arith, length-set}
use mathlib.Core.Logic.{dite}
use mathlib.Core.Option.{some, some-injective, some-ne-none}
use native.Mathlib.Decide.{ℕ_discrete}
use lib.ListN.{get_elem?}
use Rattle.atomic_table.proofs.Lists.{at_set, set_here, set_else}
use Rattle.shard_lock.specs.declared.shard.Entry.{Entry}
use Rattle.shard_lock.specs.Passes.{times}
use Rattle.turn_lock.specs.declared.board.View.{View}
use Rattle.turn_lock.specs.Rule.{once_below, total, Newest, Counted}

pub live : (n : ℕ) → n ≢ 0 → 0 < n
live zero not = absurd (not refl)
live (suc n) not = omega arith

module _ {X : Type 0} where
  pub total-set : (f : X → ℕ) (l : List X) (i : ℕ) (v w : X) → get_elem? l i ≡ some v → total f (set l i w) + f v ≡ total f l + f w
  total-set f [] i v w e = absurd (some-ne-none v (sym e))
  total-set f (x ∷ xs) zero v w e = let is : f x ≡ f v = ap f (some-injective x v e) in omega arith
  total-set f (x ∷ xs) (suc i) v w e = let r = total-set f xs i v w e in omega arith

  pub total-snoc : (f : X → ℕ) (l : List X) (v : X) → total f (l ++ v ∷ []) ≡ total f l + f v
  total-snoc f [] v = omega arith
  total-snoc f (x ∷ xs) v = let r = total-snoc f xs v in omega arith

  pub total-one : (f : X → ℕ) (l : List X) (i : ℕ) (v : X) → get_elem? l i ≡ some v → f v ≤ total f l
  total-one f [] i v e = absurd (some-ne-none v (sym e))
  total-one f (x ∷ xs) zero v e = let is : f x ≡ f v = ap f (some-injective x v e) in omega arith
  total-one f (x ∷ xs) (suc i) v e = let r = total-one f xs i v e in omega arith

  pub total-two : (f : X → ℕ) (l : List X) (i j : ℕ) (v w : X) → i ≢ j → get_elem? l i ≡ some v → get_elem? l j ≡ some w → f v + f w ≤ total f l
  total-two f [] i j v w ne e e' = absurd (some-ne-none v (sym e))
  total-two f (x ∷ xs) zero zero v w ne e e' = absurd (ne refl)
  total-two f (x ∷ xs) zero (suc j) v w ne e e' = let is : f x ≡ f v = ap f (some-injective x v e) in let r = total-one f xs j w e' in omega arith
  total-two f (x ∷ xs) (suc i) zero v w ne e e' = let is : f x ≡ f w = ap f (some-injective x w e') in let r = total-one f xs i v e in omega arith
  total-two f (x ∷ xs) (suc i) (suc j) v w ne e e' = let r = total-two f xs i j v w (λ h. ne (ap suc h)) e e' in omega arith

  -- where f is 0 of all others, the total is what it is of this one
  pub total-alone : (f : X → ℕ) (l : List X) (i : ℕ) (v : X) → get_elem? l i ≡ some v → ((j : ℕ) (d : X) → j ≢ i → get_elem? l j ≡ some d → f d ≡ 0) → total f l ≡ f v
  total-alone f l i v e nil = go l i e nil where
    zero_all : (l : List X) → ((j : ℕ) (d : X) → get_elem? l j ≡ some d → f d ≡ 0) → total f l ≡ 0
    zero_all [] nil = refl
    zero_all (x ∷ xs) nil = let a = nil 0 x refl in let r = zero_all xs (λ j d h. nil (suc j) d h) in omega arith

    go : (l : List X) (i : ℕ) → get_elem? l i ≡ some v → ((j : ℕ) (d : X) → j ≢ i → get_elem? l j ≡ some d → f d ≡ 0) → total f l ≡ f v
    go [] i e nil = absurd (some-ne-none v (sym e))
    go (x ∷ xs) zero e nil = let is : f x ≡ f v = ap f (some-injective x v e) in let r = zero_all xs (λ j d h. nil (suc j) d (λ z. absurd (omega arith)) h) in omega arith
    go (x ∷ xs) (suc i) e nil = let a = nil 0 x (λ z. absurd (omega arith)) refl in let r = go xs i e (λ j d ne h. nil (suc j) d (λ z. let w : j ≡ i = omega arith in ne w) h) in omega arith

  pub within : (l : List X) (i : ℕ) (a : X) → get_elem? l i ≡ some a → i < length l
  within [] i a e = absurd (some-ne-none a (sym e))
  within (x ∷ xs) zero a e = omega arith
  within (x ∷ xs) (suc i) a e = let r = within xs i a e in omega arith

  pub each_set : (K : ℕ → X → Type 0) (vs : List X) (me : ℕ) (w : X) → K me w → ((j : ℕ) (d : X) → j ≢ me → get_elem? vs j ≡ some d → K j d)
      → (j : ℕ) (d : X) → get_elem? (set vs me w) j ≡ some d → K j d
  each_set K vs me w mine others j d e = ⊎_elim (λ (t : (j ≡ me) × (w ≡ d)). subst (λ (x : ℕ × X). K x.0 x.1) (λ i. (sym t.0 i, t.1 i)) mine)
      (λ (t : (j ≢ me) × (get_elem? vs j ≡ some d)). others j d t.0 t.1) (at_set vs me j w d e)

  pub each_snoc : (K : ℕ → X → Type 0) (l : List X) (w : X) → K (length l) w → ((j : ℕ) (d : X) → get_elem? l j ≡ some d → K j d) → (j : ℕ) (d : X) → get_elem? (l ++ w ∷ []) j ≡ some d → K j d
  each_snoc K [] w new old zero d e = subst (K 0) (some-injective w d e) new
  each_snoc K [] w new old (suc j) d e = absurd (some-ne-none d (sym e))
  each_snoc K (x ∷ xs) w new old zero d e = old 0 d e
  each_snoc K (x ∷ xs) w new old (suc j) d e = each_snoc (λ k z. K (suc k) z) xs w new (λ k z h. old (suc k) z h) j d e

module _ {S E A : Type 0} where
  pub same_newest : (log log' : List (Entry E A)) (vs : List (View S E A)) (me : ℕ) (v w : View S E A) → get_elem? vs me ≡ some v → log' ≡ log → (v.seen ≡ log → w.seen ≡ log) → (0 < v.stands → 0 < w.stands) → Newest log vs
      → Newest log' (set vs me w)
  same_newest log log' vs me v w at same_log seen live (i, d, e, l, s) = dite (ℕ_discrete i me)
      (λ hit. let same : v ≡ d = some-injective v d (sym at ∙ (ap (λ (j : ℕ). get_elem? vs j) (sym hit) ∙ e)) in
      (me, w, set_here vs me w (within vs me v at), live (subst (λ (z : View S E A). 0 < z.stands) (sym same) l), seen (ap (λ (z : View S E A). z.seen) same ∙ s) ∙ sym same_log))
      (λ other. (i, d, set_else vs me i w other ∙ e, l, s ∙ sym same_log))

  -- a view that changes what it has seen or what it is at is counted as before
  pub counted_set : (seats : ℕ) (vs : List (View S E A)) (me : ℕ) (v w : View S E A) → get_elem? vs me ≡ some v → v.stands ≡ w.stands → v.rest ≡ w.rest → v.numbers ≡ w.numbers → Counted seats vs → Counted seats (set vs me w)
  counted_set seats vs me v w at stands rest listed c = let same : length (set vs me w) ≡ length vs = length-set vs me w in record {
    made = let t : total (λ (z : View S E A). z.rest) (set vs me w) + v.rest ≡ total (λ (z : View S E A). z.rest) vs + w.rest = total-set (λ (z : View S E A). z.rest) vs me v w at in let a = c.made in omega arith;
    whole = let t : total (λ (z : View S E A). z.stands + z.rest) (set vs me w) + (v.stands + v.rest) ≡ total (λ (z : View S E A). z.stands + z.rest) vs + (w.stands + w.rest) = total-set (λ (z : View S E A). z.stands + z.rest) vs me v w at in
        let a = c.whole in omega arith;
    stand = let t : total (λ (z : View S E A). z.stands) (set vs me w) + v.stands ≡ total (λ (z : View S E A). z.stands) vs + w.stands = total-set (λ (z : View S E A). z.stands) vs me v w at in let a = c.stand in omega arith;
    once = λ n. let t : total (λ (z : View S E A). times n z.numbers) (set vs me w) + times n v.numbers ≡ total (λ (z : View S E A). times n z.numbers) vs + times n w.numbers = total-set (λ (z : View S E A). times n z.numbers) vs me v w at in
        let b : times n v.numbers ≡ times n w.numbers = ap (times n) listed in let a : total (λ (z : View S E A). times n z.numbers) vs ≡ once_below n (length vs) = c.once n in
        let d : total (λ (z : View S E A). times n z.numbers) (set vs me w) ≡ total (λ (z : View S E A). times n z.numbers) vs = omega arith in d ∙ (a ∙ ap (once_below n) (sym same));
  }
