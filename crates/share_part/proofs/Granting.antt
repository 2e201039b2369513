-- The grants of what is taken.
use Rattle.std.proofs.Common.{◌≡◌, refl, sym, ap, ◌∙◌, arith, ℕ, zero, suc, ◌+◌, ◌-◌, ◌≤◌, List, [], ◌∷◌, ◌++◌, length, append_assoc, true, false, nat_eq, ◌&&◌}
use Rattle.std.proofs.lemmas.Bool.Decides.{nat_tests}
use Rattle.std.specs.List.{AllByRecursion}
use Rattle.share_model.specs.declared.hold.Grant.{Grant}
use Rattle.share_part.specs.Walks.{offsets_with, written_out, joins, AreApart, AreRunsOf}

pub all_more : {A : Type 0} (P : A → Type 0) (xs : List A) (x : A) → AllByRecursion P xs → P x → AllByRecursion P (xs ++ x ∷ [])
all_more P [] x h p = (p, tt)
all_more P (y ∷ xs) x h p = (h.0, all_more P xs x h.1 p)

pub all_front : {A : Type 0} (P : A → Type 0) (xs ys : List A) → AllByRecursion P (xs ++ ys) → AllByRecursion P xs
all_front P [] ys h = tt
all_front P (y ∷ xs) ys h = (h.0, all_front P xs ys h.1)

-- offsets that follow one another, in two parts
offsets_both : (m n first count : ℕ) → offsets_with first (m + n) count ≡ offsets_with first m count ++ offsets_with (first + m) n count
offsets_both zero n first count =
    let a : 0 + n ≡ n = omega arith in
    let b : first ≡ first + 0 = omega arith in
    ap (λ (k : ℕ). offsets_with first k count) a ∙ ap (λ (k : ℕ). offsets_with k n count) b
offsets_both (suc m) n first count =
    let all : suc m + n ≡ suc (m + n) = omega arith in
    let next : (first + 1) + m ≡ first + suc m = omega arith in
    ap (λ (k : ℕ). offsets_with first k count) all
    ∙ ap (λ (l : List (ℕ × ℕ)). (first, count) ∷ l) (offsets_both m n (first + 1) count
    ∙ ap (λ (k : ℕ). offsets_with (first + 1) m count ++ offsets_with k n count) next)

pub offsets_length : (first n count : ℕ) → length (offsets_with first n count) ≡ n
offsets_length first zero count = refl
offsets_length first (suc n) count = ap suc (offsets_length (first + 1) n count)

pub nil_right : (xs : List (ℕ × ℕ)) → xs ++ [] ≡ xs
nil_right [] = refl
nil_right (x ∷ xs) = ap (λ (l : List (ℕ × ℕ)). x ∷ l) (nil_right xs)

pub written_more : (grants others : List Grant) → written_out (grants ++ others) ≡ written_out grants ++ written_out others
written_more [] others = refl
written_more (g ∷ grants) others =
    ap (λ (l : List (ℕ × ℕ)). offsets_with g.first ((g.last + 1) - g.first) g.count ++ l) (written_more grants others)
    ∙ sym (append_assoc (offsets_with g.first ((g.last + 1) - g.first) g.count) (written_out grants) (written_out others))

-- one grant alone
single : (g : Grant) → written_out (g ∷ []) ≡ offsets_with g.first ((g.last + 1) - g.first) g.count
single g = nil_right (offsets_with g.first ((g.last + 1) - g.first) g.count)

joins_yes : (g : Grant) (slot last count : ℕ) → joins g (record { first = slot; last = last; count = count }) ≡ true → (slot ≡ g.last + 1) × (count ≡ g.count)
joins_yes g slot last count e = (grind (arith, nat_tests), grind (arith, nat_tests))

-- the last grant is longer
grown : (g : Grant) (slot last count : ℕ) → g.first ≤ g.last → slot ≤ last → slot ≡ g.last + 1 → count ≡ g.count
    → written_out (record { first = g.first; last = last; count = count } ∷ []) ≡ written_out (g ∷ []) ++ offsets_with slot ((last + 1) - slot) count
grown g slot last count order longer is same =
    let all : (last + 1) - g.first ≡ ((g.last + 1) - g.first) + ((last + 1) - slot) = omega (arith, order, longer, is) in
    let at : g.first + ((g.last + 1) - g.first) ≡ slot = omega (arith, order, is) in
    single (record { first = g.first; last = last; count = count })
    ∙ ap (λ (k : ℕ). offsets_with g.first k count) all
    ∙ offsets_both ((g.last + 1) - g.first) ((last + 1) - slot) g.first count
    ∙ ap (λ (k : ℕ). offsets_with g.first ((g.last + 1) - g.first) count ++ offsets_with k ((last + 1) - slot) count) at
    ∙ ap (λ (k : ℕ). offsets_with g.first ((g.last + 1) - g.first) k ++ offsets_with slot ((last + 1) - slot) count) same
    ∙ ap (λ (l : List (ℕ × ℕ)). l ++ offsets_with slot ((last + 1) - slot) count) (sym (single g))

-- ---- apart

apart_grown : (front : List Grant) (g next : Grant) → AreApart (front ++ g ∷ []) → next.first ≡ g.first → next.count ≡ g.count → next.first ≤ next.last
    → AreApart (front ++ next ∷ [])
apart_grown [] g next h first count order = (order, tt, tt)
apart_grown (f ∷ []) g next h first count order =
    let same : joins f next ≡ joins f g = (λ i. nat_eq (first i) (f.last + 1) && nat_eq (count i) f.count) in
    (h.0, same ∙ h.1, (order, tt, tt))
apart_grown (f ∷ e ∷ front) g next h first count order = (h.0, h.1, apart_grown (e ∷ front) g next h.2 first count order)

apart_more : (front : List Grant) (g next : Grant) → AreApart (front ++ g ∷ []) → joins g next ≡ false → next.first ≤ next.last
    → AreApart ((front ++ g ∷ []) ++ next ∷ [])
apart_more [] g next h not order = (h.0, not, (order, tt, tt))
apart_more (f ∷ []) g next h not order = (h.0, h.1, (h.2.0, not, (order, tt, tt)))
apart_more (f ∷ e ∷ front) g next h not order = (h.0, h.1, apart_more (e ∷ front) g next h.2 not order)

last_order : (front : List Grant) (g : Grant) → AreApart (front ++ g ∷ []) → g.first ≤ g.last
last_order [] g h = h.0
last_order (f ∷ front) g h = last_order front g h.2

-- the last grant, longer, isn't empty either
pub grown_order : (front : List Grant) (g : Grant) (slot last count : ℕ) → slot ≤ last → AreApart (front ++ g ∷ []) → joins g (record { first = slot; last = last; count = count }) ≡ true → g.first ≤ last
grown_order front g slot last count longer apart joined =
    let order = last_order front g apart in
    let is : slot ≡ g.last + 1 = (joins_yes g slot last count joined).0 in
    omega (arith, order, is, longer)

-- ---- more offsets

pub first_run : (slot last count : ℕ) (taken : List (ℕ × ℕ)) → slot ≤ last → AreRunsOf taken []
    → AreRunsOf (taken ++ offsets_with slot ((last + 1) - slot) count) (record { first = slot; last = last; count = count } ∷ [])
first_run slot last count taken order h = record {
  offsets = single (record { first = slot; last = last; count = count }) ∙ ap (λ (l : List (ℕ × ℕ)). l ++ offsets_with slot ((last + 1) - slot) count) h.offsets;
  apart = (order, tt, tt);
}

pub run_grown : (front : List Grant) (g : Grant) (slot last count : ℕ) (taken : List (ℕ × ℕ)) → slot ≤ last → AreRunsOf taken (front ++ g ∷ [])
    → joins g (record { first = slot; last = last; count = count }) ≡ true
    → AreRunsOf (taken ++ offsets_with slot ((last + 1) - slot) count) (front ++ record { first = g.first; last = last; count = count } ∷ [])
run_grown front g slot last count taken longer h joined =
    let j = joins_yes g slot last count joined in
    let order = last_order front g h.apart in
    let is : slot ≡ g.last + 1 = j.0 in
    record {
      offsets = written_more front (record { first = g.first; last = last; count = count } ∷ [])
          ∙ ap (λ (l : List (ℕ × ℕ)). written_out front ++ l) (grown g slot last count order longer j.0 j.1)
          ∙ sym (append_assoc (written_out front) (written_out (g ∷ [])) (offsets_with slot ((last + 1) - slot) count))
          ∙ ap (λ (l : List (ℕ × ℕ)). l ++ offsets_with slot ((last + 1) - slot) count) (sym (written_more front (g ∷ [])) ∙ h.offsets);
      apart = apart_grown front g (record { first = g.first; last = last; count = count }) h.apart refl j.1 (omega (arith, order, is, longer));
    }

pub run_more : (front : List Grant) (g : Grant) (slot last count : ℕ) (taken : List (ℕ × ℕ)) → slot ≤ last → AreRunsOf taken (front ++ g ∷ [])
    → joins g (record { first = slot; last = last; count = count }) ≡ false
    → AreRunsOf (taken ++ offsets_with slot ((last + 1) - slot) count) ((front ++ g ∷ []) ++ record { first = slot; last = last; count = count } ∷ [])
run_more front g slot last count taken order h not = record {
  offsets = written_more (front ++ g ∷ []) (record { first = slot; last = last; count = count } ∷ [])
      ∙ ap (λ (l : List (ℕ × ℕ)). written_out (front ++ g ∷ []) ++ l) (single (record { first = slot; last = last; count = count }))
      ∙ ap (λ (l : List (ℕ × ℕ)). l ++ offsets_with slot ((last + 1) - slot) count) h.offsets;
  apart = apart_more front g (record { first = slot; last = last; count = count }) h.apart not order;
}
