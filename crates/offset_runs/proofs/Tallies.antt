-- Complete rows, counted by runs and by offsets.
use Rattle.std.proofs.Common.{◌≡◌, ℕ, zero, suc, ◌+◌, ◌-◌, ◌^◌, ◌<◌, ◌≤◌, ◌⊎◌, min, max, pos, Bool, true, false, cond, inl, inr, List, [], ◌∷◌}
use Rattle.std.proofs.Common.{length, drop, Option, Some, None, refl, sym, ap, subst, ◌∙◌, arith}
use Rattle.std.specs.Prelude.{nat_lt}
use Rattle.std.specs.Option.{option_or}
use Rattle.std.proofs.lemmas.Bool.{cases_lt}
use Rattle.share_model.proofs.Lookups.{row_at-here, row_at-below, row_at-beyond, row_at-none}
use Rattle.share_model.specs.Runs.{row_of, row_at, IsCanonical}
use Rattle.share_model.specs.ShareStates.{AreLaid}
use Rattle.share_model.specs.declared.row.Row.{Row}
use Rattle.share_model.specs.declared.run.Run.{Run}
use Rattle.offset_runs.proofs.Cuts.{lt_yes, yes_lt, no_lt}
use Rattle.offset_runs.proofs.Joins.{choose}
use Rattle.offset_runs.specs.Complete.{is_complete, is_complete_row, complete_rows, complete_within, complete_between, complete_under, count_complete}
use Rattle.offset_runs.specs.Parts.{EndsBelow, end_count}

-- ---- sums over the offsets below an end

sum_below : (ℕ → ℕ) → ℕ → ℕ
sum_below f zero = 0
sum_below f (suc n) = sum_below f n + f n

sum_same : (f g : ℕ → ℕ) (n : ℕ) → ((o : ℕ) → o < n → f o ≡ g o) → sum_below f n ≡ sum_below g n
unfolding sum_below
sum_same f g zero same = refl
sum_same f g (suc n) same =
    let before : sum_below f n ≡ sum_below g n = sum_same f g n (λ o lt. same o (omega (arith, lt))) in
    let here : f n ≡ g n = same n (omega arith) in
    omega (arith, before, here)

sum_le : (f g : ℕ → ℕ) (n : ℕ) → ((o : ℕ) → o < n → f o ≤ g o) → sum_below f n ≤ sum_below g n
unfolding sum_below
sum_le f g zero le = omega arith
sum_le f g (suc n) le =
    let before : sum_below f n ≤ sum_below g n = sum_le f g n (λ o lt. le o (omega (arith, lt))) in
    let here : f n ≤ g n = le n (omega arith) in
    omega (arith, before, here)

sum_add : (f g : ℕ → ℕ) (n : ℕ) → sum_below (λ o. f o + g o) n ≡ sum_below f n + sum_below g n
unfolding sum_below
sum_add f g zero = refl
sum_add f g (suc n) =
    let before : sum_below (λ o. f o + g o) n ≡ sum_below f n + sum_below g n = sum_add f g n in
    omega (arith, before)

sum_zero : (n : ℕ) → sum_below (λ o. 0) n ≡ 0
unfolding sum_below
sum_zero zero = refl
sum_zero (suc n) = let before : sum_below (λ o. 0) n ≡ 0 = sum_zero n in omega (arith, before)

sum_one : (n : ℕ) → sum_below (λ o. 1) n ≡ n
unfolding sum_below
sum_one zero = refl
sum_one (suc n) = let before : sum_below (λ o. 1) n ≡ n = sum_one n in omega (arith, before)

sum_chosen : (b : Bool) (f : ℕ → ℕ) (n : ℕ) → sum_below (λ o. cond b (f o) 0) n ≡ cond b (sum_below f n) 0
sum_chosen true f n = refl
sum_chosen false f n = sum_zero n

-- 1 from an offset on and below another, and else 0
abbrev in_range : ℕ → ℕ → ℕ → ℕ
in_range from to o = min (o + 1) to - max o from

range_sum : (from to n : ℕ) → sum_below (λ o. in_range from to o) n ≡ min n to - from
unfolding sum_below
range_sum from to zero = omega arith
range_sum from to (suc n) =
    let before : sum_below (λ o. in_range from to o) n ≡ min n to - from = range_sum from to n in
    omega (arith, before)

-- ---- the rows of runs

-- a number where there is a complete row, and else 0
abbrev weight : Option Row → ℕ → ℕ
weight None k = 0
weight (Some row) k = cond (is_complete row.state) k 0

cond_zero : (b : Bool) → ◌≡◌ {A = ℕ} (cond b 0 0) 0
cond_zero true = refl
cond_zero false = refl

weight_zero : (r : Option Row) → weight r 0 ≡ 0
weight_zero None = refl
weight_zero (Some row) = cond_zero (is_complete row.state)

cond_le : (b : Bool) (k : ℕ) → cond b k 0 ≤ k
cond_le true k = omega arith
cond_le false k = omega arith

weight_le : (r : Option Row) (k : ℕ) → weight r k ≤ k
weight_le None k = omega arith
weight_le (Some row) k = cond_le (is_complete row.state) k

abbrev row_weight : List Run → ℕ → ℕ → ℕ → ℕ
row_weight xs from to o = weight (row_at xs o) (in_range from to o)

abbrev run_weight : Run → ℕ → ℕ → ℕ → ℕ
run_weight x from to o = cond (is_complete x.state) (in_range (max x.first from) (min (x.last + 1) to) o) 0

run_sum : (x : Run) (from to n : ℕ) → x.last < n → sum_below (λ o. run_weight x from to o) n ≡ complete_within x from to
run_sum x from to n ends =
    let begin = max x.first from in
    let end = min (x.last + 1) to in
    let all : min n end - begin ≡ end - begin = omega (arith, ends) in
    sum_chosen (is_complete x.state) (λ o. in_range begin end o) n
    ∙ ap (λ (k : ℕ). cond (is_complete x.state) k 0) (range_sum begin end n ∙ all)

apart : (a b c : ℕ) → a ≡ c → b ≡ 0 → a ≡ b + c
apart a b c same none = omega (arith, same, none)

alone : (a b c : ℕ) → a ≡ b → c ≡ 0 → a ≡ b + c
alone a b c same none = omega (arith, same, none)

run_nothing : (x : Run) (from to o : ℕ) → in_range (max x.first from) (min (x.last + 1) to) o ≡ 0 → run_weight x from to o ≡ 0
run_nothing x from to o none = ap (λ (k : ℕ). cond (is_complete x.state) k 0) none ∙ cond_zero (is_complete x.state)

weight_cons : (x : Run) (xs : List Run) (from to o : ℕ) → IsCanonical (x ∷ xs) → row_weight (x ∷ xs) from to o ≡ run_weight x from to o + row_weight xs from to o
weight_cons x xs from to o canonical =
    let k : ℕ = in_range from to o in
    elim (cases_lt o x.first) [
      | inl below ↦ apart (row_weight (x ∷ xs) from to o) (run_weight x from to o) (row_weight xs from to o)
          (ap (λ (r : Option Row). weight r k) (row_at-below x xs o below)) (run_nothing x from to o (omega (arith, below)))
      | inr begun ↦ elim (cases_lt x.last o) [
        | inl beyond ↦ apart (row_weight (x ∷ xs) from to o) (run_weight x from to o) (row_weight xs from to o)
            (ap (λ (r : Option Row). weight r k) (row_at-beyond x xs o beyond)) (run_nothing x from to o (omega (arith, beyond)))
        | inr upto ↦
            let same : k ≡ in_range (max x.first from) (min (x.last + 1) to) o = omega (arith, begun, upto) in
            alone (row_weight (x ∷ xs) from to o) (run_weight x from to o) (row_weight xs from to o)
            (ap (λ (r : Option Row). weight r k) (row_at-here x xs o begun upto) ∙ ap (λ (n : ℕ). cond (is_complete x.state) n 0) same)
            (ap (λ (r : Option Row). weight r k) (row_at-none x xs o canonical.1 canonical.2 upto))
      ]
    ]

tally : (xs : List Run) (from to n : ℕ) → IsCanonical xs → EndsBelow xs n → complete_between xs from to ≡ sum_below (λ o. row_weight xs from to o) n
tally [] from to n canonical ends = sym (sum_zero n)
tally (x ∷ xs) from to n canonical ends =
    ap (λ (k : ℕ). k + complete_between xs from to) (sym (run_sum x from to n ends.0))
    ∙ ap (λ (k : ℕ). sum_below (λ o. run_weight x from to o) n + k) (tally xs from to n canonical.2 ends.1)
    ∙ sym (sum_add (λ o. run_weight x from to o) (λ o. row_weight xs from to o) n)
    ∙ sym (sum_same (λ o. row_weight (x ∷ xs) from to o) (λ o. run_weight x from to o + row_weight xs from to o) n (λ o lt. weight_cons x xs from to o canonical))

pub rows_between : (xs : List Run) (n : ℕ) → EndsBelow xs n → complete_rows xs ≡ complete_between xs 0 n
rows_between [] n ends = refl
rows_between (x ∷ xs) n ends =
    let all : x.last + 1 - x.first ≡ min (x.last + 1) n - max x.first 0 = omega (arith, ends.0) in
    ap (λ (k : ℕ). cond (is_complete x.state) k 0 + complete_rows xs) all
    ∙ ap (λ (k : ℕ). complete_within x 0 n + k) (rows_between xs n ends.1)

pub between_fits : (xs : List Run) (from to n : ℕ) → IsCanonical xs → EndsBelow xs n → complete_between xs from to ≤ n
between_fits xs from to n canonical ends =
    let few : sum_below (λ o. row_weight xs from to o) n ≤ sum_below (λ o. 1) n =
    sum_le (λ o. row_weight xs from to o) (λ o. 1) n (λ o lt. let w = weight_le (row_at xs o) (in_range from to o) in omega (arith, w)) in
    omega (arith, few, sum_one n, tally xs from to n canonical ends)

-- ---- row by row

one_row : (r : Option Row) → weight r 1 ≡ cond (is_complete_row r) 1 0
one_row None = refl
one_row (Some row) = refl

by_rows : (xs : List Run) (n : ℕ) → sum_below (λ o. weight (row_at xs o) 1) n ≡ count_complete xs n
unfolding sum_below
by_rows xs zero = refl
by_rows xs (suc n) =
    let before : sum_below (λ o. weight (row_at xs o) 1) n ≡ count_complete xs n = by_rows xs n in
    ap (λ (k : ℕ). k + weight (row_at xs n) 1) before ∙ ap (λ (k : ℕ). count_complete xs n + k) (one_row (row_at xs n))

pub counted_by_rows : (xs : List Run) (n : ℕ) → IsCanonical xs → EndsBelow xs n → complete_rows xs ≡ count_complete xs n
counted_by_rows xs n canonical ends =
    rows_between xs n ends ∙ tally xs 0 n n canonical ends
    ∙ sum_same (λ o. row_weight xs 0 n o) (λ o. weight (row_at xs o) 1) n
    (λ o lt. let here : in_range 0 n o ≡ 1 = omega (arith, lt) in ap (λ (k : ℕ). weight (row_at xs o) k) here)
    ∙ by_rows xs n

-- ---- rows that others cover

abbrev covers : Option Row → ℕ → ℕ
covers None k = 0
covers (Some row) k = k

abbrev under_weight : List Run → List Run → ℕ → ℕ → ℕ → ℕ
under_weight under over s n o = covers (row_at over o) (row_weight under s n o)

under_cons : (under : List Run) (x : Run) (xs : List Run) (s n o : ℕ) → IsCanonical (x ∷ xs) → o < n
    → under_weight under (x ∷ xs) s n o ≡ row_weight under (max x.first s) (x.last + 1) o + under_weight under xs s n o
under_cons under x xs s n o canonical lt =
    let u : Option Row = row_at under o in
    let k : ℕ = weight u (in_range s n o) in
    let i : ℕ = in_range (max x.first s) (x.last + 1) o in
    elim (cases_lt o x.first) [
      | inl below ↦
          let none : i ≡ 0 = omega (arith, below) in
          apart (under_weight under (x ∷ xs) s n o) (weight u i) (under_weight under xs s n o)
          (ap (λ (r : Option Row). covers r k) (row_at-below x xs o below)) (ap (weight u) none ∙ weight_zero u)
      | inr begun ↦ elim (cases_lt x.last o) [
        | inl beyond ↦
            let none : i ≡ 0 = omega (arith, beyond) in
            apart (under_weight under (x ∷ xs) s n o) (weight u i) (under_weight under xs s n o)
            (ap (λ (r : Option Row). covers r k) (row_at-beyond x xs o beyond)) (ap (weight u) none ∙ weight_zero u)
        | inr upto ↦
            let same : in_range s n o ≡ i = omega (arith, begun, upto, lt) in
            alone (under_weight under (x ∷ xs) s n o) (weight u i) (under_weight under xs s n o)
            (ap (λ (r : Option Row). covers r k) (row_at-here x xs o begun upto) ∙ ap (weight u) same)
            (ap (λ (r : Option Row). covers r k) (row_at-none x xs o canonical.1 canonical.2 upto))
      ]
    ]

under_tally : (under over : List Run) (s n : ℕ) → IsCanonical under → EndsBelow under n → IsCanonical over
    → complete_under under over s ≡ sum_below (λ o. under_weight under over s n o) n
under_tally under [] s n canonical ends over = sym (sum_zero n)
under_tally under (x ∷ xs) s n canonical ends over =
    let from : ℕ = max x.first s in
    let to : ℕ = x.last + 1 in
    ap (λ (k : ℕ). k + complete_under under xs s) (tally under from to n canonical ends)
    ∙ ap (λ (k : ℕ). sum_below (λ o. row_weight under from to o) n + k) (under_tally under xs s n canonical ends over.2)
    ∙ sym (sum_add (λ o. row_weight under from to o) (λ o. under_weight under xs s n o) n)
    ∙ sym (sum_same (λ o. under_weight under (x ∷ xs) s n o) (λ o. row_weight under from to o + under_weight under xs s n o) n
    (λ o lt. under_cons under x xs s n o over lt))

-- ---- what is laid over them

same_below : (r u : Option Row) → weight None 1 + (weight u 1 + covers r (weight u 0)) ≡ weight u 1 + weight r 0
same_below None u = omega arith
same_below (Some row) u =
    let a = weight_zero u in
    let b = cond_zero (is_complete row.state) in
    omega (arith, a, b)

same_above : (r u : Option Row) → weight (option_or r u) 1 + (weight u 0 + covers r (weight u 1)) ≡ weight u 1 + weight r 1
same_above None u = let a = weight_zero u in omega (arith, a)
same_above (Some row) u = let a = weight_zero u in omega (arith, a)

fits_below : (r u : Option Row) → (weight u 1 + weight r 0 ≤ 1 + (weight u 1 + covers r (weight u 0))) × (weight u 1 + covers r (weight u 0) ≤ weight u 1)
fits_below None u = (omega arith, omega arith)
fits_below (Some row) u =
    let a = weight_zero u in
    let b = cond_zero (is_complete row.state) in
    (omega (arith, a, b), omega (arith, a))

fits_above : (r u : Option Row) → (weight u 1 + weight r 1 ≤ 1 + (weight u 0 + covers r (weight u 1))) × (weight u 0 + covers r (weight u 1) ≤ weight u 1)
fits_above None u =
    let a = weight_zero u in
    let b = weight_le u 1 in
    (omega (arith, a, b), omega (arith, a))
fits_above (Some row) u =
    let a = weight_zero u in
    let b = cond_le (is_complete row.state) 1 in
    (omega (arith, a, b), omega (arith, a))

-- what stands at an offset, by the ranges that it is in
record Ranges (s n o : ℕ) : Type 0 where
  whole : in_range 0 n o ≡ 1
  side : ((nat_lt o s ≡ true) × (in_range 0 s o ≡ 1) × (in_range s n o ≡ 0)) ⊎ ((nat_lt o s ≡ false) × (in_range 0 s o ≡ 0) × (in_range s n o ≡ 1))

ranges : (s n o : ℕ) → o < n → Ranges s n o
ranges s n o lt = record {
  whole = omega (arith, lt);
  side = elim (cases_lt o s) [
    | inl below ↦ inl (yes_lt o s below, omega (arith, below), omega (arith, below, lt))
    | inr above ↦ inr (no_lt o s above, omega (arith, above), omega (arith, above, lt))
  ];
}

-- the rows under and over at an offset, and three ranges that it is in or not
abbrev left_side : Option Row → Option Row → Option Row → ℕ → ℕ → ℕ → ℕ
left_side l r u whole below above = weight l whole + (weight u below + covers r (weight u above))

abbrev right_side : Option Row → Option Row → ℕ → ℕ → ℕ
right_side r u whole above = weight u whole + weight r above

laid_here : (l r u : Option Row) (s n o : ℕ) → Ranges s n o → l ≡ cond (nat_lt o s) None (option_or r u)
    → left_side l r u (in_range 0 n o) (in_range 0 s o) (in_range s n o) ≡ right_side r u (in_range 0 n o) (in_range s n o)
laid_here l r u s n o at is = elim at.side [
  | inl h ↦
      let row : l ≡ None = is ∙ ap (λ (b : Bool). cond b None (option_or r u)) h.0 in
      (λ i. left_side (row i) r u (at.whole i) (h.1 i) (h.2 i)) ∙ same_below r u ∙ (λ i. right_side r u (sym at.whole i) (sym h.2 i))
  | inr h ↦
      let row : l ≡ option_or r u = is ∙ ap (λ (b : Bool). cond b None (option_or r u)) h.0 in
      (λ i. left_side (row i) r u (at.whole i) (h.1 i) (h.2 i)) ∙ same_above r u ∙ (λ i. right_side r u (sym at.whole i) (sym h.2 i))
]

gone_here : (r u : Option Row) (s n o : ℕ) → Ranges s n o
    → weight u (in_range 0 s o) + covers r (weight u (in_range s n o)) ≤ weight u (in_range 0 n o)
gone_here r u s n o at = elim at.side [
  | inl h ↦ rw (at.whole, h.1, h.2) (fits_below r u).1
  | inr h ↦ rw (at.whole, h.1, h.2) (fits_above r u).1
]

more_here : (r u : Option Row) (s n o : ℕ) → Ranges s n o
    → weight u (in_range 0 n o) + weight r (in_range s n o) ≤ 1 + (weight u (in_range 0 s o) + covers r (weight u (in_range s n o)))
more_here r u s n o at = elim at.side [
  | inl h ↦ rw (at.whole, h.1, h.2) (fits_below r u).0
  | inr h ↦ rw (at.whole, h.1, h.2) (fits_above r u).0
]

balance : (l b c t v a1 a2 a3 a4 a5 : ℕ) → l ≡ a1 → b ≡ a2 → c ≡ a3 → t ≡ a4 → v ≡ a5 → a1 + (a2 + a3) ≡ a4 + a5 → l + (b + c) ≡ t + v
balance l b c t v a1 a2 a3 a4 a5 p q r s w e = omega (arith, p, q, r, s, w, e)

module _ (under over : List Run) (s n : ℕ) (cu : IsCanonical under) (eu : EndsBelow under n) (co : IsCanonical over) (eo : EndsBelow over n) where
  abbrev below : ℕ → ℕ
  below o = row_weight under 0 s o

  abbrev hidden : ℕ → ℕ
  hidden o = under_weight under over s n o

  abbrev all : ℕ → ℕ
  all o = row_weight under 0 n o

  abbrev upper : ℕ → ℕ
  upper o = row_weight over s n o

  pub gone_fits : complete_between under 0 s + complete_under under over s ≤ complete_rows under
  gone_fits =
      let b : complete_between under 0 s ≡ sum_below below n = tally under 0 s n cu eu in
      let c : complete_under under over s ≡ sum_below hidden n = under_tally under over s n cu eu co in
      let t : complete_rows under ≡ sum_below all n = rows_between under n eu ∙ tally under 0 n n cu eu in
      let both : sum_below (λ o. below o + hidden o) n ≡ sum_below below n + sum_below hidden n = sum_add below hidden n in
      let le : sum_below (λ o. below o + hidden o) n ≤ sum_below all n =
      sum_le (λ o. below o + hidden o) all n (λ o lt. gone_here (row_at over o) (row_at under o) s n o (ranges s n o lt)) in
      omega (arith, b, c, t, both, le)

  pub more_fits : complete_rows under + complete_between over s n ≤ n + (complete_between under 0 s + complete_under under over s)
  more_fits =
      let b : complete_between under 0 s ≡ sum_below below n = tally under 0 s n cu eu in
      let c : complete_under under over s ≡ sum_below hidden n = under_tally under over s n cu eu co in
      let t : complete_rows under ≡ sum_below all n = rows_between under n eu ∙ tally under 0 n n cu eu in
      let v : complete_between over s n ≡ sum_below upper n = tally over s n n co eo in
      let one : sum_below (λ o. all o + upper o) n ≡ sum_below all n + sum_below upper n = sum_add all upper n in
      let two : sum_below (λ o. below o + hidden o) n ≡ sum_below below n + sum_below hidden n = sum_add below hidden n in
      let three : sum_below (λ o. 1 + (below o + hidden o)) n ≡ sum_below (λ o. 1) n + sum_below (λ o. below o + hidden o) n =
      sum_add (λ o. 1) (λ o. below o + hidden o) n in
      let le : sum_below (λ o. all o + upper o) n ≤ sum_below (λ o. 1 + (below o + hidden o)) n =
      sum_le (λ o. all o + upper o) (λ o. 1 + (below o + hidden o)) n (λ o lt. more_here (row_at over o) (row_at under o) s n o (ranges s n o lt)) in
      let ones : sum_below (λ o. 1) n ≡ n = sum_one n in
      omega (arith, b, c, t, v, one, two, three, le, ones)

  pub laid_tally : (laid : List Run) → IsCanonical laid → EndsBelow laid n → ((o : ℕ) → row_at laid o ≡ cond (nat_lt o s) None (option_or (row_at over o) (row_at under o)))
      → complete_rows laid + (complete_between under 0 s + complete_under under over s) ≡ complete_rows under + complete_between over s n
  laid_tally laid cl el rows =
      let there : ℕ → ℕ = λ o. row_weight laid 0 n o in
      let sums : sum_below there n + (sum_below below n + sum_below hidden n) ≡ sum_below all n + sum_below upper n =
      ap (λ (k : ℕ). sum_below there n + k) (sym (sum_add below hidden n)) ∙ sym (sum_add there (λ o. below o + hidden o) n)
      ∙ sum_same (λ o. there o + (below o + hidden o)) (λ o. all o + upper o) n
      (λ o lt. laid_here (row_at laid o) (row_at over o) (row_at under o) s n o (ranges s n o lt) (rows o))
      ∙ sum_add all upper n in
      balance (complete_rows laid) (complete_between under 0 s) (complete_under under over s) (complete_rows under) (complete_between over s n)
      (sum_below there n) (sum_below below n) (sum_below hidden n) (sum_below all n) (sum_below upper n)
      (rows_between laid n el ∙ tally laid 0 n n cl el) (tally under 0 s n cu eu) (under_tally under over s n cu eu co)
      (rows_between under n eu ∙ tally under 0 n n cu eu) (tally over s n n co eo) sums

-- ---- where runs end

ends_none : (xs : List Run) (n o : ℕ) → EndsBelow xs n → n ≤ o → row_at xs o ≡ None
ends_none [] n o ends le = refl
ends_none (x ∷ xs) n o ends le = row_at-beyond x xs o (omega (arith, ends.0, le)) ∙ ends_none xs n o ends.1 le

some_none : (r : Row) (l : Option Row) → l ≡ Some r → l ≡ None → ⊥
some_none r None e f = absurd cc
some_none r (Some row) e f = absurd cc

none_ends : (xs : List Run) (n : ℕ) → IsCanonical xs → ((o : ℕ) → n ≤ o → row_at xs o ≡ None) → EndsBelow xs n
none_ends [] n canonical none = tt
none_ends (x ∷ xs) n canonical none =
    let ends : x.last < n =
    elim (cases_lt x.last n) [
      | inl lt ↦ lt
      | inr le ↦ absurd (some_none (row_of x) (row_at (x ∷ xs) x.last) (row_at-here x xs x.last canonical.0 (omega arith)) (none x.last le))
    ]
    in
    (ends, none_ends xs n canonical.2 (λ o le. sym (row_at-beyond x xs o (omega (arith, ends, le))) ∙ none o le))

none_laid : (b : Bool) (r u : Option Row) → r ≡ None → u ≡ None → cond b None (option_or r u) ≡ None
none_laid true r u p q = refl
none_laid false r u p q = ap (λ (l : Option Row). option_or l u) p ∙ q

pub laid_ends : (under over laid : List Run) (s n : ℕ) → EndsBelow under n → EndsBelow over n → AreLaid (pos s) under over laid → EndsBelow laid n
laid_ends under over laid s n eu eo l =
    none_ends laid n l.canonical (λ o le. l.rows o ∙ none_laid (nat_lt o s) (row_at over o) (row_at under o) (ends_none over n o eo le) (ends_none under n o eu le))

-- the number that was counted is that of the rows that are laid
pub laid_is : (under over laid : List Run) (s n count : ℕ) → IsCanonical under → EndsBelow under n → IsCanonical over → EndsBelow over n → AreLaid (pos s) under over laid
    → count + (complete_between under 0 s + complete_under under over s) ≡ complete_rows under + complete_between over s n → count ≡ complete_rows laid
laid_is under over laid s n count cu eu co eo l counted =
    let is = laid_tally under over s n cu eu co eo laid l.canonical (laid_ends under over laid s n eu eo l) l.rows in
    omega (arith, counted, is)

-- ---- walks

-- runs that end below the range have no rows in it
pub drop_ended : (xs : List Run) (from to : ℕ) → complete_between (drop (end_count xs from) xs) from to ≡ complete_between xs from to
drop_ended [] from to = refl
drop_ended (x ∷ xs) from to =
    choose (λ (k : ℕ). complete_between (drop k (x ∷ xs)) from to ≡ complete_between (x ∷ xs) from to) (nat_lt x.last from) (suc (end_count xs from)) 0
    (λ e. let none : min (x.last + 1) to - max x.first from ≡ 0 = omega (arith, lt_yes x.last from e) in
    let nothing : complete_within x from to ≡ 0 = ap (λ (k : ℕ). cond (is_complete x.state) k 0) none ∙ cond_zero (is_complete x.state) in
    drop_ended xs from to ∙ apart (complete_between xs from to) (complete_within x from to) (complete_between xs from to) refl nothing)
    (λ e. refl)

pub drop_canonical : (k : ℕ) (xs : List Run) → IsCanonical xs → IsCanonical (drop k xs)
drop_canonical zero xs canonical = canonical
drop_canonical (suc k) [] canonical = tt
drop_canonical (suc k) (x ∷ xs) canonical = drop_canonical k xs canonical.2

pub drop_ends : (k : ℕ) (xs : List Run) (n : ℕ) → EndsBelow xs n → EndsBelow (drop k xs) n
drop_ends zero xs n ends = ends
drop_ends (suc k) [] n ends = tt
drop_ends (suc k) (x ∷ xs) n ends = drop_ends k xs n ends.1

-- canonical runs that begin behind the range have none either
run_behind : (x : Run) (from to : ℕ) → to ≤ x.first → complete_within x from to ≡ 0
run_behind x from to le =
    let none : min (x.last + 1) to - max x.first from ≡ 0 = omega (arith, le) in
    ap (λ (k : ℕ). cond (is_complete x.state) k 0) none ∙ cond_zero (is_complete x.state)

none_between : (x : Run) (xs : List Run) (from to : ℕ) → IsCanonical (x ∷ xs) → to ≤ x.first → complete_between (x ∷ xs) from to ≡ 0
none_between x [] from to canonical le = let nothing : complete_within x from to ≡ 0 = run_behind x from to le in omega (arith, nothing)
none_between x (y ∷ ys) from to canonical le =
    let nothing : complete_within x from to ≡ 0 = run_behind x from to le in
    let others : complete_between (y ∷ ys) from to ≡ 0 = none_between y ys from to canonical.2 (omega (arith, le, canonical.0, canonical.1.0)) in
    omega (arith, nothing, others)

-- what is counted so far, and what is left
pub record IsCounting (count : ℕ) (rest runs : List Run) (from to : ℕ) : Type 0 where
  pub so_far : count + complete_between rest from to ≡ complete_between runs from to
  pub canonical : IsCanonical rest
  pub low : EndsBelow rest (2 ^ 63)

pub begins_count : (runs : List Run) (from to : ℕ) → IsCanonical runs → EndsBelow runs (2 ^ 63) → IsCounting 0 runs runs from to
begins_count runs from to canonical low = record { so_far = omega arith; canonical = canonical; low = low }

pub counts_on : (count : ℕ) (rest others runs : List Run) (run : Run) (from to more : ℕ) → IsCounting count rest runs from to → rest ≡ run ∷ others
    → more ≡ complete_within run from to → IsCounting (count + more) others runs from to
counts_on count rest others runs run from to more p e m =
    let q : IsCounting count (run ∷ others) runs from to = subst (λ (l : List Run). IsCounting count l runs from to) e p in
    let so_far = q.so_far in
    record { so_far = omega (arith, so_far, m); canonical = q.canonical.2; low = q.low.1 }

pub count_ends : (count : ℕ) (rest runs : List Run) (from to : ℕ) → IsCounting count rest runs from to → length rest ≡ 0 → count ≡ complete_between runs from to
count_ends count [] runs from to p none = let so_far = p.so_far in omega (arith, so_far)
count_ends count (run ∷ rest) runs from to p none = absurd (omega (arith, none))

pub count_stops : (count : ℕ) (rest others runs : List Run) (run : Run) (from to : ℕ) → IsCounting count rest runs from to → rest ≡ run ∷ others → to ≤ run.first
    → count ≡ complete_between runs from to
count_stops count rest others runs run from to p e le =
    let q : IsCounting count (run ∷ others) runs from to = subst (λ (l : List Run). IsCounting count l runs from to) e p in
    let so_far = q.so_far in
    let none = none_between run others from to q.canonical le in
    omega (arith, so_far, none)

pub count_low : (count : ℕ) (rest others runs : List Run) (run : Run) (from to : ℕ) → IsCanonical runs → EndsBelow runs (2 ^ 63) → IsCounting count rest runs from to
    → rest ≡ run ∷ others → (run.last < 2 ^ 63) × (count + complete_within run from to ≤ 2 ^ 63)
count_low count rest others runs run from to canonical low p e =
    let q : IsCounting count (run ∷ others) runs from to = subst (λ (l : List Run). IsCounting count l runs from to) e p in
    let so_far = q.so_far in
    let all = between_fits runs from to (2 ^ 63) canonical low in
    (q.low.0, omega (arith, so_far, all))

-- the same of the runs that others cover
pub record IsCovering (count : ℕ) (under rest over : List Run) (start : ℕ) : Type 0 where
  pub so_far : count + complete_under under rest start ≡ complete_under under over start
  pub low : EndsBelow rest (2 ^ 63)

pub begins_covering : (under over : List Run) (start : ℕ) → EndsBelow over (2 ^ 63) → IsCovering 0 under over over start
begins_covering under over start low = record { so_far = omega arith; low = low }

pub covers_on : (count : ℕ) (under rest others over : List Run) (run : Run) (start more : ℕ) → IsCovering count under rest over start → rest ≡ run ∷ others
    → more ≡ complete_between under (max run.first start) (run.last + 1) → IsCovering (count + more) under others over start
covers_on count under rest others over run start more p e m =
    let q : IsCovering count under (run ∷ others) over start = subst (λ (l : List Run). IsCovering count under l over start) e p in
    let so_far = q.so_far in
    record { so_far = omega (arith, so_far, m); low = q.low.1 }

pub covering_ends : (count : ℕ) (under rest over : List Run) (start : ℕ) → IsCovering count under rest over start → length rest ≡ 0 → count ≡ complete_under under over start
covering_ends count under [] over start p none = let so_far = p.so_far in omega (arith, so_far)
covering_ends count under (run ∷ rest) over start p none = absurd (omega (arith, none))

pub covering_fits : (under over : List Run) (start : ℕ) → IsCanonical under → EndsBelow under (2 ^ 63) → IsCanonical over → EndsBelow over (2 ^ 63)
    → complete_under under over start ≤ 2 ^ 63
covering_fits under over start cu eu co eo =
    let gone = gone_fits under over start (2 ^ 63) cu eu co eo in
    let rows = rows_between under (2 ^ 63) eu in
    let all = between_fits under 0 (2 ^ 63) (2 ^ 63) cu eu in
    omega (arith, gone, rows, all)

pub covering_low : (count : ℕ) (under rest others over : List Run) (run : Run) (start : ℕ) → IsCanonical under → EndsBelow under (2 ^ 63) → IsCanonical over
    → EndsBelow over (2 ^ 63) → IsCovering count under rest over start → rest ≡ run ∷ others
    → (run.last < 2 ^ 63) × (count + complete_between under (max run.first start) (run.last + 1) ≤ 2 ^ 63)
covering_low count under rest others over run start cu eu co eo p e =
    let q : IsCovering count under (run ∷ others) over start = subst (λ (l : List Run). IsCovering count under l over start) e p in
    let so_far = q.so_far in
    let all = covering_fits under over start cu eu co eo in
    (q.low.0, omega (arith, so_far, all))

-- the numbers of `complete_laid` fit
pub laid_room : (under over : List Run) (s complete : ℕ) → IsCanonical under → EndsBelow under (2 ^ 63) → IsCanonical over → EndsBelow over (2 ^ 63) → complete ≡ complete_rows under
    → (complete_between under 0 s + complete_under under over s ≤ complete)
    × (complete + complete_between over s (2 ^ 63) ≤ 2 ^ 63 + (complete_between under 0 s + complete_under under over s)) × (complete ≤ 2 ^ 63)
laid_room under over s complete cu eu co eo is =
    let gone = gone_fits under over s (2 ^ 63) cu eu co eo in
    let more = more_fits under over s (2 ^ 63) cu eu co eo in
    let rows = rows_between under (2 ^ 63) eu in
    let all = between_fits under 0 (2 ^ 63) (2 ^ 63) cu eu in
    (omega (arith, gone, is), omega (arith, more, is), omega (arith, rows, all, is))
