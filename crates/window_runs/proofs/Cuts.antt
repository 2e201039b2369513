-- Runs without a range: what they hold, and that they are canonical.
use Rattle.std.proofs.Common.{◌≡◌, ℕ, zero, suc, ◌+◌, ◌-◌, ◌<◌, ◌≤◌, Bool, true, false, cond, List, [], ◌∷◌, ◌++◌, length, take, drop, refl, ap, ◌∙◌, sym, subst, arith, inl, inr}
use Rattle.std.proofs.lemmas.Bool.{cases_lt}
use Rattle.std.proofs.lemmas.Bool.Decides.{nat_tests}
use Rattle.std.proofs.lemmas.List.{append_assoc, length-append}
use Rattle.std.proofs.lemmas.List.Elements.{filter-append}
use Rattle.std.specs.Prelude.{nat_lt, nat_le, not, ◌&&◌, min, max}
use Rattle.share_model.specs.Held.{Held, without_range}
use Rattle.share_model.specs.declared.hold.Hold.{Hold}
use Rattle.lock_index.specs.declared.run.HoldRun.{HoldRun}
use Rattle.lock_index.specs.Runs.{Follows, IsCanonical, held_from, held_of}
use Rattle.lock_index.proofs.Edits.{kept, gone}
use Rattle.lock_index.proofs.Orders.{kept_below, kept_above, gone_within}
use Rattle.window_runs.specs.Cuts.{cut, cut_run, part_below, part_behind}

-- ---- what lists of runs hold

pub held_both : (xs ys : List HoldRun) → held_of (xs ++ ys) ≡ held_of xs ++ held_of ys
held_both [] ys = refl
held_both (x ∷ xs) ys =
    let own = held_from x.first ((x.last + 1) - x.first) x.hold in
    ap (λ (l : Held). own ++ l) (held_both xs ys) ∙ sym (append_assoc own (held_of xs) (held_of ys))

pub held_length : (n first : ℕ) (hold : Hold) → length (held_from first n hold) ≡ n
held_length zero first hold = refl
held_length (suc n) first hold = ap suc (held_length n (first + 1) hold)

pub run_length : (x : HoldRun) (xs : List HoldRun) → length (held_of (x ∷ xs)) ≡ ((x.last + 1) - x.first) + length (held_of xs)
run_length x xs =
    length-append (held_from x.first ((x.last + 1) - x.first) x.hold) (held_of xs)
    ∙ ap (λ (k : ℕ). k + length (held_of xs)) (held_length ((x.last + 1) - x.first) x.first x.hold)

pub both_length : (xs ys : List HoldRun) → length (held_of (xs ++ ys)) ≡ length (held_of xs) + length (held_of ys)
both_length xs ys = ap length (held_both xs ys) ∙ length-append (held_of xs) (held_of ys)

-- each run of canonical ones holds an offset
pub each_holds : (xs : List HoldRun) → IsCanonical xs → length xs ≤ length (held_of xs)
each_holds [] canonical = omega arith
each_holds (x ∷ xs) canonical = omega (arith, canonical.0, run_length x xs, each_holds xs canonical.2)

-- ---- the parts of a run

pub none_below : (first : ℕ) (r : HoldRun) → first ≤ r.first → part_below first r ≡ []
none_below first r le = ap (λ (b : Bool). cond b ((record r { last = min r.last (first - 1) }) ∷ []) []) (test r.first first le) where
  test : (m n : ℕ) → n ≤ m → nat_lt m n ≡ false
  test m n le = grind (arith, nat_tests)

pub some_below : (first : ℕ) (r : HoldRun) → r.first < first → part_below first r ≡ (record r { last = min r.last (first - 1) }) ∷ []
some_below first r le = ap (λ (b : Bool). cond b ((record r { last = min r.last (first - 1) }) ∷ []) []) (test r.first first le) where
  test : (m n : ℕ) → m < n → nat_lt m n ≡ true
  test m n le = grind (arith, nat_tests)

pub none_behind : (last : ℕ) (r : HoldRun) → r.last ≤ last → part_behind last r ≡ []
none_behind last r le = ap (λ (b : Bool). cond b ((record r { first = max r.first (last + 1) }) ∷ []) []) (test last r.last le) where
  test : (m n : ℕ) → n ≤ m → nat_lt m n ≡ false
  test m n le = grind (arith, nat_tests)

pub some_behind : (last : ℕ) (r : HoldRun) → last < r.last → part_behind last r ≡ (record r { first = max r.first (last + 1) }) ∷ []
some_behind last r le = ap (λ (b : Bool). cond b ((record r { first = max r.first (last + 1) }) ∷ []) []) (test last r.last le) where
  test : (m n : ℕ) → m < n → nat_lt m n ≡ true
  test m n le = grind (arith, nat_tests)

-- of a run that the range meets
pub cut_whole : (first last : ℕ) (r : HoldRun) → first ≤ r.first → r.last ≤ last → cut_run first last r ≡ []
cut_whole first last r lo hi = ap (λ (l : List HoldRun). l ++ part_behind last r) (none_below first r lo) ∙ none_behind last r hi

pub cut_end : (first last : ℕ) (r : HoldRun) → r.first < first → first ≤ r.last → r.last ≤ last → cut_run first last r ≡ (record r { last = first - 1 }) ∷ []
cut_end first last r lo meets hi =
    ap (λ (l : List HoldRun). l ++ part_behind last r) (some_below first r lo)
    ∙ ap (λ (l : List HoldRun). (record r { last = min r.last (first - 1) }) ∷ l) (none_behind last r hi)
    ∙ (let less : min r.last (first - 1) ≡ first - 1 = omega arith in ap (λ (k : ℕ). (record r { last = k }) ∷ []) less)

pub cut_begin : (first last : ℕ) (r : HoldRun) → first ≤ r.first → r.first ≤ last → last < r.last → cut_run first last r ≡ (record r { first = last + 1 }) ∷ []
cut_begin first last r lo meets hi =
    ap (λ (l : List HoldRun). l ++ part_behind last r) (none_below first r lo) ∙ some_behind last r hi
    ∙ (let more : max r.first (last + 1) ≡ last + 1 = omega arith in ap (λ (k : ℕ). (record r { first = k }) ∷ []) more)

pub cut_middle : (first last : ℕ) (r : HoldRun) → first ≤ last → r.first < first → last < r.last
    → cut_run first last r ≡ (record r { last = first - 1 }) ∷ ((record r { first = last + 1 }) ∷ [])
cut_middle first last r order lo hi =
    ap (λ (l : List HoldRun). l ++ part_behind last r) (some_below first r lo)
    ∙ ap (λ (l : List HoldRun). (record r { last = min r.last (first - 1) }) ∷ l) (some_behind last r hi)
    ∙ (let less : min r.last (first - 1) ≡ first - 1 = omega arith in let more : max r.first (last + 1) ≡ last + 1 = omega arith in
    ap (λ (k : ℕ). (record r { last = k }) ∷ ((record r { first = max r.first (last + 1) }) ∷ [])) less
    ∙ ap (λ (k : ℕ). (record r { last = first - 1 }) ∷ ((record r { first = k }) ∷ [])) more)

-- of one that lies beside it
pub cut_ended : (first last : ℕ) (r : HoldRun) → first ≤ last → r.first ≤ r.last → r.last < first → cut_run first last r ≡ r ∷ []
cut_ended first last r order some lo =
    ap (λ (l : List HoldRun). l ++ part_behind last r) (some_below first r (omega arith))
    ∙ ap (λ (l : List HoldRun). (record r { last = min r.last (first - 1) }) ∷ l) (none_behind last r (omega arith))
    ∙ (let same : min r.last (first - 1) ≡ r.last = omega arith in ap (λ (k : ℕ). (record r { last = k }) ∷ []) same)

pub cut_later : (first last : ℕ) (r : HoldRun) → first ≤ last → r.first ≤ r.last → last < r.first → cut_run first last r ≡ r ∷ []
cut_later first last r order some hi =
    ap (λ (l : List HoldRun). l ++ part_behind last r) (none_below first r (omega arith)) ∙ some_behind last r (omega arith)
    ∙ (let same : max r.first (last + 1) ≡ r.first = omega arith in ap (λ (k : ℕ). (record r { first = k }) ∷ []) same)

-- ---- what they hold

-- offsets that follow one another, without a range
without_from : (first last n a : ℕ) (hold : Hold) → first ≤ last
    → without_range first last (held_from a n hold) ≡ held_from a (min n (first - a)) hold ++ held_from (max a (last + 1)) ((a + n) - max a (last + 1)) hold
without_from first last zero a hold order =
    let none : (a + 0) - max a (last + 1) ≡ 0 = omega arith in
    let zero_min : min 0 (first - a) ≡ 0 = omega arith in
    ap (λ (k : ℕ). held_from (max a (last + 1)) k hold) (sym none)
    ∙ ap (λ (k : ℕ). held_from a k hold ++ held_from (max a (last + 1)) ((a + 0) - max a (last + 1)) hold) (sym zero_min)
without_from first last (suc n) a hold order =
    let rest = without_from first last n (a + 1) hold order in
    elim (cases_lt a first) [
      | inl under ↦
          let test = kept_below first last a under in
          let front : min (suc n) (first - a) ≡ suc (min n (first - (a + 1))) = omega arith in
          let start : max (a + 1) (last + 1) ≡ max a (last + 1) = omega arith in
          let count : ((a + 1) + n) - max (a + 1) (last + 1) ≡ (a + suc n) - max a (last + 1) = omega arith in
          kept first last (a, hold) (held_from (a + 1) n hold) test ∙ ap (λ (l : Held). (a, hold) ∷ l) (rest
          ∙ ap (λ (k : ℕ). held_from (a + 1) (min n (first - (a + 1))) hold ++ held_from k (((a + 1) + n) - max (a + 1) (last + 1)) hold) start
          ∙ ap (λ (k : ℕ). held_from (a + 1) (min n (first - (a + 1))) hold ++ held_from (max a (last + 1)) k hold) count)
          ∙ ap (λ (k : ℕ). held_from a k hold ++ held_from (max a (last + 1)) ((a + suc n) - max a (last + 1)) hold) (sym front)
      | inr from ↦ elim (cases_lt last a) [
        | inl over ↦
            let test = kept_above first last a over in
            let none : min n (first - (a + 1)) ≡ 0 = omega arith in
            let start : max (a + 1) (last + 1) ≡ a + 1 = omega arith in
            let count : ((a + 1) + n) - max (a + 1) (last + 1) ≡ n = omega arith in
            let none2 : min (suc n) (first - a) ≡ 0 = omega arith in
            let start2 : max a (last + 1) ≡ a = omega arith in
            let count2 : (a + suc n) - max a (last + 1) ≡ suc n = omega arith in
            kept first last (a, hold) (held_from (a + 1) n hold) test ∙ ap (λ (l : Held). (a, hold) ∷ l) (rest
            ∙ ap (λ (k : ℕ). held_from (a + 1) k hold ++ held_from (max (a + 1) (last + 1)) (((a + 1) + n) - max (a + 1) (last + 1)) hold) none
            ∙ ap (λ (k : ℕ). held_from k (((a + 1) + n) - max (a + 1) (last + 1)) hold) start
            ∙ ap (λ (k : ℕ). held_from (a + 1) k hold) count)
            ∙ sym (ap (λ (k : ℕ). held_from a k hold ++ held_from (max a (last + 1)) ((a + suc n) - max a (last + 1)) hold) none2
            ∙ ap (λ (k : ℕ). held_from k ((a + suc n) - max a (last + 1)) hold) start2
            ∙ ap (λ (k : ℕ). held_from a k hold) count2)
        | inr upto ↦
            let test = gone_within first last a from upto in
            let none : min n (first - (a + 1)) ≡ 0 = omega arith in
            let none2 : min (suc n) (first - a) ≡ 0 = omega arith in
            let start : max (a + 1) (last + 1) ≡ max a (last + 1) = omega arith in
            let count : ((a + 1) + n) - max (a + 1) (last + 1) ≡ (a + suc n) - max a (last + 1) = omega arith in
            gone first last (a, hold) (held_from (a + 1) n hold) test ∙ rest
            ∙ ap (λ (k : ℕ). held_from (a + 1) k hold ++ held_from (max (a + 1) (last + 1)) (((a + 1) + n) - max (a + 1) (last + 1)) hold) none
            ∙ ap (λ (k : ℕ). held_from k (((a + 1) + n) - max (a + 1) (last + 1)) hold) start
            ∙ ap (λ (k : ℕ). held_from (max a (last + 1)) k hold) count
            ∙ sym (ap (λ (k : ℕ). held_from a k hold ++ held_from (max a (last + 1)) ((a + suc n) - max a (last + 1)) hold) none2)
      ]
    ]

pub one_run : (r : HoldRun) → held_of (r ∷ []) ≡ held_from r.first ((r.last + 1) - r.first) r.hold
one_run r = nothing_more (held_from r.first ((r.last + 1) - r.first) r.hold) where
  nothing_more : (l : Held) → l ++ [] ≡ l
  nothing_more [] = refl
  nothing_more (e ∷ es) = ap (λ (l : Held). e ∷ l) (nothing_more es)

held_below : (first : ℕ) (r : HoldRun) → held_of (part_below first r) ≡ held_from r.first (min ((r.last + 1) - r.first) (first - r.first)) r.hold
held_below first r = elim (cases_lt r.first first) [
  | inl lo ↦
      let count : (min r.last (first - 1) + 1) - r.first ≡ min ((r.last + 1) - r.first) (first - r.first) = omega arith in
      ap held_of (some_below first r lo) ∙ one_run (record r { last = min r.last (first - 1) }) ∙ ap (λ (k : ℕ). held_from r.first k r.hold) count
  | inr hi ↦
      let none : min ((r.last + 1) - r.first) (first - r.first) ≡ 0 = omega arith in
      ap held_of (none_below first r hi) ∙ ap (λ (k : ℕ). held_from r.first k r.hold) (sym none)
]

held_behind : (last : ℕ) (r : HoldRun) → r.first ≤ r.last
    → held_of (part_behind last r) ≡ held_from (max r.first (last + 1)) ((r.first + ((r.last + 1) - r.first)) - max r.first (last + 1)) r.hold
held_behind last r some = elim (cases_lt last r.last) [
  | inl lo ↦
      let count : (r.last + 1) - max r.first (last + 1) ≡ (r.first + ((r.last + 1) - r.first)) - max r.first (last + 1) = omega arith in
      ap held_of (some_behind last r lo) ∙ one_run (record r { first = max r.first (last + 1) })
      ∙ ap (λ (k : ℕ). held_from (max r.first (last + 1)) k r.hold) count
  | inr hi ↦
      let none : (r.first + ((r.last + 1) - r.first)) - max r.first (last + 1) ≡ 0 = omega arith in
      ap held_of (none_behind last r hi) ∙ ap (λ (k : ℕ). held_from (max r.first (last + 1)) k r.hold) (sym none)
]

held_cut_run : (first last : ℕ) (r : HoldRun) → first ≤ last → r.first ≤ r.last
    → held_of (cut_run first last r) ≡ without_range first last (held_from r.first ((r.last + 1) - r.first) r.hold)
held_cut_run first last r order some =
    held_both (part_below first r) (part_behind last r)
    ∙ ap (λ (l : Held). l ++ held_of (part_behind last r)) (held_below first r)
    ∙ ap (λ (l : Held). held_from r.first (min ((r.last + 1) - r.first) (first - r.first)) r.hold ++ l) (held_behind last r some)
    ∙ sym (without_from first last ((r.last + 1) - r.first) r.first r.hold order)

-- runs without a range hold what they held, without it
pub held_cut : (first last : ℕ) (xs : List HoldRun) → first ≤ last → IsCanonical xs → held_of (cut first last xs) ≡ without_range first last (held_of xs)
held_cut first last [] order canonical = refl
held_cut first last (x ∷ xs) order canonical =
    held_both (cut_run first last x) (cut first last xs)
    ∙ ap (λ (l : Held). l ++ held_of (cut first last xs)) (held_cut_run first last x order canonical.0)
    ∙ ap (λ (l : Held). without_range first last (held_from x.first ((x.last + 1) - x.first) x.hold) ++ l) (held_cut first last xs order canonical.2)
    ∙ sym (filter-append (λ (e : ℕ × Hold). not (nat_le first e.0 && nat_le e.0 last)) (held_from x.first ((x.last + 1) - x.first) x.hold) (held_of xs))

-- ---- order

-- a run from the end of the range on, before others
cut_tail : (first last : ℕ) (x : HoldRun) (ys : List HoldRun) → x.first ≤ x.last → Follows x ys → IsCanonical ys → IsCanonical (part_behind last x ++ ys)
cut_tail first last x ys some follows canonical = elim (cases_lt last x.last) [
  | inl hi ↦ subst (λ (l : List HoldRun). IsCanonical (l ++ ys)) (sym (some_behind last x hi)) (omega arith, follows_as x (max x.first (last + 1)) ys follows, canonical)
  | inr lo ↦ subst (λ (l : List HoldRun). IsCanonical (l ++ ys)) (sym (none_behind last x lo)) canonical
] where
  follows_as : (x : HoldRun) (first : ℕ) (ys : List HoldRun) → Follows x ys → Follows (record x { first = first }) ys
  follows_as x first [] follows = tt
  follows_as x first (y ∷ ys) follows = follows

-- what is left of the runs behind one still follows it
pub follows_cut : (first last : ℕ) (r : HoldRun) (xs : List HoldRun) → first ≤ last → Follows r xs → IsCanonical xs → Follows r (cut first last xs)
follows_cut first last r [] order follows canonical = tt
follows_cut first last r (x ∷ xs) order follows canonical = elim (cases_lt x.first first) [
  | inl lo ↦ subst (λ (l : List HoldRun). Follows r (l ++ part_behind last x ++ cut first last xs)) (sym (some_below first x lo)) follows
  | inr from ↦ subst (λ (l : List HoldRun). Follows r (l ++ part_behind last x ++ cut first last xs)) (sym (none_below first x from)) (elim (cases_lt last x.last) [
    | inl hi ↦ subst (λ (l : List HoldRun). Follows r (l ++ cut first last xs)) (sym (some_behind last x hi)) (omega (arith, follows.0), λ touches. follows.1 (omega (arith, follows.0, touches)))
    | inr lo ↦ subst (λ (l : List HoldRun). Follows r (l ++ cut first last xs)) (sym (none_behind last x lo))
        (follows_cut first last r xs order (far r x xs (omega (arith, follows.0, canonical.0)) canonical.1) canonical.2)
  ])
] where
  far : (r x : HoldRun) (xs : List HoldRun) → r.last < x.last → Follows x xs → Follows r xs
  far r x [] lt follows = tt
  far r x (y ∷ ys) lt follows = (omega (arith, follows.0), λ touches. absurd (omega (arith, touches, follows.0)))

pub canonical_cut : (first last : ℕ) (xs : List HoldRun) → first ≤ last → IsCanonical xs → IsCanonical (cut first last xs)
canonical_cut first last [] order canonical = tt
canonical_cut first last (x ∷ xs) order canonical =
    let rest = canonical_cut first last xs order canonical.2 in
    let tail = cut_tail first last x (cut first last xs) canonical.0 (follows_cut first last x xs order canonical.1 canonical.2) rest in
    subst IsCanonical (sym (append_assoc (part_below first x) (part_behind last x) (cut first last xs))) (elim (cases_lt x.first first) [
      | inl lo ↦ subst (λ (l : List HoldRun). IsCanonical (l ++ (part_behind last x ++ cut first last xs))) (sym (some_below first x lo))
          (omega (arith, canonical.0), gap first last x (cut first last xs) order lo (follows_cut first last x xs order canonical.1 canonical.2), tail)
      | inr from ↦ subst (λ (l : List HoldRun). IsCanonical (l ++ (part_behind last x ++ cut first last xs))) (sym (none_below first x from)) tail
    ]) where
      follows_less : (x : HoldRun) (k : ℕ) (ys : List HoldRun) → k ≤ x.last → Follows x ys → Follows (record x { last = k }) ys
      follows_less x k [] le follows = tt
      follows_less x k (y ∷ ys) le follows = (omega (arith, follows.0), λ touches. follows.1 (omega (arith, touches, follows.0)))

      gap : (first last : ℕ) (x : HoldRun) (ys : List HoldRun) → first ≤ last → x.first < first → Follows x ys
          → Follows (record x { last = min x.last (first - 1) }) (part_behind last x ++ ys)
      gap first last x ys order lo follows = elim (cases_lt last x.last) [
        | inl hi ↦ subst (λ (l : List HoldRun). Follows (record x { last = min x.last (first - 1) }) (l ++ ys)) (sym (some_behind last x hi))
            (omega arith, λ touches. absurd (omega (arith, touches)))
        | inr upto ↦ subst (λ (l : List HoldRun). Follows (record x { last = min x.last (first - 1) }) (l ++ ys)) (sym (none_behind last x upto))
            (follows_less x (min x.last (first - 1)) ys (omega arith) follows)
      ]

-- runs of which those from a place on are cut
pub canonical_behind : (first last n : ℕ) (xs : List HoldRun) → first ≤ last → IsCanonical xs → IsCanonical (take n xs ++ cut first last (drop n xs))
canonical_behind first last zero xs order canonical = canonical_cut first last xs order canonical
canonical_behind first last (suc n) [] order canonical = tt
canonical_behind first last (suc zero) (x ∷ xs) order canonical =
    (canonical.0, follows_cut first last x xs order canonical.1 canonical.2, canonical_cut first last xs order canonical.2)
canonical_behind first last (suc (suc n)) (x ∷ []) order canonical = (canonical.0, tt, tt)
canonical_behind first last (suc (suc n)) (x ∷ y ∷ xs) order canonical =
    (canonical.0, canonical.1, canonical_behind first last (suc n) (y ∷ xs) order canonical.2)

-- a range that ends before it begins takes nothing
pub without_nothing : (first last : ℕ) (held : Held) → last < first → held ≡ without_range first last held
without_nothing first last [] empty = refl
without_nothing first last (e ∷ es) empty =
    ap (λ (l : Held). e ∷ l) (without_nothing first last es empty) ∙ sym (kept first last e es (outside first last e.0 empty)) where
      outside : (first last o : ℕ) → last < first → not (nat_le first o && nat_le o last) ≡ true
      outside first last o empty = grind (arith, nat_tests)
