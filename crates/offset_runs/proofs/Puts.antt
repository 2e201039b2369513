-- A range that is put over runs.
use Rattle.std.proofs.Common.{◌≡◌, ℕ, length, take, drop, IfNone, subst, ◌+◌, ◌≤◌, Bool, true, false, cond, List}
use Rattle.std.proofs.Common.{[], ◌∷◌, ◌++◌, append-nil, Option, Some, None, refl, ap, ◌∙◌, sym, arith}
use Rattle.std.proofs.lemmas.Bool.Decides.{nat_tests}
use Rattle.std.specs.Prelude.{nat_le, nat_lt, ◌&&◌, not}
use Rattle.std.specs.Option.{option_or}
use Rattle.share_model.specs.Runs.{row_of, row_at, IsCanonical}
use Rattle.share_model.specs.declared.row.Row.{Row}
use Rattle.share_model.specs.declared.run.Run.{Run}
use Rattle.offset_runs.proofs.Joins.{choose, join-canonical, join-row_at, join-front, join-back, EndsBelow-more, EndsBelow-join}
use Rattle.offset_runs.proofs.Places.{drop-whole}
use Rattle.offset_runs.proofs.Cuts.{before-row_at, before-canonical, before-ends, from_on-row_at, from_on-canonical, from_on-starts}
use Rattle.offset_runs.specs.Parts.{touches, join, before, from_on, maybe_run, put_over, EndsBelow}
use Rattle.offset_runs.specs.Changes.{PutsRange}

-- runs in front of others that are joined stay
join-behind : (xs ps ys : List Run) → (ps ≡ [] → ⊥) → join (xs ++ ps) ys ≡ xs ++ join ps ys
join-behind [] ps ys some = refl
join-behind (x ∷ []) [] ys some = absurd (some refl)
join-behind (x ∷ []) (p ∷ ps) ys some = refl
join-behind (x ∷ x2 ∷ xs) ps ys some = ap (λ (l : List Run). x ∷ l) (join-behind (x2 ∷ xs) ps ys some)

join-some : (xs : List Run) (y : Run) → join xs (y ∷ []) ≡ [] → ⊥
join-some [] y e = cc
join-some (x ∷ []) y e =
    choose (λ (zs : List Run). zs ≡ [] → ⊥) (touches x y) ((record x { last = y.last }) ∷ []) (x ∷ y ∷ []) (λ t none. cc) (λ t none. cc) e
join-some (x ∷ x2 ∷ xs) y e = cc

head : (xs ys : List Run) (left : Option Run) → (left ≡ None → xs ≡ []) → join (xs ++ maybe_run left) ys ≡ xs ++ join (maybe_run left) ys
head xs ys None none = let e = none refl in ap (λ (l : List Run). join (l ++ []) ys) e ∙ ap (λ (l : List Run). l ++ ys) (sym e)
head xs ys (Some x) none = join-behind xs (x ∷ []) ys (λ e. cc)

tail : (xs ys : List Run) (right : Option Run) → (right ≡ None → ys ≡ []) → join xs (maybe_run right ++ ys) ≡ join xs (maybe_run right) ++ ys
tail xs ys None none = let e = none refl in
    ap (λ (l : List Run). join xs l) e ∙ sym (append-nil (join xs [])) ∙ ap (λ (l : List Run). join xs [] ++ l) (sym e)
tail xs ys (Some y) none = join-back xs y ys

-- what the pieces of a range make of the runs round it
pub pieces_between : (xs ys : List Run) (left right : Option Run) (middle : Run) → (left ≡ None → xs ≡ []) → (right ≡ None → ys ≡ [])
    → xs ++ (join (join (maybe_run left) (middle ∷ [])) (maybe_run right) ++ ys)
    ≡ join (join (xs ++ maybe_run left) (middle ∷ [])) (maybe_run right ++ ys)
pieces_between xs ys left right middle no_left no_right =
    let ps = join (maybe_run left) (middle ∷ []) in
    ap (λ (l : List Run). xs ++ l) (sym (tail ps ys right no_right))
    ∙ sym (join-behind xs ps (maybe_run right ++ ys) (join-some (maybe_run left) middle))
    ∙ ap (λ (l : List Run). join l (maybe_run right ++ ys)) (sym (head xs (middle ∷ []) left no_left))

pub put_over-canonical : (xs : List Run) (middle : Run) → IsCanonical xs → middle.first ≤ middle.last → IsCanonical (put_over xs middle)
put_over-canonical xs middle canonical order =
    let single : IsCanonical (middle ∷ []) = (order, tt, tt) in
    let ends : EndsBelow (middle ∷ []) (middle.last + 1) = (omega arith, tt) in
    join-canonical (join (before xs middle.first) (middle ∷ [])) (from_on xs (middle.last + 1)) (middle.last + 1)
    (join-canonical (before xs middle.first) (middle ∷ []) middle.first (before-canonical xs middle.first canonical) single (before-ends xs middle.first) (omega arith))
    (from_on-canonical xs (middle.last + 1) canonical)
    (EndsBelow-join (before xs middle.first) (middle ∷ []) (middle.last + 1)
    (EndsBelow-more (before xs middle.first) middle.first (middle.last + 1) (omega arith) (before-ends xs middle.first)) ends)
    (from_on-starts xs (middle.last + 1))

pick : (a c : Bool) (old : Option Row) (row : Row) → (a ≡ true → c ≡ true)
    → option_or (option_or (cond a old None) (cond (not a && c) (Some row) None)) (cond c None old) ≡ cond (not a && c) (Some row) old
pick true true None row both = refl
pick true true (Some x) row both = refl
pick true false old row both = let e = both refl in absurd cc
pick false true old row both = refl
pick false false old row both = refl

at_least : (m n : ℕ) → nat_le m n ≡ not (nat_lt n m)
at_least m n = grind (arith, nat_tests)

at_most : (m n : ℕ) → nat_lt m (n + 1) ≡ nat_le m n
at_most m n = grind (arith, nat_tests)

below_both : (o first last : ℕ) → first ≤ last → nat_lt o first ≡ true → nat_le o last ≡ true
below_both o first last order below = grind (arith, nat_tests)

pub put_over-rows : (xs : List Run) (middle : Run) → IsCanonical xs → middle.first ≤ middle.last → PutsRange xs (put_over xs middle) middle.first middle.last (row_of middle)
put_over-rows xs middle canonical order o =
    let single : IsCanonical (middle ∷ []) = (order, tt, tt) in
    let front = before xs middle.first in
    let back = from_on xs (middle.last + 1) in
    let front_canonical : IsCanonical front = before-canonical xs middle.first canonical in
    let both : IsCanonical (join front (middle ∷ [])) =
    join-canonical front (middle ∷ []) middle.first front_canonical single (before-ends xs middle.first) (omega arith) in
    let a = nat_lt o middle.first in
    let c = nat_le o middle.last in
    let old = row_at xs o in
    let row = row_of middle in
    join-row_at (join front (middle ∷ [])) back o both (from_on-canonical xs (middle.last + 1) canonical)
    ∙ ap (λ (r : Option Row). option_or r (row_at back o)) (join-row_at front (middle ∷ []) o front_canonical single)
    ∙ ap (λ (r : Option Row). option_or (option_or r (row_at (middle ∷ []) o)) (row_at back o)) (before-row_at xs middle.first o canonical)
    ∙ ap (λ (r : Option Row). option_or (option_or (cond a old None) (row_at (middle ∷ []) o)) r) (from_on-row_at xs (middle.last + 1) o canonical)
    ∙ ap (λ (b : Bool). option_or (option_or (cond a old None) (cond (b && c) (Some row) None)) (cond (nat_lt o (middle.last + 1)) None old)) (at_least middle.first o)
    ∙ ap (λ (b : Bool). option_or (option_or (cond a old None) (cond (not a && c) (Some row) None)) (cond b None old)) (at_most o middle.last)
    ∙ pick a c old row (below_both o middle.first middle.last order)
    ∙ ap (λ (b : Bool). cond (b && c) (Some row) old) (sym (at_least middle.first o))

none_before : (left : Option Run) (start : ℕ) (xs : List Run) → IfNone left (start ≡ 0) → left ≡ None → take start xs ≡ []
none_before None start xs none e = ap (λ (n : ℕ). take n xs) none
none_before (Some x) start xs none e = absurd cc

none_behind : (right : Option Run) (end : ℕ) (xs : List Run) → IfNone right (end ≡ length xs) → right ≡ None → drop end xs ≡ []
none_behind None end xs none e = drop-whole xs end none
none_behind (Some x) end xs none e = absurd cc

-- what the parts round a range and its pieces make
pub put_parts : (xs front back new pieces : List Run) (start end : ℕ) (left right : Option Run) (middle : Run) → front ≡ xs → back ≡ xs
    → before front middle.first ≡ take start front ++ maybe_run left → IfNone left (start ≡ 0)
    → from_on back (middle.last + 1) ≡ maybe_run right ++ drop end back → IfNone right (end ≡ length back)
    → pieces ≡ join (join (maybe_run left) (middle ∷ [])) (maybe_run right) → new ≡ take start xs ++ (pieces ++ drop end xs)
    → new ≡ put_over xs middle
put_parts xs front back new pieces start end left right middle same same2 before_is no_left behind_is no_right pieces_are new_is =
    let no_right2 : IfNone right (end ≡ length xs) = subst (λ (l : List Run). IfNone right (end ≡ length l)) same2 no_right in
    let before2 : before xs middle.first ≡ take start xs ++ maybe_run left =
    subst (λ (l : List Run). before l middle.first ≡ take start l ++ maybe_run left) same before_is in
    let behind2 : from_on xs (middle.last + 1) ≡ maybe_run right ++ drop end xs =
    subst (λ (l : List Run). from_on l (middle.last + 1) ≡ maybe_run right ++ drop end l) same2 behind_is in
    new_is ∙ ap (λ (l : List Run). take start xs ++ (l ++ drop end xs)) pieces_are
    ∙ pieces_between (take start xs) (drop end xs) left right middle (none_before left start xs no_left) (none_behind right end xs no_right2)
    ∙ ap (λ (l : List Run). join (join l (middle ∷ [])) (maybe_run right ++ drop end xs)) (sym before2)
    ∙ ap (λ (l : List Run). join (join (before xs middle.first) (middle ∷ [])) l) (sym behind2)

-- the run of a range, once it is joined to what is left before it and behind it
pub pieces_joined : (left l right r : Option Run) (middle m n : Run) → maybe_run l ++ m ∷ [] ≡ join (maybe_run left) (middle ∷ [])
    → n ∷ maybe_run r ≡ join (m ∷ []) (maybe_run right)
    → maybe_run l ++ n ∷ maybe_run r ≡ join (join (maybe_run left) (middle ∷ [])) (maybe_run right)
pieces_joined left l right r middle m n before_is behind_is =
    ap (λ (xs : List Run). maybe_run l ++ xs) behind_is ∙ sym (join-front (maybe_run l) m (maybe_run right))
    ∙ ap (λ (xs : List Run). join xs (maybe_run right)) before_is

pub maybe_few : (run : Option Run) → length (maybe_run run) ≤ 1
maybe_few None = omega arith
maybe_few (Some x) = omega arith
