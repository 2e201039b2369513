-- Runs that are put together.
use Rattle.std.proofs.Common.{◌≡◌, ℕ, ◌+◌, ◌≤◌, Bool, true, false, cond, List, [], ◌∷◌, ◌++◌, Option, Some, None, refl, ap, ◌∙◌, sym, arith, inl, inr}
use Rattle.std.proofs.lemmas.Bool.{cases_lt}
use Rattle.std.proofs.lemmas.Bool.Decides.{nat_tests}
use Rattle.std.specs.Prelude.{nat_le, ◌&&◌}
use Rattle.std.specs.Option.{option_or}
use Rattle.share_model.proofs.Lookups.{row_at-here, row_at-below, row_at-beyond}
use Rattle.share_model.specs.Rows.{state_number}
use Rattle.share_model.specs.Runs.{row_of, row_at, Follows, IsCanonical}
use Rattle.share_model.specs.declared.row.Row.{Row}
use Rattle.share_model.specs.declared.row.RowState.{RowState}
use Rattle.share_model.specs.declared.row.RowState.TheVariants.{Available, Acknowledged, Archived}
use Rattle.share_model.specs.declared.run.Run.{Run}
use Rattle.offset_runs.specs.Parts.{touches, join, EndsBelow, StartsFrom}

-- a choice by a test, and what the test says
pub choose : {A : Type 0} (P : A → Type 0) (b : Bool) (x y : A) → (b ≡ true → P x) → (b ≡ false → P y) → P (cond b x y)
choose P true x y at_true at_false = at_true refl
choose P false x y at_true at_false = at_false refl

same_state : (a b : RowState) → state_number a ≡ state_number b → a ≡ b
same_state Available Available e = refl
same_state Available Acknowledged e = absurd (omega arith)
same_state Available Archived e = absurd (omega arith)
same_state Acknowledged Available e = absurd (omega arith)
same_state Acknowledged Acknowledged e = refl
same_state Acknowledged Archived e = absurd (omega arith)
same_state Archived Available e = absurd (omega arith)
same_state Archived Acknowledged e = absurd (omega arith)
same_state Archived Archived e = refl

pub touches_true : (x y : Run) → touches x y ≡ true → (y.first ≡ x.last + 1) × (row_of x ≡ row_of y)
unfolding touches
touches_true x y e =
    let parts : (x.last + 1 ≡ y.first) × (state_number x.state ≡ state_number y.state) × (x.count ≡ y.count) = grind (arith, nat_tests) in
    let state = same_state x.state y.state parts.1 in
    (sym parts.0, λ i. record { state = state i; count = parts.2 i })

pub touches_false : (x y : Run) → touches x y ≡ false → y.first ≡ x.last + 1 → row_of y ≡ row_of x → ⊥
unfolding touches
touches_false x y e first row =
    let state : state_number x.state ≡ state_number y.state = ap (λ (r : Row). state_number r.state) (sym row) in
    let count : x.count ≡ y.count = ap (λ (r : Row). r.count) (sym row) in
    grind (arith, nat_tests)

-- the first run of a list that is joined keeps its begin and its row
Follows-join : (run x : Run) (xs ys : List Run) → Follows run (x ∷ xs) → Follows run (join (x ∷ xs) ys)
Follows-join run x [] [] follows = follows
Follows-join run x [] (y ∷ ys) follows =
    choose (λ (zs : List Run). Follows run zs) (touches x y) ((record x { last = y.last }) ∷ ys) (x ∷ y ∷ ys) (λ e. follows) (λ e. follows)
Follows-join run x (x2 ∷ xs) ys follows = follows

Follows-taken : (x y : Run) (ys : List Run) → row_of x ≡ row_of y → Follows y ys → Follows (record x { last = y.last }) ys
Follows-taken x y [] row follows = tt
Follows-taken x y (next ∷ ys) row follows = (follows.0, λ touch same. follows.1 touch (same ∙ row))

pub join-canonical : (xs ys : List Run) (f : ℕ) → IsCanonical xs → IsCanonical ys → EndsBelow xs f → StartsFrom ys f → IsCanonical (join xs ys)
join-canonical [] ys f cx cy ends starts = cy
join-canonical (x ∷ []) [] f cx cy ends starts = cx
join-canonical (x ∷ []) (y ∷ ys) f cx cy ends starts =
    choose IsCanonical (touches x y) ((record x { last = y.last }) ∷ ys) (x ∷ y ∷ ys)
    (λ e. (omega (arith, cx.0, cy.0, ends.0), Follows-taken x y ys (touches_true x y e).1 cy.1, cy.2))
    (λ e. (cx.0, (omega (arith, ends.0), touches_false x y e), cy))
join-canonical (x ∷ x2 ∷ xs) ys f cx cy ends starts =
    (cx.0, Follows-join x x2 xs ys cx.1, join-canonical (x2 ∷ xs) ys f cx.2 cy ends.1 starts)

option_or-none : (o : Option Row) → option_or o None ≡ o
option_or-none None = refl
option_or-none (Some row) = refl

option_or-assoc : (a b c : Option Row) → option_or (option_or a b) c ≡ option_or a (option_or b c)
option_or-assoc None b c = refl
option_or-assoc (Some row) b c = refl

or_of_test : (b : Bool) (row : Row) (o : Option Row) → cond b (Some row) o ≡ option_or (cond b (Some row) None) o
or_of_test true row o = refl
or_of_test false row o = refl

pub row_at-cons : (x : Run) (xs : List Run) (o : ℕ) → row_at (x ∷ xs) o ≡ option_or (row_at (x ∷ []) o) (row_at xs o)
row_at-cons x xs o = or_of_test (nat_le x.first o && nat_le o x.last) (row_of x) (row_at xs o)

pub row_at-append : (xs ys : List Run) (o : ℕ) → row_at (xs ++ ys) o ≡ option_or (row_at xs o) (row_at ys o)
row_at-append [] ys o = refl
row_at-append (x ∷ xs) ys o =
    row_at-cons x (xs ++ ys) o ∙ ap (option_or (row_at (x ∷ []) o)) (row_at-append xs ys o)
    ∙ sym (option_or-assoc (row_at (x ∷ []) o) (row_at xs o) (row_at ys o)) ∙ ap (λ (l : Option Row). option_or l (row_at ys o)) (sym (row_at-cons x xs o))

-- one run from the begin of the first to the end of the second has the rows of both
taken-row_at : (x y : Run) (ys : List Run) (o : ℕ) → x.first ≤ x.last → y.first ≤ y.last → y.first ≡ x.last + 1 → row_of x ≡ row_of y
    → row_at ((record x { last = y.last }) ∷ ys) o ≡ option_or (row_at (x ∷ []) o) (row_at (y ∷ ys) o)
taken-row_at x y ys o some next touch row =
    let both : Run = record x { last = y.last } in
    elim (cases_lt o x.first) [
      | inl below ↦
          row_at-below both ys o below ∙ sym (row_at-below y ys o (omega arith)) ∙ ap (λ (l : Option Row). option_or l (row_at (y ∷ ys) o)) (sym (row_at-below x [] o below))
      | inr from ↦ elim (cases_lt x.last o) [
        | inr upto ↦ row_at-here both ys o from (omega arith) ∙ ap (λ (l : Option Row). option_or l (row_at (y ∷ ys) o)) (sym (row_at-here x [] o from upto))
        | inl beyond ↦ let first : row_at (x ∷ []) o ≡ None = row_at-beyond x [] o beyond in elim (cases_lt y.last o) [
          | inl past ↦ row_at-beyond both ys o past ∙ sym (row_at-beyond y ys o past) ∙ ap (λ (l : Option Row). option_or l (row_at (y ∷ ys) o)) (sym first)
          | inr within ↦
              row_at-here both ys o (omega arith) within ∙ ap (λ (r : Row). Some r) row ∙ sym (row_at-here y ys o (omega arith) within)
              ∙ ap (λ (l : Option Row). option_or l (row_at (y ∷ ys) o)) (sym first)
        ]
      ]
    ]

pub join-row_at : (xs ys : List Run) (o : ℕ) → IsCanonical xs → IsCanonical ys → row_at (join xs ys) o ≡ option_or (row_at xs o) (row_at ys o)
join-row_at [] ys o cx cy = refl
join-row_at (x ∷ []) [] o cx cy = sym (option_or-none (row_at (x ∷ []) o))
join-row_at (x ∷ []) (y ∷ ys) o cx cy =
    choose (λ (zs : List Run). row_at zs o ≡ option_or (row_at (x ∷ []) o) (row_at (y ∷ ys) o)) (touches x y) ((record x { last = y.last }) ∷ ys) (x ∷ y ∷ ys)
    (λ e. let t = touches_true x y e in taken-row_at x y ys o cx.0 cy.0 t.0 t.1)
    (λ e. row_at-cons x (y ∷ ys) o)
join-row_at (x ∷ x2 ∷ xs) ys o cx cy =
    row_at-cons x (join (x2 ∷ xs) ys) o ∙ ap (option_or (row_at (x ∷ []) o)) (join-row_at (x2 ∷ xs) ys o cx.2 cy)
    ∙ sym (option_or-assoc (row_at (x ∷ []) o) (row_at (x2 ∷ xs) o) (row_at ys o)) ∙ ap (λ (l : Option Row). option_or l (row_at ys o)) (sym (row_at-cons x (x2 ∷ xs) o))

pub EndsBelow-more : (xs : List Run) (f g : ℕ) → f ≤ g → EndsBelow xs f → EndsBelow xs g
EndsBelow-more [] f g le ends = tt
EndsBelow-more (x ∷ xs) f g le ends = (omega (arith, ends.0), EndsBelow-more xs f g le ends.1)

pub EndsBelow-join : (xs ys : List Run) (f : ℕ) → EndsBelow xs f → EndsBelow ys f → EndsBelow (join xs ys) f
EndsBelow-join [] ys f ex ey = ey
EndsBelow-join (x ∷ []) [] f ex ey = ex
EndsBelow-join (x ∷ []) (y ∷ ys) f ex ey =
    choose (λ (zs : List Run). EndsBelow zs f) (touches x y) ((record x { last = y.last }) ∷ ys) (x ∷ y ∷ ys) (λ e. ey) (λ e. (ex.0, ey))
EndsBelow-join (x ∷ x2 ∷ xs) ys f ex ey = (ex.0, EndsBelow-join (x2 ∷ xs) ys f ex.1 ey)

-- all but the last run of the first list stay
pub join-front : (xs : List Run) (x : Run) (ys : List Run) → join (xs ++ x ∷ []) ys ≡ xs ++ join (x ∷ []) ys
join-front [] x ys = refl
join-front (z ∷ []) x ys = refl
join-front (z ∷ z2 ∷ zs) x ys = ap (λ (l : List Run). z ∷ l) (join-front (z2 ∷ zs) x ys)

append_choice : (b : Bool) (x y z : Run) (ys : List Run) → cond b (z ∷ ys) (x ∷ y ∷ ys) ≡ cond b (z ∷ []) (x ∷ y ∷ []) ++ ys
append_choice true x y z ys = refl
append_choice false x y z ys = refl

-- all but the first run of the second list stay
pub join-back : (xs : List Run) (y : Run) (ys : List Run) → join xs (y ∷ ys) ≡ join xs (y ∷ []) ++ ys
join-back [] y ys = refl
join-back (x ∷ []) y ys = append_choice (touches x y) x y (record x { last = y.last }) ys
join-back (x ∷ x2 ∷ xs) y ys = ap (λ (l : List Run). x ∷ l) (join-back (x2 ∷ xs) y ys)
