-- Where a list of runs is cut.
use Rattle.std.proofs.Common.{◌≡◌, ℕ, zero, suc, ◌+◌, ◌-◌, ◌<◌, ◌≤◌, min, Bool, true, false, cond, List, []}
use Rattle.std.proofs.Common.{◌∷◌, ◌++◌, length, get_or, take, drop, refl, ap, ◌∙◌, sym, subst, arith}
use Rattle.std.specs.Prelude.{nat_lt}
use Rattle.std.proofs.Common.{Some, None}
use Rattle.std.proofs.lemmas.Bool.Decides.{nat_tests}
use Rattle.share_model.proofs.Lookups.{row_at-here, row_at-first}
use Rattle.share_model.specs.Runs.{row_of, row_at, Follows, IsCanonical}
use Rattle.share_model.specs.declared.run.Run.{Run}
use Rattle.offset_runs.proofs.Cuts.{lt_yes, lt_no, yes_lt, from_on-row_at, from_on-canonical}
use Rattle.offset_runs.specs.Parts.{before, from_on, begin_count, end_count, run_before, run_from}

-- no run begins below the offset
pub begin_count-none : (xs : List Run) (f : ℕ) → begin_count xs f ≡ 0 → before xs f ≡ []
begin_count-none [] f none = refl
begin_count-none (x ∷ xs) f none =
    elim (nat_lt x.first f) as (λ b. cond b (suc (begin_count xs f)) 0 ≡ 0 → cond b (run_before x f ∷ before xs f) [] ≡ []) [
      | true ↦ λ e. absurd (omega arith)
      | false ↦ λ e. refl
    ] none

-- the last run that begins below the offset
pub record LastBefore (xs : List Run) (f n : ℕ) (d : Run) : Type 0 where
  pub begins : (get_or xs n d).first < f
  pub parts : before xs f ≡ take n xs ++ run_before (get_or xs n d) f ∷ []

whole : (x next : Run) (xs : List Run) (f : ℕ) → Follows x (next ∷ xs) → next.first < f → run_before x f ≡ x
whole x next xs f follows begins =
    let same : min x.last (f - 1) ≡ x.last = omega (arith, follows.0) in
    λ i. record x { last = same i }

-- with a run in front that begins below the offset too
more : (x : Run) (xs : List Run) (f n : ℕ) (d : Run) → IsCanonical (x ∷ xs) → x.first < f → nat_lt x.first f ≡ true → begin_count xs f ≡ suc n → LastBefore xs f n d → LastBefore (x ∷ xs) f (suc n) d
more x [] f n d canonical begins test count last = absurd (omega arith)
more x (next ∷ xs) f n d canonical begins test count last =
    let there : next.first < f =
    elim (nat_lt next.first f) as (λ b. nat_lt next.first f ≡ b → cond b (suc (begin_count xs f)) 0 ≡ suc n → next.first < f) [
      | true ↦ λ t e. lt_yes next.first f t
      | false ↦ λ t e. absurd (omega arith)
    ] refl count
    in
    record {
      begins = last.begins;
      parts = ap (λ (b : Bool). cond b (run_before x f ∷ before (next ∷ xs) f) []) test ∙ (λ i. whole x next xs f canonical.1 there i ∷ last.parts i);
    }

pub begin_count-place : (xs : List Run) (f n : ℕ) (d : Run) → IsCanonical xs → begin_count xs f ≡ suc n → LastBefore xs f n d
begin_count-place [] f n d canonical count = absurd (omega arith)
begin_count-place (x ∷ xs) f zero d canonical count =
    elim (nat_lt x.first f) as (λ b. nat_lt x.first f ≡ b → cond b (suc (begin_count xs f)) 0 ≡ 1 → LastBefore (x ∷ xs) f 0 d) [
      | true ↦ λ test e. record {
        begins = lt_yes x.first f test;
        parts = ap (λ (b : Bool). cond b (run_before x f ∷ before xs f) []) test ∙ ap (λ (l : List Run). run_before x f ∷ l) (begin_count-none xs f (omega arith));
      }
      | false ↦ λ test e. absurd (omega arith)
    ] refl count
begin_count-place (x ∷ xs) f (suc n) d canonical count =
    elim (nat_lt x.first f) as (λ b. nat_lt x.first f ≡ b → cond b (suc (begin_count xs f)) 0 ≡ suc (suc n) → LastBefore (x ∷ xs) f (suc n) d) [
      | true ↦ λ test e. let known : begin_count xs f ≡ suc n = omega arith in
          more x xs f n d canonical (lt_yes x.first f test) test known (begin_count-place xs f n d canonical.2 known)
      | false ↦ λ test e. absurd (omega arith)
    ] refl count

-- the first run that ends at the offset or behind it
pub record FirstFrom (xs : List Run) (f n : ℕ) (d : Run) : Type 0 where
  pub ends : f ≤ (get_or xs n d).last
  pub parts : from_on xs f ≡ run_from (get_or xs n d) f ∷ drop (suc n) xs

pub end_count-place : (xs : List Run) (f n : ℕ) (d : Run) → end_count xs f ≡ n → n < length xs → FirstFrom xs f n d
end_count-place [] f n d count within = absurd (omega arith)
end_count-place (x ∷ xs) f zero d count within =
    elim (nat_lt x.last f) as (λ b. nat_lt x.last f ≡ b → cond b (suc (end_count xs f)) 0 ≡ 0 → FirstFrom (x ∷ xs) f 0 d) [
      | true ↦ λ test e. absurd (omega arith)
      | false ↦ λ test e. record { ends = lt_no x.last f test; parts = ap (λ (b : Bool). cond b (from_on xs f) (run_from x f ∷ xs)) test }
    ] refl count
end_count-place (x ∷ xs) f (suc n) d count within =
    elim (nat_lt x.last f) as (λ b. nat_lt x.last f ≡ b → cond b (suc (end_count xs f)) 0 ≡ suc n → FirstFrom (x ∷ xs) f (suc n) d) [
      | true ↦ λ test e.
          let rest = end_count-place xs f n d (omega arith) (omega arith) in
          record { ends = rest.ends; parts = ap (λ (b : Bool). cond b (from_on xs f) (run_from x f ∷ xs)) test ∙ rest.parts }
      | false ↦ λ test e. absurd (omega arith)
    ] refl count

pub end_count-none : (xs : List Run) (f : ℕ) → end_count xs f ≡ length xs → from_on xs f ≡ []
end_count-none [] f count = refl
end_count-none (x ∷ xs) f count =
    elim (nat_lt x.last f) as (λ b. cond b (suc (end_count xs f)) 0 ≡ suc (length xs) → cond b (from_on xs f) (run_from x f ∷ xs) ≡ []) [
      | true ↦ λ e. end_count-none xs f (omega arith)
      | false ↦ λ e. absurd (omega arith)
    ] count

pub drop-whole : (xs : List Run) (n : ℕ) → n ≡ length xs → drop n xs ≡ []
drop-whole [] zero count = refl
drop-whole [] (suc n) count = refl
drop-whole (x ∷ xs) zero count = absurd (omega arith)
drop-whole (x ∷ xs) (suc n) count = drop-whole xs n (omega arith)

-- where one run follows another, all that ends below it comes before
Follows-end_count : (x : Run) (xs : List Run) (first last : ℕ) → IsCanonical (x ∷ xs) → first ≤ last → begin_count xs first ≤ end_count (x ∷ xs) (last + 1)
Follows-end_count x [] first last canonical order = omega arith
Follows-end_count x (next ∷ xs) first last canonical order =
    elim (nat_lt next.first first) as (λ b. nat_lt next.first first ≡ b → cond b (suc (begin_count xs first)) 0 ≤ end_count (x ∷ next ∷ xs) (last + 1)) [
      | false ↦ λ test. omega arith
      | true ↦ λ test.
          let begins = lt_yes next.first first test in
          let ends : nat_lt x.last (last + 1) ≡ true = yes_lt x.last (last + 1) (omega (arith, canonical.1.0)) in
          let rest = Follows-end_count next xs first last canonical.2 order in
          subst (λ b. suc (begin_count xs first) ≤ cond b (suc (end_count (next ∷ xs) (last + 1))) 0) (sym ends) (omega (arith, rest))
    ] refl

-- the runs that stay before a range are no more than those that end below it
pub begin_count-end_count : (xs : List Run) (first last : ℕ) → IsCanonical xs → first ≤ last → begin_count xs first - 1 ≤ end_count xs (last + 1)
begin_count-end_count [] first last canonical order = omega arith
begin_count-end_count (x ∷ xs) first last canonical order =
    elim (nat_lt x.first first) as (λ b. cond b (suc (begin_count xs first)) 0 - 1 ≤ end_count (x ∷ xs) (last + 1)) [
      | false ↦ omega arith
      | true ↦ omega (arith, Follows-end_count x xs first last canonical order)
    ]

not_below_itself : (o : ℕ) → nat_lt o o ≡ false
not_below_itself o = grind (arith, nat_tests)

at_offset : (xs : List Run) (o : ℕ) → IsCanonical xs → row_at xs o ≡ row_at (from_on xs o) o
at_offset xs o canonical = sym (from_on-row_at xs o o canonical ∙ ap (λ (b : Bool). cond b None (row_at xs o)) (not_below_itself o))

-- what is looked for at an offset
pub look-place : (xs : List Run) (o n : ℕ) (d : Run) → IsCanonical xs → end_count xs o ≡ n → n < length xs → (get_or xs n d).first ≤ o → row_at xs o ≡ Some (row_of (get_or xs n d))
look-place xs o n d canonical count within begins =
    let first = end_count-place xs o n d count within in
    let run = get_or xs n d in
    at_offset xs o canonical ∙ ap (λ (l : List Run). row_at l o) first.parts
    ∙ row_at-here (run_from run o) (drop (suc n) xs) o (omega arith) first.ends

pub look-gap : (xs : List Run) (o n : ℕ) (d : Run) → IsCanonical xs → end_count xs o ≡ n → n < length xs → o < (get_or xs n d).first → row_at xs o ≡ None
look-gap xs o n d canonical count within gap =
    let first = end_count-place xs o n d count within in
    let run = get_or xs n d in
    at_offset xs o canonical ∙ ap (λ (l : List Run). row_at l o) first.parts
    ∙ row_at-first (run_from run o) (drop (suc n) xs) o (subst IsCanonical first.parts (from_on-canonical xs o canonical)) (omega arith)

pub look-none : (xs : List Run) (o : ℕ) → IsCanonical xs → end_count xs o ≡ length xs → row_at xs o ≡ None
look-none xs o canonical count = at_offset xs o canonical ∙ ap (λ (l : List Run). row_at l o) (end_count-none xs o count)
