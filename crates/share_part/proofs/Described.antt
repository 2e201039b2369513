-- Rows counted by runs, and the lock that ends first by runs of holds.
use Rattle.std.proofs.Common.{◌≡◌, ◌∙◌, inl, inr, refl, sym, ap, subst, arith, cond, ℕ, zero, suc, ◌+◌, ◌-◌, ◌<◌, ◌≤◌, min, List, [], ◌∷◌, ◌++◌, Option, Some, None, Bool, true, false, not, nat_le, ◌&&◌, if◌then◌else◌}
use Rattle.std.proofs.lemmas.Bool.{cases_lt}
use Rattle.std.proofs.lemmas.Bool.Decides.{nat_tests}
use Rattle.lock_index.specs.Runs.{IsCanonical as AreHeldRuns, held_from, held_of}
use Rattle.lock_index.specs.declared.run.HoldRun.{HoldRun}
use Rattle.offset_runs.specs.Complete.{complete_rows, is_complete, is_complete_row}
use Rattle.offset_runs.specs.Parts.{EndsBelow}
use Rattle.share_model.proofs.Lookups.{row_at-here, row_at-below, row_at-beyond, row_at-none}
use Rattle.share_model.specs.ForeignRules.{size_of}
use Rattle.share_model.specs.Held.{Held}
use Rattle.share_model.specs.Keys.{KeyParts}
use Rattle.share_model.specs.Logs.{Batch, IsLog, end_of}
use Rattle.share_model.specs.Runs.{IsCanonical, row_at, row_of}
use Rattle.share_model.specs.ShareStates.{ShareState}
use Rattle.share_model.specs.declared.hold.Hold.{Hold}
use Rattle.share_model.specs.declared.row.Row.{Row}
use Rattle.share_model.specs.declared.row.RowState.{RowState}
use Rattle.share_model.specs.declared.row.RowState.TheVariants.{Available, Acknowledged, Archived}
use Rattle.share_model.specs.declared.run.Run.{Run}
use Rattle.share_part.specs.Describing.{count_below, earlier, first_end, is_open, is_stored_as}
use Rattle.share_part.specs.Hosting.{PartConfParts, IsHosted}
use Rattle.share_part.specs.Tallying.{LieBetween, count_run, count_runs}
use Rattle.part_log.specs.Starts.{Log}
use Rattle.share_part.proofs.Staying.{slot_below_end, slot_from}
use Rattle.share_part.proofs.Writing.{slot_of}

-- ---- offsets below an end

count_same : (p q : ℕ → Bool) (n : ℕ) → ((o : ℕ) → p o ≡ q o) → count_below p n ≡ count_below q n
count_same p q zero same = refl
count_same p q (suc n) same =
    let before : count_below p n ≡ count_below q n = count_same p q n same in
    λ i. before i + (if same n i then 1 else 0)

one_le : (b : Bool) → (if b then 1 else 0) ≤ 1
one_le true = omega arith
one_le false = omega arith

count_le : (p : ℕ → Bool) (n : ℕ) → count_below p n ≤ n
count_le p zero = omega arith
count_le p (suc n) = omega (arith, count_le p n, one_le (p n))

-- those from a start on are such, or they aren't
both : (from is : Bool) → (if from && not is then 1 else 0) + (if from && is then 1 else 0) ≡ (if from then 1 else 0)
both true true = refl
both true false = refl
both false true = refl
both false false = refl

from_one : (start n : ℕ) → (n - start) + (if nat_le start n then 1 else 0) ≡ suc n - start
from_one start n = by_test (nat_le start n) refl
  where
    by_test : (t : Bool) → nat_le start n ≡ t → (n - start) + (if t then 1 else 0) ≡ suc n - start
    by_test true is = let le : start ≤ n = grind (arith, nat_tests) in omega (arith, le)
    by_test false is = let lt : n < start = grind (arith, nat_tests) in omega (arith, lt)

pub split : (p : ℕ → Bool) (start n : ℕ)
    → count_below (λ o. nat_le start o && not (p o)) n + count_below (λ o. nat_le start o && p o) n ≡ n - start
split p start zero = omega arith
split p start (suc n) = omega (arith, split p start n, both (nat_le start n) (p n), from_one start n)

-- ---- rows by runs

module _ (test : Option Row → Bool) (none : test None ≡ false) where
  -- how many offsets of a run lie below an end and have such a row
  abbrev within : Run → ℕ → ℕ
  within x n = if test (Some (row_of x)) then min (x.last + 1) n - x.first else 0

  abbrev one : Option Row → ℕ
  one row = if test row then 1 else 0

  within_same : (x : Run) (m n : ℕ) → min (x.last + 1) m - x.first ≡ min (x.last + 1) n - x.first → within x m ≡ within x n
  within_same x m n same = ap (λ (k : ℕ). if test (Some (row_of x)) then k else 0) same

  within_zero : (x : Run) → within x 0 ≡ 0
  within_zero x = by_test (test (Some (row_of x)))
    where
      by_test : (t : Bool) → (if t then min (x.last + 1) 0 - x.first else 0) ≡ 0
      by_test true = omega arith
      by_test false = refl

  within_more : (x : Run) (n : ℕ) → x.first ≤ n → n ≤ x.last → within x (suc n) ≡ within x n + one (Some (row_of x))
  within_more x n lo hi = by_test (test (Some (row_of x)))
    where
      by_test : (t : Bool) → (if t then min (x.last + 1) (suc n) - x.first else 0) ≡ (if t then min (x.last + 1) n - x.first else 0) + (if t then 1 else 0)
      by_test true = omega (arith, lo, hi)
      by_test false = refl

  here : (x : Run) (xs : List Run) (n : ℕ) → IsCanonical (x ∷ xs)
      → within x n + one (row_at (x ∷ xs) n) ≡ within x (suc n) + one (row_at xs n)
  here x xs n canonical =
      elim (cases_lt n x.first) [
        | inl below ↦
            let at : one (row_at (x ∷ xs) n) ≡ one (row_at xs n) = ap one (row_at-below x xs n below) in
            let same : within x n ≡ within x (suc n) = within_same x n (suc n) (omega (arith, below)) in
            omega (arith, at, same)
        | inr begun ↦ elim (cases_lt x.last n) [
          | inl beyond ↦
              let at : one (row_at (x ∷ xs) n) ≡ one (row_at xs n) = ap one (row_at-beyond x xs n beyond) in
              let same : within x n ≡ within x (suc n) = within_same x n (suc n) (omega (arith, beyond)) in
              omega (arith, at, same)
          | inr upto ↦
              let at : one (row_at (x ∷ xs) n) ≡ one (Some (row_of x)) = ap one (row_at-here x xs n begun upto) in
              let gone : one (row_at xs n) ≡ 0 = ap one (row_at-none x xs n canonical.1 canonical.2 upto) ∙ ap (λ (t : Bool). if t then 1 else 0) none in
              let more : within x (suc n) ≡ within x n + one (Some (row_of x)) = within_more x n begun upto in
              omega (arith, at, gone, more)
        ]
      ]

  count_cons : (x : Run) (xs : List Run) (n : ℕ) → IsCanonical (x ∷ xs)
      → count_below (λ o. test (row_at (x ∷ xs) o)) n ≡ within x n + count_below (λ o. test (row_at xs o)) n
  count_cons x xs zero canonical = let nothing : within x 0 ≡ 0 = within_zero x in omega (arith, nothing)
  count_cons x xs (suc n) canonical = omega (arith, count_cons x xs n canonical, here x xs n canonical)

  count_empty : (n : ℕ) → count_below (λ o. test (row_at [] o)) n ≡ 0
  count_empty zero = refl
  count_empty (suc n) =
      let gone : ◌≡◌ {A = ℕ} (if test None then 1 else 0) 0 = ap (λ (t : Bool). if t then 1 else 0) none in
      omega (arith, count_empty n, gone)

  counted : (xs : List Run) (n : ℕ) → IsCanonical xs → EndsBelow xs n → count_below (λ o. test (row_at xs o)) n ≡ count_runs test xs
  counted [] n canonical ends = count_empty n
  counted (x ∷ xs) n canonical ends =
      let all : within x n ≡ count_run test x = ap (λ (k : ℕ). if test (Some (row_of x)) then k else 0) (let e : min (x.last + 1) n - x.first ≡ x.last + 1 - x.first = omega (arith, ends.0) in e) in
      omega (arith, count_cons x xs n canonical, all, counted xs n canonical.2 ends.1)

  -- where rows stand from a start on alone
  later : (start : ℕ) (rows : List Run) (o : ℕ) → ((row : Row) → row_at rows o ≡ Some row → start ≤ o)
      → (nat_le start o && test (row_at rows o)) ≡ test (row_at rows o)
  later start rows o from = by_row (row_at rows o) refl
    where
      dropped : (t : Bool) → (t && false) ≡ false
      dropped true = refl
      dropped false = refl

      by_row : (r : Option Row) → row_at rows o ≡ r → (nat_le start o && test r) ≡ test r
      by_row None is = ap (λ (t : Bool). nat_le start o && t) none ∙ dropped (nat_le start o) ∙ sym none
      by_row (Some row) is =
          let le : start ≤ o = from row is in
          let yes : nat_le start o ≡ true = grind (arith, nat_tests) in
          ap (λ (t : Bool). t && test (Some row)) yes

-- ---- runs that lie between

-- those of a table that a hosted partition may have
pub lies_between : (conf : PartConfParts) (log : Log) (key : KeyParts) (state : ShareState) → IsLog log.batches → IsHosted conf log key state
    → LieBetween state.runs (size_of state.start) (end_of log.batches)
lies_between conf log key state sound h = record {
  canonical = h.canonical;
  between = λ o row at. (
    slot_from 2000 log.batches (size_of state.start) o sound (h.rows o row at).slot,
    slot_below_end 0 log.batches sound o (slot_of 2000 log.batches (size_of state.start) o sound (h.rows o row at).slot),
  );
}

-- and its start
pub starts_within : (conf : PartConfParts) (log : Log) (key : KeyParts) (state : ShareState) → IsHosted conf log key state
    → size_of state.start ≤ end_of log.batches
starts_within conf log key state h = let le = h.start.3 in let at : size_of state.start ≡ h.start.0 = ap size_of h.start.1 in omega (arith, le, at)

ends_by : (xs : List Run) (n : ℕ) → IsCanonical xs → ((o : ℕ) (row : Row) → row_at xs o ≡ Some row → o < n) → EndsBelow xs n
ends_by [] n canonical below = tt
ends_by (x ∷ xs) n canonical below = (
  below x.last (row_of x) (row_at-here x xs x.last canonical.0 (omega arith)),
  ends_by xs n canonical.2 (λ o row at. elim (cases_lt x.last o) [
    | inl beyond ↦ below o row (row_at-beyond x xs o beyond ∙ at)
    | inr upto ↦ absurd (let never : ◌≡◌ {A = Option Row} None (Some row) = sym (row_at-none x xs o canonical.1 canonical.2 upto) ∙ at in let clash : ⊥ = cc in clash)
  ]),
)

module _ (runs : List Run) (start end : ℕ) (lie : LieBetween runs start end) where
  pub ends_below : EndsBelow runs end
  ends_below = ends_by runs end lie.canonical (λ o row at. (lie.between o row at).1)

  -- rows are counted by runs, from the start on
  pub rows_by_runs : (test : Option Row → Bool) → test None ≡ false
      → count_below (λ o. nat_le start o && test (row_at runs o)) end ≡ count_runs test runs
  rows_by_runs test none =
      count_same (λ o. nat_le start o && test (row_at runs o)) (λ o. test (row_at runs o)) end
      (λ o. later test none start runs o (λ row at. (lie.between o row at).0))
      ∙ counted test none runs end lie.canonical ends_below

  pub few_rows : (test : Option Row → Bool) → test None ≡ false → count_runs test runs ≤ end
  few_rows test none =
      let by : count_below (λ o. test (row_at runs o)) end ≡ count_runs test runs = counted test none runs end lie.canonical ends_below in
      omega (arith, by, count_le (λ o. test (row_at runs o)) end)

complete_by : (xs : List Run) → count_runs is_complete_row xs ≡ complete_rows xs
complete_by [] = refl
complete_by (x ∷ xs) = ap (λ (k : ℕ). count_run is_complete_row x + k) (complete_by xs)

one_complete : (state : RowState) (k : ℕ) (row : Row) → row.state ≡ state
    → (if is_complete_row (Some row) then k else 0) ≡ (if is_stored_as Acknowledged (Some row) then k else 0) + (if is_stored_as Archived (Some row) then k else 0)
one_complete Available k row is = ap (λ (s : RowState). if is_complete s then k else 0) is ∙ sym (ap (λ (s : RowState). (if is_stored_as Acknowledged (Some (record { state = s; count = 0 })) then k else 0) + (if is_stored_as Archived (Some (record { state = s; count = 0 })) then k else 0)) is)
one_complete Acknowledged k row is =
    let left : (if is_complete_row (Some row) then k else 0) ≡ k = ap (λ (s : RowState). if is_complete s then k else 0) is in
    let right : (if is_stored_as Acknowledged (Some row) then k else 0) + (if is_stored_as Archived (Some row) then k else 0) ≡ k + 0 = ap (λ (s : RowState). (if is_stored_as Acknowledged (Some (record { state = s; count = 0 })) then k else 0) + (if is_stored_as Archived (Some (record { state = s; count = 0 })) then k else 0)) is in
    omega (arith, left, right)
one_complete Archived k row is =
    let left : (if is_complete_row (Some row) then k else 0) ≡ k = ap (λ (s : RowState). if is_complete s then k else 0) is in
    let right : (if is_stored_as Acknowledged (Some row) then k else 0) + (if is_stored_as Archived (Some row) then k else 0) ≡ 0 + k = ap (λ (s : RowState). (if is_stored_as Acknowledged (Some (record { state = s; count = 0 })) then k else 0) + (if is_stored_as Archived (Some (record { state = s; count = 0 })) then k else 0)) is in
    omega (arith, left, right)

-- a complete row is acknowledged or archived
pub complete_kinds : (xs : List Run) → complete_rows xs ≡ count_runs (is_stored_as Acknowledged) xs + count_runs (is_stored_as Archived) xs
complete_kinds xs = sym (complete_by xs) ∙ by xs
  where
    by : (xs : List Run) → count_runs is_complete_row xs ≡ count_runs (is_stored_as Acknowledged) xs + count_runs (is_stored_as Archived) xs
    by [] = refl
    by (x ∷ xs) = omega (arith, by xs, one_complete x.state (x.last + 1 - x.first) (row_of x) refl)

-- what is told of the rows
pub record AreTold (runs : List Run) (start end : ℕ) : Type 0 where
  pub acknowledged : count_below (λ o. nat_le start o && is_stored_as Acknowledged (row_at runs o)) end ≡ count_runs (is_stored_as Acknowledged) runs
  pub archived : count_below (λ o. nat_le start o && is_stored_as Archived (row_at runs o)) end + count_runs (is_stored_as Acknowledged) runs ≡ complete_rows runs
  pub lag : count_below (λ o. nat_le start o && is_open (row_at runs o)) end + complete_rows runs ≡ end - start

pub told : (runs : List Run) (start end : ℕ) → LieBetween runs start end → AreTold runs start end
told runs start end lie =
    let archived : count_below (λ o. nat_le start o && is_stored_as Archived (row_at runs o)) end ≡ count_runs (is_stored_as Archived) runs = rows_by_runs runs start end lie (is_stored_as Archived) refl in
    let complete : count_below (λ o. nat_le start o && is_complete_row (row_at runs o)) end ≡ count_runs is_complete_row runs = rows_by_runs runs start end lie is_complete_row refl in
    let whole : count_runs is_complete_row runs ≡ complete_rows runs = complete_by runs in
    record {
      acknowledged = rows_by_runs runs start end lie (is_stored_as Acknowledged) refl;
      archived = omega (arith, archived, complete_kinds runs);
      lag = omega (arith, split (λ o. is_complete_row (row_at runs o)) start end, complete, whole);
    }

-- ---- the lock that ends first

-- the earlier of two moments, of which both may be missing
abbrev pub joined : Option ℕ → Option ℕ → Option ℕ
joined first None = first
joined first (Some end) = Some (earlier first end)

pub joined_none : (o : Option ℕ) → joined None o ≡ o
joined_none None = refl
joined_none (Some end) = refl

again : (r : Option ℕ) (end : ℕ) → earlier (Some (earlier r end)) end ≡ earlier r end
again None end = omega arith
again (Some first) end = omega arith

-- consecutive offsets with one hold
run_first : (n first : ℕ) (hold : Hold) (rest : Held) → 1 ≤ n → first_end (held_from first n hold ++ rest) ≡ Some (earlier (first_end rest) hold.end)
run_first zero first hold rest some = absurd (omega (arith, some))
run_first (suc zero) first hold rest some = refl
run_first (suc (suc n)) first hold rest some =
    ap (λ (o : Option ℕ). Some (earlier o hold.end)) (run_first (suc n) (first + 1) hold rest (omega arith))
    ∙ ap (λ (e : ℕ). Some e) (again (first_end rest) hold.end)

turned : (f r : Option ℕ) (end : ℕ) → joined f (Some (earlier r end)) ≡ joined (Some (earlier f end)) r
turned None None end = refl
turned None (Some r) end = ap (λ (e : ℕ). Some e) (let e : min r end ≡ min end r = omega arith in e)
turned (Some f) None end = refl
turned (Some f) (Some r) end = ap (λ (e : ℕ). Some e) (let e : min f (min r end) ≡ min (min f end) r = omega arith in e)

pub first_more : (f : Option ℕ) (run : HoldRun) (runs : List HoldRun) → run.first ≤ run.last
    → joined f (first_end (held_of (run ∷ runs))) ≡ joined (Some (earlier f run.hold.end)) (first_end (held_of runs))
first_more f run runs order =
    ap (joined f) (run_first ((run.last + 1) - run.first) run.first run.hold (held_of runs) (omega (arith, order)))
    ∙ turned f (first_end (held_of runs)) run.hold.end

-- ---- the loop over runs

-- so many are counted of those before the rest
pub record IsTallying (count : ℕ) (rest runs : List Run) (end : ℕ) : Type 0 where
  pub sum : count + count_runs (is_stored_as Acknowledged) rest ≡ count_runs (is_stored_as Acknowledged) runs
  pub canonical : IsCanonical rest
  pub ends : EndsBelow rest end
  pub few : count_runs (is_stored_as Acknowledged) runs ≤ end

pub begins_tally : (runs : List Run) (start end : ℕ) → LieBetween runs start end → IsTallying 0 runs runs end
begins_tally runs start end lie = record {
  sum = omega arith;
  canonical = lie.canonical;
  ends = ends_below runs start end lie;
  few = few_rows runs start end lie (is_stored_as Acknowledged) refl;
}

pub tallies_on : (count : ℕ) (rest others runs : List Run) (run : Run) (end : ℕ) → IsTallying count rest runs end → rest ≡ run ∷ others
    → IsTallying (count + count_run (is_stored_as Acknowledged) run) others runs end × (run.first ≤ run.last) × (run.last < end)
    × (count + count_run (is_stored_as Acknowledged) run ≤ end)
tallies_on count rest others runs run end t is =
    let canonical : IsCanonical (run ∷ others) = subst IsCanonical is t.canonical in
    let ends : EndsBelow (run ∷ others) end = subst (λ (l : List Run). EndsBelow l end) is t.ends in
    let same : count_runs (is_stored_as Acknowledged) rest ≡ count_run (is_stored_as Acknowledged) run + count_runs (is_stored_as Acknowledged) others = ap (count_runs (is_stored_as Acknowledged)) is in
    let sum : (count + count_run (is_stored_as Acknowledged) run) + count_runs (is_stored_as Acknowledged) others ≡ count_runs (is_stored_as Acknowledged) runs = omega (arith, t.sum, same) in (
      record { sum = sum; canonical = canonical.2; ends = ends.1; few = t.few },
      canonical.0,
      ends.0,
      omega (arith, sum, t.few),
    )

pub tally_done : (count : ℕ) (rest runs : List Run) (end : ℕ) → IsTallying count rest runs end → rest ≡ [] → count ≡ count_runs (is_stored_as Acknowledged) runs
tally_done count rest runs end t is =
    let none : count_runs (is_stored_as Acknowledged) rest ≡ 0 = ap (count_runs (is_stored_as Acknowledged)) is in
    omega (arith, t.sum, none)
