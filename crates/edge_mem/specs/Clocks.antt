-- A clock in memory. This project's own. Worked example: one that begins at 5 with the step 10 answers 5, 15 and 25, and has told just
-- these.
use Rattle.std.specs.Prelude.{ℕ, ◌+◌, ◌-◌, ◌*◌, ◌^◌, nat_lt, min, zero, suc, Bool, true, false, List, [], ◌∷◌, ◌++◌, Option, Some, None}
use Rattle.edge_io.specs.Causes.{raised}

-- the first moment, the step from one answer to the next, and how many answers were given; the count stays at 2^64 - 1 once it is there
pub record Ticking : Type 0 where
  pub first : ℕ
  pub step : ℕ
  pub calls : ℕ

-- the answer numbered i, from 0 on
abbrev pub moment_at : Ticking → ℕ → ℕ
moment_at clock i = min (clock.first + i * clock.step) (2 ^ 62)

-- the first n answers
abbrev pub answers : Ticking → ℕ → List ℕ
answers clock zero = []
answers clock (suc n) = answers clock n ++ (moment_at clock n ∷ [])

abbrev pub told_if : Bool → List ℕ → Option (List ℕ)
told_if true given = Some given
told_if false given = None

-- the answers that it gave, as long as they can be counted
abbrev pub told_by : Ticking → Option (List ℕ)
told_by clock = told_if (nat_lt clock.calls (2 ^ 64 - 1)) (answers clock clock.calls)

-- the clock behind one more answer
abbrev pub after_one : Ticking → Ticking
after_one clock = record { first = clock.first; step = clock.step; calls = raised clock.calls }
