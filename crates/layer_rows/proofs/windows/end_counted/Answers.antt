use Rattle.std.proofs.Common.{◌≤◌, ◌∷◌, [], ℕ, true, false, cond, arith}
use Rattle.std.specs.Prelude.{nat_le, min, max}
use Rattle.lock_index.specs.Runs.{met_count}
use Rattle.lock_index.specs.declared.run.HoldRun.{HoldRun}
use Rattle.layer_rows.proofs.windows.end_counted.Goals as goal

at_most_one : (first last : ℕ) (run : HoldRun) → met_count first last (run ∷ []) ≤ 1
at_most_one first last run = elim (nat_le (max first run.first) (min last run.last)) as (λ b. cond b 1 0 ≤ 1) [
  | true ↦ omega arith
  | false ↦ omega arith
]

pub returns : goal.returns
returns g c = λ run is. omega (arith, c.end_hold_counted.ensures.at_most (run ∷ []) is, at_most_one c.args.first c.args.last run)
