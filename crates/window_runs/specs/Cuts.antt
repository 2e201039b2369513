-- Runs of held offsets without a range (this project's own).
-- For example the run from 0 to 9 without the offsets 4 and 5 is the runs from 0 to 3 and from 6 to 9.
use Rattle.std.specs.Prelude.{◌+◌, ◌-◌, ◌++◌, ℕ, min, max, List, [], ◌∷◌, nat_lt, if◌then◌else◌}
use Rattle.lock_index.specs.declared.run.HoldRun.{HoldRun}

-- what a run has below an offset, and what it has behind one
abbrev pub part_below : ℕ → HoldRun → List HoldRun
part_below first run = if nat_lt run.first first then (record run { last = min run.last (first - 1) }) ∷ [] else []

abbrev pub part_behind : ℕ → HoldRun → List HoldRun
part_behind last run = if nat_lt last run.last then (record run { first = max run.first (last + 1) }) ∷ [] else []

-- a run without the offsets from `first` to `last`, and each run of a list without them
abbrev pub cut_run : ℕ → ℕ → HoldRun → List HoldRun
cut_run first last run = part_below first run ++ part_behind last run

abbrev pub cut : ℕ → ℕ → List HoldRun → List HoldRun
cut first last [] = []
cut first last (run ∷ runs) = cut_run first last run ++ cut first last runs
