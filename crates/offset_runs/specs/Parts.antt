-- Lists of runs, cut and joined (this project's own).
-- For example the runs from 0 to 9 and from 10 to 19 of one row touch, and are joined to the run from 0 to 19.
use Rattle.std.specs.Prelude.{◌≤◌, ◌<◌, ◌+◌, ◌-◌, ℕ, suc, min, max, Bool, List, [], ◌∷◌, Option, Some, None, nat_eq, nat_lt, ◌&&◌, if◌then◌else◌}
use Rattle.share_model.specs.Rows.{state_number}
use Rattle.share_model.specs.declared.run.Run.{Run}

-- the second run begins right behind the first, with the same row
unfoldable pub touches : Run → Run → Bool
touches x y = nat_eq (x.last + 1) y.first && (nat_eq (state_number x.state) (state_number y.state) && nat_eq x.count y.count)

abbrev pub join_to : Run → List Run → List Run
join_to x [] = x ∷ []
join_to x (y ∷ ys) = if touches x y then (record x { last = y.last }) ∷ ys else x ∷ y ∷ ys

-- the runs of both, one run where the last of the first list and the first of the second touch
abbrev pub join : List Run → List Run → List Run
join [] ys = ys
join (x ∷ []) ys = join_to x ys
join (x ∷ x2 ∷ xs) ys = x ∷ join (x2 ∷ xs) ys

-- the part of a run below an offset, and the part from an offset on
abbrev pub run_before : Run → ℕ → Run
run_before x offset = record x { last = min x.last (offset - 1) }

abbrev pub run_from : Run → ℕ → Run
run_from x offset = record x { first = max x.first offset }

-- the runs below an offset, and the runs from an offset on
abbrev pub before : List Run → ℕ → List Run
before [] offset = []
before (x ∷ xs) offset = if nat_lt x.first offset then run_before x offset ∷ before xs offset else []

abbrev pub from_on : List Run → ℕ → List Run
from_on [] offset = []
from_on (x ∷ xs) offset = if nat_lt x.last offset then from_on xs offset else run_from x offset ∷ xs

-- how many runs begin below an offset, and how many end below one
abbrev pub begin_count : List Run → ℕ → ℕ
begin_count [] offset = 0
begin_count (x ∷ xs) offset = if nat_lt x.first offset then suc (begin_count xs offset) else 0

abbrev pub end_count : List Run → ℕ → ℕ
end_count [] offset = 0
end_count (x ∷ xs) offset = if nat_lt x.last offset then suc (end_count xs offset) else 0

-- each run ends below an offset
abbrev pub EndsBelow : List Run → ℕ → Type 0
EndsBelow [] offset = Unit {0}
EndsBelow (x ∷ xs) offset = (x.last < offset) × EndsBelow xs offset

-- the first run begins at an offset or behind it
abbrev pub StartsFrom : List Run → ℕ → Type 0
StartsFrom [] offset = Unit {0}
StartsFrom (x ∷ xs) offset = offset ≤ x.first

-- the run that is there, if one is
abbrev pub maybe_run : Option Run → List Run
maybe_run None = []
maybe_run (Some x) = x ∷ []

-- the runs below a range, the range, and the runs behind it
abbrev pub put_over : List Run → Run → List Run
put_over xs middle = join (join (before xs middle.first) (middle ∷ [])) (from_on xs (middle.last + 1))
