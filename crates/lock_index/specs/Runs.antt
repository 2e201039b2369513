-- Runs of held offsets: consecutive offsets that one member holds by one lock with one delivery count (this project's own, over the
-- acquisition locks of KIP-932).
-- For example what `a` holds at 3, 4 and 5 by one lock, and at 6 by a later one, are the runs from 3 to 5 and from 6 to 6. The range from
-- 5 to 9 meets both.
use Rattle.std.specs.Prelude.{◌≡◌, ◌≢◌, ◌+◌, ◌-◌, ◌≤◌, ◌<◌, ◌++◌, ℕ, zero, suc, List, [], ◌∷◌, nat_le, min, max, if◌then◌else◌}
use Rattle.share_model.specs.Held.{Held}
use Rattle.share_model.specs.declared.hold.Hold.{Hold}
use Rattle.lock_index.specs.declared.run.HoldRun.{HoldRun}

-- so many offsets from one on, each with this hold
abbrev pub held_from : ℕ → ℕ → Hold → Held
held_from first zero hold = []
held_from first (suc n) hold = (first, hold) ∷ held_from (first + 1) n hold

-- what runs hold, by offset
abbrev pub held_of : List HoldRun → Held
held_of [] = []
held_of (run ∷ runs) = held_from run.first ((run.last + 1) - run.first) run.hold ++ held_of runs

-- the runs begin behind this one, and the first of them can't be joined to it
abbrev pub Follows : HoldRun → List HoldRun → Type 0
Follows run [] = Unit {0}
Follows run (next ∷ runs) = (run.last < next.first) × (next.first ≡ run.last + 1 → next.hold ≢ run.hold)

-- canonical runs: none is empty, they are in order and disjoint, and no neighbours could be joined
abbrev pub IsCanonical : List HoldRun → Type 0
IsCanonical [] = Unit {0}
IsCanonical (run ∷ runs) = (run.first ≤ run.last) × Follows run runs × IsCanonical runs

-- the run list of what is held, of which there is one
pub record IsRunList (held : Held) (runs : List HoldRun) : Type 0 where
  pub canonical : IsCanonical runs
  pub same : held_of runs ≡ held

-- how many runs have an offset from `first` to `last`
abbrev pub met_count : ℕ → ℕ → List HoldRun → ℕ
met_count first last [] = 0
met_count first last (run ∷ runs) =
    if nat_le (max first run.first) (min last run.last) then suc (met_count first last runs) else met_count first last runs

-- what a contract sees of a list of runs: the runs, and how many there can be with no memory
pub record RunsInRoom : Type 0 where
  pub runs : List HoldRun
  pub room : ℕ
