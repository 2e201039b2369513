-- A run that is put behind others (this project's own).
-- For example the run from 6 to 6 put behind that from 3 to 5, where both are held in one way, makes that one end at 6.
use Rattle.std.specs.Prelude.{◌≡◌, ◌≢◌, ◌≤◌, ◌<◌, ◌+◌, ◌-◌, ◌++◌, ℕ, suc, Bool, true, false, List, [], ◌∷◌, Some, length, take, drop}
use Rattle.std.specs.List.{slice_get}
use Rattle.lock_index.specs.declared.run.HoldRun.{HoldRun}
use Rattle.lock_index.specs.Runs.{IsCanonical, held_of}

-- the runs before a place and this one are canonical runs up to a new place; those behind are as they were
pub record IsPutBehind (old : List HoldRun) (place : ℕ) (run : HoldRun) (new : List HoldRun) (at : ℕ) : Type 0 where
  pub canonical : IsCanonical (take (suc at) new)
  pub held : held_of (take (suc at) new) ≡ held_of (take place old) ++ held_of (run ∷ [])
  pub rest : drop (suc at) new ≡ drop place old
  pub within : at < length new
  pub few : length new ≤ length old + 1
  pub last : (x : HoldRun) → slice_get new at ≡ Some x → x.last ≡ run.last

-- whether a run can be one with the last of those before a place
abbrev pub GoesOn : List HoldRun → ℕ → HoldRun → Bool → Type 0
GoesOn runs place run true = (x : HoldRun) × (slice_get runs (place - 1) ≡ Some x) × (run.first ≡ x.last + 1) × (run.hold ≡ x.hold) × (0 < place)
GoesOn runs place run false = (x : HoldRun) → 0 < place → slice_get runs (place - 1) ≡ Some x → run.first ≡ x.last + 1 → run.hold ≢ x.hold
