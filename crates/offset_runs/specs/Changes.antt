-- What the calls of `Runs` change: the look-up before, and the look-up after. A look-up is told by its canonical runs
-- (this project's own, over the state batches of KIP-932).
-- For example a row put at 4 and 5 over a run from 0 to 9 leaves the rows at 0 to 3 and 6 to 9 as they were.
use Rattle.std.specs.Prelude.{◌≡◌, ◌+◌, ℕ, List, Some, None, length, nat_le, nat_lt, ◌&&◌, if◌then◌else◌}
use Rattle.std.specs.Option.{option_or}
use Rattle.share_model.specs.Runs.{row_at}
use Rattle.share_model.specs.declared.row.Row.{Row}
use Rattle.share_model.specs.declared.run.Run.{Run}

-- canonical runs, and how many more there can be with no memory
pub record RunsParts : Type 0 where
  pub list : List Run
  pub spare : ℕ

-- how many runs there is memory for
abbrev pub room_of : RunsParts → ℕ
room_of runs = runs.spare + length runs.list

-- each offset from `first` to `last` has this row, and each other offset what it had
abbrev pub PutsRange : List Run → List Run → ℕ → ℕ → Row → Type 0
PutsRange old new first last row =
    (offset : ℕ) → row_at new offset ≡ (if nat_le first offset && nat_le offset last then Some row else row_at old offset)

-- no offset below this one has a row, and each other offset has what it had
abbrev pub CutsBelow : List Run → List Run → ℕ → Type 0
CutsBelow old new below = (offset : ℕ) → row_at new offset ≡ (if nat_lt offset below then None else row_at old offset)

-- each offset has the row of `other` where that has one, and else what it had
abbrev pub Overlays : List Run → List Run → List Run → Type 0
Overlays old new other = (offset : ℕ) → row_at new offset ≡ option_or (row_at other offset) (row_at old offset)
