-- How a window keeps what is held: as a list of runs, with the pairs of lock end and first offset of all of them beside it in order, and with
-- room in both for as many runs as offsets are held (this project's own).
-- For example of a run from 3 to 5 whose lock ends at 31000 the pair is that of 31000 and 3, and there is room for three runs and three pairs.
use Rattle.std.specs.Prelude.{◌≡◌, ◌≤◌, ◌<◌, ◌^◌, ◌⊎◌, ℕ, List, [], ◌∷◌, length}
use Rattle.lock_index.specs.declared.run.HoldRun.{HoldRun}
use Rattle.lock_index.specs.Locks.{PairsInRoom, put_pair}
use Rattle.lock_index.specs.Runs.{IsCanonical, RunsInRoom, held_of}

abbrev pub pair_of : HoldRun → ℕ × ℕ
pair_of run = (run.hold.end, run.first)

-- the pairs of runs, in order
abbrev pub indexed : List HoldRun → List (ℕ × ℕ)
indexed [] = []
indexed (run ∷ runs) = put_pair (pair_of run) (indexed runs)

-- a run begins at an offset
abbrev pub HasFirst : List HoldRun → ℕ → Type 0
HasFirst [] offset = ⊥
HasFirst (run ∷ runs) offset = (run.first ≡ offset) ⊎ HasFirst runs offset

-- both lists have room for as many runs as offsets are held
pub record HasRoom (runs : RunsInRoom) (pairs : PairsInRoom) : Type 0 where
  pub few : length (held_of runs.runs) < 2 ^ 32
  pub list : length (held_of runs.runs) ≤ runs.room
  pub index : length (held_of runs.runs) ≤ pairs.room

-- what a window keeps: the runs, their pairs, how many offsets are held, and how many can be with no memory
pub record IsKept (list : RunsInRoom) (index : PairsInRoom) (count room : ℕ) : Type 0 where
  pub canonical : IsCanonical list.runs
  pub paired : index.pairs ≡ indexed list.runs
  pub counted : count ≡ length (held_of list.runs)
  pub within : count ≤ room
  pub list_room : room ≤ list.room
  pub index_room : room ≤ index.room
