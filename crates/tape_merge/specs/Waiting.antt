-- Links that wait for each other, where nothing may go. This project's own.
-- Worked example: where the tapes of two shards have the second step of each of two links before the first of the other, each link
-- waits for the other.
use Rattle.std.specs.Prelude.{◌≤◌, ◌<◌, ℕ, List, [], ◌∷◌, length, slice_index, ⊤}
use Rattle.share_record.specs.declared.tape.LinkTape.{LinkTape}
use Rattle.share_record.specs.declared.tape.ShardTape.{ShardTape}
use Rattle.tape_merge.specs.declared.moves.Move.{Move}
use Rattle.tape_merge.specs.declared.place.Place.{Place}
use Rattle.tape_merge.specs.Matching.{IsLaterOnTape, steps_of}
use Rattle.tape_merge.specs.Moves.{CanGo, Counts, LeftAreLeft, PassedHaveGone}

-- nothing may go; and each tag has passed with its step
pub record IsStuck (tapes : List ShardTape) (links : List LinkTape) (counts : Counts) : Type 0 where
  pub none : (move : Move) → CanGo tapes links counts move → ⊥
  pub passed : PassedHaveGone tapes counts
  pub left : LeftAreLeft tapes counts

-- a step of the link is left
abbrev pub HasLeft : List LinkTape → Counts → ℕ → Type 0
HasLeft links counts link = slice_index counts.gone link < length (steps_of links link)

-- the next step of a link
abbrev pub next_place : Counts → ℕ → Place
next_place counts link = record { link = link; step = slice_index counts.gone link }

-- on a tape the next step of the one link stands behind a step that is left of the other
pub record WaitsFor (tapes : List ShardTape) (links : List LinkTape) (counts : Counts) (link other : ℕ) : Type 0 where
  pub step : ℕ
  pub left : slice_index counts.gone other ≤ step
  pub within : step < length (steps_of links other)
  pub behind : IsLaterOnTape tapes (next_place counts link) (record { link = other; step = step })

-- each of these links waits for the next, and the last one for this one
abbrev pub WaitInRow : List ShardTape → List LinkTape → Counts → List ℕ → ℕ → Type 0
WaitInRow tapes links counts [] last = ⊤
WaitInRow tapes links counts (link ∷ []) last = WaitsFor tapes links counts link last
WaitInRow tapes links counts (link ∷ other ∷ others) last = WaitsFor tapes links counts link other × WaitInRow tapes links counts (other ∷ others) last
