-- What the steps of a write do to the disk that isn't live. This project's own; private clauses cite it.
-- For example the step before a write to a store whose seal may still land closes the first gate of the disk that isn't live.
use Rattle.std.specs.Prelude.{◌≡◌, ◌⊎◌, ◌+◌, ◌*◌, ◌<◌, ◌≤◌, ◌^◌, ℕ, Bool, true, false, not, List, [], length, Some, None, if◌then◌else◌}
use Rattle.std.specs.declared.option.Option.{Option}
use Rattle.edge_io.specs.Views.{DiskView}
use Rattle.gate_journal.specs.Journals.{IsAtRest}
use Rattle.gate_journal.specs.declared.writer.Writer.{Writer}
use Rattle.checkpoint_journal.specs.Generations.{IsBeaten, IsWhole, live_of, marks_of, second_is_live}
use Rattle.checkpoint_journal.specs.Making.{HasStopped, IsMade}
use Rattle.checkpoint_journal.specs.Spares.{IsAside, IsIdle}
use Rattle.coord_checkpoint.specs.Stores.{StoreParts, arranged}
use Rattle.coord_checkpoint.specs.declared.step.Turn.{Turn}

-- a live journal and the other one, which is the first where that is on the second disk
abbrev pub placed : {D : Type 0} → Bool → Writer D → Writer D → Turn → StoreParts D
placed on_second live idle turn = if on_second then arranged idle live turn else arranged live idle turn

-- one of so many keys is due behind so many frames, and can be made
abbrev pub IsDueAt : Turn → (frames keys : ℕ) → Type 0
IsDueAt turn frames keys =
    (4096 + 2 * keys ≤ frames) × (keys < 2 ^ 35) × (turn.generation < 2 ^ 62) × (turn.on_second ≡ true → 0 < turn.generation)

-- the disk that isn't live, with the checkpoint whose seal may still land there, if there is one
pub record IsReady {D : Type 0} (seen : D → DiskView) (idle : Writer D) (turn : Turn) (sealing : Option (List (List ℕ))) : Type 0 where
  pub aside : IsAside seen idle turn.on_second turn.generation sealing
  pub unsealed : turn.sealing ≡ false → sealing ≡ None
  pub clears : turn.sealing ≡ true → IsBeaten turn.on_second turn.generation []
  pub next : (found : List (List ℕ)) → sealing ≡ Some found → IsWhole (turn.generation + 1) found

-- None was due, and nothing is done; or one was, and the disk that isn't live tells that it was begun.
abbrev pub HasTried : {D : Type 0} → (D → DiskView) → (old new : Writer D) → (was turn : Turn) → (frames keys : ℕ) → Type 0
HasTried seen old new was turn frames keys = ((new ≡ old) × (turn ≡ was) × (IsDueAt was frames keys → ⊥))
    ⊎ (IsDueAt was frames keys × ((sealing : Option (List (List ℕ))) → IsReady seen old was sealing → HasStopped seen old new (was.generation + 1)))

-- the checkpoint of this generation, of so few keys
pub record IsTried (generation : ℕ) (snapshots frames : List (List ℕ)) : Type 0 where
  pub made : IsMade generation snapshots frames
  pub few : length snapshots + 2 < 2 ^ 63

-- found on it while a write is prepared: what isn't live; or the checkpoint from before, or the one that is tried
abbrev pub IsPreparing : Turn → Option (List (List ℕ)) → List (List ℕ) → List (List ℕ) → Type 0
IsPreparing turn sealing snapshots frames = IsIdle turn.on_second turn.generation sealing frames ⊎ IsTried (turn.generation + 1) snapshots frames

-- No checkpoint was made, and the disk is as ready as before. The checkpoint whose seal may still land is the one from before, or the
-- one that was tried.
pub record StaysReady {D : Type 0} (seen : D → DiskView) (idle : Writer D) (was turn : Turn) (sealing : Option (List (List ℕ)))
    (snapshots : List (List ℕ)) (closed : Type 0) : Type 0 where
  pub seals : Option (List (List ℕ))
  pub may : (found : List (List ℕ)) → seals ≡ Some found → (sealing ≡ Some found) ⊎ IsTried (was.generation + 1) snapshots found
  pub ready : IsReady seen idle turn seals
  pub none : closed → seals ≡ None

-- the same side is live, of the same generation
pub record IsSameTurn (old new : Turn) : Type 0 where
  pub on_second : new.on_second ≡ old.on_second
  pub generation : new.generation ≡ old.generation

-- a checkpoint was made: the other side is live, of the next generation
pub record IsNextTurn (old new : Turn) : Type 0 where
  pub on_second : new.on_second ≡ not old.on_second
  pub generation : new.generation ≡ old.generation + 1
  pub sealing : new.sealing ≡ false

-- at rest with the checkpoint
pub record HasCheckpoint {D : Type 0} (seen : D → DiskView) (idle : Writer D) (generation : ℕ) (snapshots : List (List ℕ)) : Type 0 where
  pub frames : List (List ℕ)
  pub tried : IsTried generation snapshots frames
  pub rests : IsAtRest seen idle frames

-- what two lists of frames make of a store that is opened
pub record IsTurn (ones twos : List (List ℕ)) (turn : Turn) : Type 0 where
  pub side : turn.on_second ≡ second_is_live (marks_of ones) (marks_of twos)
  pub sealing : turn.sealing ≡ false
  pub live : live_of ones twos ≡ Some (if turn.on_second then twos else ones)
  pub whole : IsWhole turn.generation (if turn.on_second then twos else ones)
  pub beaten : IsBeaten turn.on_second turn.generation (if turn.on_second then ones else twos)
