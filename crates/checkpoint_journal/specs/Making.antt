-- What is left of the disk that isn't live where a checkpoint was written to it. This project's own.
-- Worked example: the checkpoint of generation 1 and no snapshot whose seal failed at its last sync leaves `03 00 0000000000000001` with
-- or without `04 00` behind it.
use Rattle.std.specs.Prelude.{◌≡◌, ◌⊎◌, ◌<◌, ◌^◌, ℕ, Bool, List, [], ◌∷◌, Some, None}
use Rattle.std.specs.declared.option.Option.{Option}
use Rattle.edge_io.specs.Causes.{Rose}
use Rattle.edge_io.specs.Counting.{DoesCalls}
use Rattle.edge_io.specs.Views.{DiskView}
use Rattle.gate_journal.specs.Journals.{IsAtRest, Stands}
use Rattle.gate_journal.specs.declared.writer.Writer.{Writer}
use Rattle.checkpoint_journal.specs.Checkpoints.{AreSnapshots}
use Rattle.checkpoint_journal.specs.Generations.{checkpoint_of, head_frame, seal_frame}
use Rattle.checkpoint_journal.specs.Spares.{IsBeside, IsIdle}
use Rattle.checkpoint_journal.specs.declared.making.CheckpointFault.{CheckpointFault}
use Rattle.checkpoint_journal.specs.declared.making.CheckpointFault.TheVariants.{Uncleared, Unsealed, Sealing}

-- the checkpoint of this generation with these snapshots
pub record IsMade (generation : ℕ) (snapshots frames : List (List ℕ)) : Type 0 where
  pub fits : generation < 2 ^ 64
  pub all : AreSnapshots snapshots
  pub is : frames ≡ checkpoint_of generation snapshots

-- found while it is written: what isn't live, or the checkpoint
abbrev pub IsMaking : Bool → ℕ → Option (List (List ℕ)) → ℕ → List (List ℕ) → List (List ℕ) → Type 0
IsMaking on_second live sealing generation snapshots frames = IsIdle on_second live sealing frames ⊎ IsMade generation snapshots frames

-- by how far it came: as before; or no seal may land; or that of this checkpoint may
abbrev pub IsUnmade : {D : Type 0} → (D → DiskView) → Writer D → Bool → ℕ → Option (List (List ℕ)) → ℕ → List (List ℕ) → CheckpointFault → Type 0
IsUnmade seen journal on_second live sealing generation snapshots Uncleared = IsBeside seen journal on_second live sealing
IsUnmade seen journal on_second live sealing generation snapshots Unsealed = IsBeside seen journal on_second live None
IsUnmade seen journal on_second live sealing generation snapshots Sealing =
    AreSnapshots snapshots × IsBeside seen journal on_second live (Some (checkpoint_of generation snapshots))

-- ---- how far it came

-- calls of a disk, each done
abbrev pub DoesSome : {D : Type 0} → (D → DiskView) → D → D → Type 0
DoesSome seen old new = (n : ℕ) × DoesCalls seen n old new

-- an append that failed: a call of its disk did; or it had no room, and nothing is changed
abbrev pub FailsOrFull : {D : Type 0} → (D → DiskView) → Writer D → Writer D → Type 0
FailsOrFull seen old new = Rose (seen old.disk).faults (seen new.disk).faults ⊎ (new ≡ old)

-- no frames, or the head of this generation with others behind it
abbrev pub HasBegun : ℕ → List (List ℕ) → Type 0
HasBegun generation frames = (frames ≡ []) ⊎ ((given : List (List ℕ)) × (frames ≡ head_frame generation ∷ given))

-- it ended at a call that failed; or, for want of memory or room, at rest with what it has begun
abbrev pub Halts : {D : Type 0} → (D → DiskView) → Writer D → Writer D → ℕ → Type 0
Halts seen old new generation = Rose (seen old.disk).faults (seen new.disk).faults
    ⊎ (DoesSome seen old.disk new.disk × (frames : List (List ℕ)) × HasBegun generation frames × IsAtRest seen new frames)

-- A checkpoint that was tried and not made: a call of its disk failed; or calls were made and done, what the disk had is gone, and it is at
-- rest with no frames, or with the head of this generation and others. For example the memory for the first snapshot isn't found: the head
-- alone stands there.
abbrev pub HasStopped : {D : Type 0} → (D → DiskView) → Writer D → Writer D → ℕ → Type 0
HasStopped seen old new generation = Rose (seen old.disk).faults (seen new.disk).faults
    ⊎ ((n : ℕ) × (0 < n) × DoesCalls seen n old.disk new.disk × (frames : List (List ℕ)) × HasBegun generation frames × IsAtRest seen new frames)

-- The append of a seal failed: by a call of its disk, and then it may land; or for want of room, and nothing is changed.
abbrev pub SealFails : {D : Type 0} → (D → DiskView) → Writer D → Writer D → CheckpointFault → Type 0
SealFails seen old new Uncleared = ⊥
SealFails seen old new Unsealed = new ≡ old
SealFails seen old new Sealing = Rose (seen old.disk).faults (seen new.disk).faults
    × ((frames : List (List ℕ)) → IsAtRest seen old frames → Stands seen new frames None ⊎ Stands seen new frames (Some seal_frame))
