-- What a crash at some moment might have left, during a call or between two. This project's own. Worked example: on a disk
-- of `ab`, since a moment before `cd` is written at 2, a crash might have left `ab`, also when a sync behind the write has
-- made `abcd` the only content that a crash now may leave.
use Rattle.std.specs.Prelude.{◌⊎◌, ℕ, ◌≤◌, List}
use Rattle.edge_io.specs.Views.{DiskView}

-- Time goes on: a crash since t might have left what it might have left before, or what it may leave now.
pub record TimeGoesOn (before now : ℕ) (past since : ℕ → List ℕ → Type 0) (image : List ℕ → Type 0) : Type 0 where
  pub later : before ≤ now
  pub nothing_else : (t : ℕ) (c : List ℕ) → t ≤ before → since t c → past t c ⊎ image c
  pub keeps : (t : ℕ) (c : List ℕ) → t ≤ before → past t c → since t c

-- from the one view of a disk to the other
abbrev pub Elapses : DiskView → DiskView → Type 0
Elapses old new = TimeGoesOn old.moment new.moment old.since new.since new.image

-- A crash at any moment since old leaves a content that has P.
pub record LeavesOnly {D : Type 0} (seen : D → DiskView) (old new : D) (P : List ℕ → Type 0) : Type 0 where
  pub later : (seen old).moment ≤ (seen new).moment
  pub each : (c : List ℕ) → (seen new).since (seen old).moment c → P c
  -- for a run that began earlier
  pub before : (t : ℕ) (c : List ℕ) → t ≤ (seen old).moment → (seen new).since t c → (seen old).since t c ⊎ P c

-- Two disks, each at a moment of its own: an image of the one since its old moment, beside an image of the other since
-- its own, have P.
pub record LeavesPairs {D : Type 0} (seen : D → DiskView) (old_a new_a old_b new_b : D) (P : List ℕ → List ℕ → Type 0) : Type 0 where
  pub later_a : (seen old_a).moment ≤ (seen new_a).moment
  pub later_b : (seen old_b).moment ≤ (seen new_b).moment
  pub each : (c d : List ℕ) → (seen new_a).since (seen old_a).moment c → (seen new_b).since (seen old_b).moment d → P c d
