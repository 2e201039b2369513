-- What the two disks of a store go through while they are opened, and when a call of a disk has failed. This project's own.
-- For example a first disk whose second device call is broken has one fault more than before, and no call was made on the second one.
use Rattle.std.specs.Prelude.{ℕ, ◌≤◌}
use Rattle.edge_io.specs.Armed.{RunsOn, StarvesUnarmed}
use Rattle.edge_io.specs.Causes.{Rose, raised}
use Rattle.edge_io.specs.Moments.{LeavesOnly}
use Rattle.edge_io.specs.Views.{DiskView}
use Rattle.gate_journal.specs.Frames.{StandsAs}

-- The count of faults rose; and where nothing was armed, the disk found no memory.
abbrev pub HasFailed : {D : Type 0} → (D → DiskView) → D → D → Type 0
HasFailed seen old new = Rose (seen old).faults (seen new).faults × StarvesUnarmed seen old new

-- the count of faults rose, and then again
abbrev pub RoseTwice : ℕ → ℕ → Type 0
RoseTwice before now = raised (raised before) ≤ now

-- A disk, from before it was opened on: at each moment since the call began each image is one from before it, or stands for the frames
-- of one.
pub record IsReopened {D : Type 0} (seen : D → DiskView) (old new : D) : Type 0 where
  pub any_moment : LeavesOnly seen old new (StandsAs (seen old).image)
  pub runs : RunsOn seen old new

pub record RunsBoth {D : Type 0} (seen : D → DiskView) (old_first old_second first second : D) : Type 0 where
  pub one : IsReopened seen old_first first
  pub two : IsReopened seen old_second second
