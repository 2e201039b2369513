-- What an opening leaves of the images of a disk.
use Rattle.std.proofs.Common.{◌≤◌, ℕ, List}
use Rattle.edge_io.specs.Moments.{LeavesOnly}
use Rattle.gate_journal.specs.Frames.{StandsAs}
use Rattle.edge_io.specs.Views.{DiskView}

module _ {D : Type 0} (seen : D → DiskView) (counts_now : (d : D) (t : ℕ) (c : List ℕ) → t ≤ (seen d).moment → (seen d).image c → (seen d).since t c) where
  -- each is one from before it, or stands for the frames of one
  pub reopened_images : (old new : D) → LeavesOnly seen old new (StandsAs (seen old).image) → (c : List ℕ) → (seen new).image c → StandsAs (seen old).image c
  reopened_images old new moments c on = moments.each c (counts_now new (seen old).moment c moments.later on)
