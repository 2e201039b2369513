-- The failed calls of the two disks of a shard's states, counted together, and what calls do to both. This project's own.
-- For example where a checkpoint fails on the second disk and the write behind it on the first one, there are two failures more than
-- before; where the write behind it is done, there is one, and the answer tells none.
use Rattle.std.specs.Prelude.{◌+◌, ◌⊎◌, ℕ}
use Rattle.edge_io.specs.Armed.{RunsOn, StarvesUnarmed}
use Rattle.edge_io.specs.Causes.{Rose}
use Rattle.edge_io.specs.Views.{DiskView}
use Rattle.coord_checkpoint.specs.Writes.{IsQuietBut, MayCheckpoint}
use Rattle.share_coord.specs.Parts.{StoreParts}
use Rattle.share_coord.specs.Stored.{snapshot_frames}

-- how many calls of both disks have failed
abbrev pub failures_of : {D : Type 0} → (D → DiskView) → StoreParts D → ℕ
failures_of seen store = (seen store.journal.first.disk).faults + (seen store.journal.second.disk).faults

abbrev pub FailuresRose : {D : Type 0} → (D → DiskView) → StoreParts D → StoreParts D → Type 0
FailuresRose seen old new = Rose (failures_of seen old) (failures_of seen new)

-- no call of both disks failed in a write, but those of a checkpoint on one of them before it
abbrev pub AreQuiet : {D : Type 0} → (D → DiskView) → StoreParts D → StoreParts D → Type 0
AreQuiet seen old new = IsQuietBut seen (MayCheckpoint old.journal (snapshot_frames old.entries)) old.journal new.journal

-- what calls do to each of both disks besides its content and images
abbrev pub RunOnBoth : {D : Type 0} → (D → DiskView) → StoreParts D → StoreParts D → Type 0
RunOnBoth seen old new =
    RunsOn seen old.journal.first.disk new.journal.first.disk × RunsOn seen old.journal.second.disk new.journal.second.disk

-- with nothing armed on either disk, one of them found no memory
abbrev pub StarveUnarmed : {D : Type 0} → (D → DiskView) → StoreParts D → StoreParts D → Type 0
StarveUnarmed seen old new =
    StarvesUnarmed seen old.journal.first.disk new.journal.first.disk ⊎ StarvesUnarmed seen old.journal.second.disk new.journal.second.disk
