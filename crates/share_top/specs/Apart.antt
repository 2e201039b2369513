-- What a command leaves alone (this project's own).
-- For example a `load` of partition 0 of `orders` uses the disk `orders/0/log`, and each other disk is as
-- it was; and what it does to that disk arms no fault and loses no power.
use Rattle.std.specs.Prelude.{◌≡◌, List, ℕ, Some}
use Rattle.edge_io.specs.Armed.{RunsOn}
use Rattle.edge_io.specs.Bays.{SameSlot}
use Rattle.share_top.specs.Changes.{BayChange}

-- the disks that aren't those of the command are as they were
abbrev pub LeavesOthers : {B D : Type 0} → BayChange B D → (IsOfCommand : List ℕ → Type 0) → Type 0
LeavesOthers bay IsOfCommand =
    (name : List ℕ) → (IsOfCommand name → ⊥) → SameSlot bay.seen name bay.old bay.new

-- what was done to the disk of this name, where the bay tells it, arms no fault and loses no power
abbrev pub RunsDisk : {B D : Type 0} → BayChange B D → List ℕ → Type 0
RunsDisk bay name = (d e : _) → (bay.seen bay.old).disk name ≡ Some d
    → (bay.seen bay.new).disk name ≡ Some e → RunsOn bay.disk_seen d e
