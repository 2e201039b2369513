-- What a run knows of each disk beside its content: numbers that say what has happened to it, and what each event does to them. This
-- project's own.
-- For example an arm of `orders/0/log` raises its number of arms by one and arms its fault, and leaves those of `foreign/state-a`.
use Rattle.std.specs.Prelude.{◌≡◌, ◌≤◌, ◌+◌, ◌-◌, ◌^◌, min, ℕ, List, Option, Bool, true, false, if◌then◌else◌}
use Rattle.edge_io.specs.declared.fault.FaultMode.{FaultMode}
use Rattle.edge_io.specs.declared.fault.Armed.{Armed}
use Rattle.edge_io.specs.declared.fault.Armed.TheVariants.{Nothing, After}
use Rattle.edge_io.specs.Armed.{Spends}
use Rattle.edge_io.specs.Causes.{raised}
use Rattle.session_script.specs.declared.event.Event.{Event}
use Rattle.session_script.specs.declared.event.Event.TheVariants.{Step, Expire, Arm, Power}
use Rattle.broker_model.specs.Hosted.{same_name}
use Rattle.broker_model.specs.Shards.{ShardCall, calls}
use Rattle.edge_io.specs.Views.{DiskView}

-- ---- what is known of a disk

-- the count of its faults, its losses (each with its choice and the content that it left), how often it was armed, and the fault that
-- is armed
pub record Facts : Type 0 where
  pub faults : ℕ
  pub losses : List (ℕ × List ℕ)
  pub arms : ℕ
  pub armed : Armed

-- those of a disk
abbrev pub facts_of : {D : Type 0} → (D → DiskView) → D → Facts
facts_of seen disk = record { faults = (seen disk).faults; losses = (seen disk).losses; arms = (seen disk).arms; armed = (seen disk).armed }

-- of all disks, by their names
abbrev pub Disks : Type 0
Disks = List ℕ → Facts

-- the count rose by so many, or stands at the last value that a u64 has
abbrev pub Covers : ℕ → ℕ → ℕ → Type 0
Covers before now n = min (before + n) (2 ^ 64 - 1) ≤ now

-- ---- what an event does to them

-- calls were made that arm nothing and lose no power
pub record IsUsed (old new : Facts) : Type 0 where
  pub losses : new.losses ≡ old.losses
  pub arms : new.arms ≡ old.arms
  pub spends : Spends old.armed new.armed old.faults new.faults

-- the power was lost; the loss itself is said apart, since all disks lose it together
pub record IsRestarted (old new : Facts) : Type 0 where
  pub arms : new.arms ≡ old.arms
  pub disarmed : new.armed ≡ Nothing
  pub quiet : new.faults ≡ old.faults

abbrev pub with_arm : ℕ → FaultMode → Facts → Facts
with_arm after mode old = record { faults = old.faults; losses = old.losses; arms = raised old.arms; armed = After after mode }

-- a disk whose shard was called may have been used; each other one is as it was
abbrev pub OnCalled : Bool → Facts → Facts → Type 0
OnCalled true old new = IsUsed old new
OnCalled false old new = new ≡ old

-- what an event, in which this shard was called, does to the disk of this name
abbrev pub OnDisk : List ℕ → Event → Option ShardCall → Facts → Facts → Type 0
OnDisk name (Step conn now) call old new = OnCalled (calls call name) old new
OnDisk name (Expire topic part now) call old new = OnCalled (calls call name) old new
OnDisk name (Arm disk after mode) call old new = new ≡ (if same_name disk name then with_arm after mode old else old)
OnDisk name (Power choice) call old new = IsRestarted old new
OnDisk name _ call old new = new ≡ old
