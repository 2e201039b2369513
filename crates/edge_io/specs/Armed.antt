-- What an armed fault does to the calls that it counts: reads, writes, cuts and syncs. This project's own. Worked example:
-- `wxyz` is written to an empty disk whose next call is broken. By `Once` nothing is written, by `Torn` and `Dead` `wx` is;
-- the call after it passes by `Once` and `Torn`, and fails by `Dead`.
use Rattle.std.specs.Prelude.{◌≡◌, ◌⊎◌, ℕ, ◌-◌, ◌≤◌, ◌==◌, if◌then◌else◌, Bool, true, false, is_some, Result, OnOk}
use Rattle.edge_io.specs.declared.fault.FaultMode.{FaultMode}
use Rattle.edge_io.specs.declared.fault.FaultMode.TheVariants.{Once, Torn, Dead}
use Rattle.edge_io.specs.declared.fault.Armed.{Armed}
use Rattle.edge_io.specs.declared.fault.Armed.TheVariants.{Nothing, After, Broken}
use Rattle.edge_io.specs.Causes.{FailsBy, raised}
use Rattle.edge_io.specs.Disk.{IsTold, SameImages}
use Rattle.edge_io.specs.Views.{DiskView}

-- the call that comes next is broken
abbrev pub breaks : Armed → Bool
breaks Nothing = false
breaks (After passes mode) = passes == 0
breaks Broken = true

-- what is left of a fault that has broken a call
abbrev pub spent : FaultMode → Armed
spent Once = Nothing
spent Torn = Nothing
spent Dead = Broken

-- what is armed after a counted call
abbrev pub next_armed : Armed → Armed
next_armed Nothing = Nothing
next_armed (After passes mode) = if passes == 0 then spent mode else After (passes - 1) mode
next_armed Broken = Broken

-- a write that comes next is broken, and its first half is written
abbrev pub tears : Armed → Bool
tears Nothing = false
tears (After passes Once) = false
tears (After passes Torn) = passes == 0
tears (After passes Dead) = passes == 0
tears Broken = false

-- A counted call of a disk that tells its content: it fails exactly where the armed fault breaks it or it finds no
-- memory, and else the count of faults stays. One that is broken asks for memory only where it writes a half.
pub record RunsAsArmed {T E : Type 0} (writes_half : Bool) (old new : DiskView) (result : Result T E) : Type 0 where
  pub next : new.armed ≡ next_armed old.armed
  pub fails : FailsBy (breaks old.armed ≡ true) old.starved new.starved result
  pub memory : breaks old.armed ≡ true → writes_half ≡ false → new.starved ≡ old.starved
  pub quiet : OnOk result (new.faults ≡ old.faults)

-- ---- over several calls

-- a fault that breaks one call and no more
abbrev pub IsOneShot : Armed → Type 0
IsOneShot Nothing = ⊥
IsOneShot (After passes Once) = Unit {0}
IsOneShot (After passes Torn) = Unit {0}
IsOneShot (After passes Dead) = ⊥
IsOneShot Broken = ⊥

-- What calls do to the armed fault and the count of faults, where memory is found: with nothing armed none fails, and a
-- fault that breaks one call is gone once it did.
pub record Spends (old new : Armed) (before now : ℕ) : Type 0 where
  pub disarmed : old ≡ Nothing → (new ≡ Nothing) × (now ≡ before)
  pub one_shot : IsOneShot old → (IsOneShot new × (now ≡ before)) ⊎ (new ≡ Nothing)

-- What calls of a disk do to it besides its content and images.
pub record RunsOn {D : Type 0} (seen : D → DiskView) (old new : D) : Type 0 where
  -- no power was lost, and no fault was armed
  pub same_losses : (seen new).losses ≡ (seen old).losses
  pub same_arms : (seen new).arms ≡ (seen old).arms
  pub told : is_some (seen new).content ≡ is_some (seen old).content
  pub later : (seen old).faults ≤ (seen new).faults
  -- where nothing was armed, nothing is
  pub unarmed : IsTold (seen old).content → (seen old).armed ≡ Nothing → (seen new).armed ≡ Nothing
  -- where it tells its content: what is starved stays so, and if it isn't, the armed fault alone makes calls fail
  pub stays : IsTold (seen old).content → (seen old).starved ≡ true → (seen new).starved ≡ true
  pub spends : IsTold (seen old).content → (seen new).starved ≡ false → Spends (seen old).armed (seen new).armed (seen old).faults (seen new).faults

-- with nothing armed, a disk that tells its content fails only where it finds no memory
abbrev pub StarvesUnarmed : {D : Type 0} → (D → DiskView) → D → D → Type 0
StarvesUnarmed seen old new = IsTold (seen old).content → (seen old).armed ≡ Nothing → (seen new).starved ≡ true

-- A fault was armed, and nothing else of the disk has changed.
pub record ArmsAlone {D : Type 0} (seen : D → DiskView)
    (after : ℕ) (mode : FaultMode) (old new : D) : Type 0 where
  pub is_armed : IsTold (seen old).content → (seen new).armed ≡ After after mode
  pub counted : IsTold (seen old).content → (seen new).arms ≡ raised (seen old).arms
  pub same_content : (seen new).content ≡ (seen old).content
  pub same_images : SameImages (seen old).image (seen new).image
  pub same_losses : (seen new).losses ≡ (seen old).losses
  pub same_starved : (seen new).starved ≡ (seen old).starved
  pub same_faults : (seen new).faults ≡ (seen old).faults
