-- The disks of a bay, by their names. This project's own. Worked example: a disk that is put back with the
-- content `kept` has that content when it is taken again, and a disk of another name is as it was; a name that was never
-- taken has a disk that is untouched.
use Rattle.std.specs.Prelude.{◌≡◌, ◌<◌, ◌^◌, ℕ, List, [], Some, is_some, true, false}
use Rattle.std.specs.declared.option.Option.{Option}
use Rattle.edge_io.specs.declared.fault.Armed.TheVariants.{Nothing}
use Rattle.edge_io.specs.Disk.{IsTold}
use Rattle.edge_io.specs.Names.{IsDiskName}
use Rattle.edge_io.specs.Views.{DiskView, BayView}

-- at this name nothing has changed
pub record SameSlot {B D : Type 0} (bay_seen : B → BayView D)
    (name : List ℕ) (old new : B) : Type 0 where
  pub same_disk : (bay_seen new).disk name ≡ (bay_seen old).disk name
  pub same_out : (bay_seen new).out name ≡ (bay_seen old).out name
  pub same_taken : (bay_seen new).taken name ≡ (bay_seen old).taken name

-- it is the disk that was told, where one was
abbrev pub IsAsTold : {D : Type 0} → Option D → D → Type 0
IsAsTold told given = (d : _) → told ≡ Some d → given ≡ d

-- this disk is told from now on, where one was told before
abbrev pub Holds : {D : Type 0} → Option D → Option D → D → Type 0
Holds old new given = is_some old ≡ true → new ≡ Some given

-- A disk on which nothing has happened: it is empty, a crash at any moment leaves it so, and no fault was armed.
pub record IsUntouched {D : Type 0} (seen : D → DiskView) (d : D) : Type 0 where
  pub content : (seen d).content ≡ Some []
  pub size : (seen d).size ≡ 0
  pub image : (c : List ℕ) → (seen d).image c → c ≡ []
  pub since : (t : ℕ) (c : List ℕ) → (seen d).since t c → c ≡ []
  pub losses : (seen d).losses ≡ []
  pub arms : (seen d).arms ≡ 0
  pub armed : (seen d).armed ≡ Nothing
  pub faults : (seen d).faults ≡ 0

-- A disk that tells its content, with nothing armed, which has found memory at each call.
pub record IsSoundDisk {D : Type 0} (seen : D → DiskView) (d : D) : Type 0 where
  pub tells : IsTold (seen d).content
  pub is_unarmed : (seen d).armed ≡ Nothing
  pub is_fed : (seen d).starved ≡ false
  pub few_faults : (seen d).faults < 2 ^ 62
  pub few_arms : (seen d).arms < 2 ^ 62

-- A bay that is sound: each of its disks is, and `take` fails for want of memory alone.
pub record IsSound {B D : Type 0} (bay_seen : B → BayView D) (seen : D → DiskView) (bay : B) : Type 0 where
  pub each : (name : List ℕ) → IsDiskName name → (d : D) × ((bay_seen bay).disk name ≡ Some d) × IsSoundDisk seen d
  pub is_steady : (bay_seen bay).steady
