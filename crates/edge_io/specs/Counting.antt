-- Counted calls in a row, on a disk that tells its content, where the first that fails is the last one: reads, writes, cuts
-- and syncs. This project's own. Worked example: four calls of a disk whose fault is armed after four calls or more pass; of
-- a disk whose fault is armed after one the second fails, and there is no third.
use Rattle.std.specs.Prelude.{◌≡◌, ◌⊎◌, ℕ, ◌-◌, ◌≤◌, ◌<◌, Bool, true, Result, Err, OnOk}
use Rattle.edge_io.specs.declared.fault.Armed.{Armed}
use Rattle.edge_io.specs.declared.fault.Armed.TheVariants.{Nothing, After, Broken}
use Rattle.edge_io.specs.Armed.{breaks, next_armed, RunsOn, StarvesUnarmed}
use Rattle.edge_io.specs.Causes.{Rose}
use Rattle.edge_io.specs.Disk.{IsTold}
use Rattle.edge_io.specs.Views.{DiskView}

-- the armed fault breaks none of the next n calls
abbrev pub LetsPass : ℕ → Armed → Type 0
LetsPass n Nothing = Unit {0}
LetsPass n (After passes mode) = n ≤ passes
LetsPass n Broken = n ≡ 0

-- what is armed behind these n calls
abbrev pub armed_after : ℕ → Armed → Armed
armed_after n Nothing = Nothing
armed_after n (After passes mode) = After (passes - n) mode
armed_after n Broken = Broken

-- n calls were made, and each was done
pub record AreDone (n : ℕ) (was armed : Armed) (was_starved starved : Bool) (before now : ℕ) : Type 0 where
  pub passes : LetsPass n was
  pub left : armed ≡ armed_after n was
  pub same_starved : starved ≡ was_starved
  pub same_faults : now ≡ before

-- Of n calls so many were done, and the next one was broken or found no memory. There was none behind it.
pub record EndAtFault (n : ℕ) (was armed : Armed) (starved : Bool) : Type 0 where
  pub count : ℕ
  pub within : count < n
  pub passes : LetsPass count was
  pub left : armed ≡ next_armed (armed_after count was)
  pub cause : (breaks (armed_after count was) ≡ true) ⊎ (starved ≡ true)

-- n calls of a disk, each done, where it tells its content.
abbrev pub DoesCalls : {D : Type 0} → (D → DiskView) → ℕ → D → D → Type 0
DoesCalls seen n old new =
    IsTold (seen old).content → AreDone n (seen old).armed (seen new).armed (seen old).starved (seen new).starved (seen old).faults (seen new).faults

-- and where one of the n failed
abbrev pub FailsInCalls : {D : Type 0} → (D → DiskView) → ℕ → D → D → Type 0
FailsInCalls seen n old new = IsTold (seen old).content → EndAtFault n (seen old).armed (seen new).armed (seen new).starved

-- at most so many calls, each done
abbrev pub DoesUpTo : {D : Type 0} → (D → DiskView) → ℕ → D → D → Type 0
DoesUpTo seen most old new = (n : ℕ) × (n ≤ most) × DoesCalls seen n old new

-- What a call got from its disk in n calls. At Ok each of them was done. Where the answer is this fault, one of them failed and
-- was the last, and the count of faults rose; with nothing armed that comes only where no memory was found.
pub record MakesCalls {D T E : Type 0} (seen : D → DiskView) (n : ℕ) (old new : D) (fault : E) (result : Result T E) : Type 0 where
  pub runs : RunsOn seen old new
  pub done : OnOk result (DoesCalls seen n old new)
  pub fails : result ≡ Err fault → FailsInCalls seen n old new
  pub rose : result ≡ Err fault → Rose (seen old).faults (seen new).faults
  pub memory : result ≡ Err fault → StarvesUnarmed seen old new

-- The same of at most so many calls: each was done unless one failed, which is told apart by `failed`.
pub record MakesUpTo {D : Type 0} (seen : D → DiskView) (most : ℕ) (old new : D) (failed : Type 0) : Type 0 where
  pub runs : RunsOn seen old new
  pub done : (failed → ⊥) → DoesUpTo seen most old new
  pub fails : failed → FailsInCalls seen most old new
  pub rose : failed → Rose (seen old).faults (seen new).faults
  pub memory : failed → StarvesUnarmed seen old new
