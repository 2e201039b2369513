-- The slot of foreign state as calls leave it (this project's own).
-- For example an arm of `foreign/state-b` leaves the first disk, and the states, as they were.
use Rattle.std.specs.Prelude.{◌≡◌, ◌≢◌, ◌⊎◌, ℕ, List}
use Rattle.edge_io.specs.declared.fault.FaultMode.{FaultMode}
use Rattle.edge_io.specs.Armed.{ArmsAlone}
use Rattle.edge_io.specs.Causes.{Rose}
use Rattle.share_coord.specs.Parts.{StoreParts}
use Rattle.foreign_coord.specs.Shards.{ForeignShardState, Carries}
use Rattle.broker_model.specs.Hosted.{state_a, state_b}
use Rattle.broker_hosts.specs.declared.fault.CoreOpen.{CoreOpen}
use Rattle.broker_hosts.specs.declared.fault.CoreOpen.TheVariants.{Device, Bay, NoMemory}
use Rattle.broker_core.specs.declared.fault.CoreFault.{CoreFault}
use Rattle.broker_core.specs.declared.fault.CoreFault.TheVariants as event_fault
use Rattle.broker_hosts.specs.declared.slot.ForeignSlot.{ForeignSlot}
use Rattle.broker_hosts.specs.declared.slot.ForeignSlot.TheVariants.{Open, Shut}
use Rattle.broker_hosts.specs.Carried.{IsCarried, GoesOn}
use Rattle.broker_hosts.specs.Openings.{ImagesStandAs}
use Rattle.broker_core.specs.Restarts.{IsRestartedShard, IsNotRestarted}
use Rattle.edge_io.specs.Views.{DiskView}

-- A fault of the first disk was armed, or of the second, or of none, by the name.
abbrev pub ArmsEither : {D : Type 0} → (D → DiskView) → List ℕ → ℕ → FaultMode → StoreParts D → StoreParts D → Type 0
ArmsEither seen disk passes mode was is =
    ((disk ≡ state_a) × ArmsAlone seen passes mode was.journal.first.disk is.journal.first.disk
    × (is.journal.second ≡ was.journal.second))
    ⊎ (((disk ≡ state_b) × ArmsAlone seen passes mode was.journal.second.disk is.journal.second.disk
    × (is.journal.first ≡ was.journal.first))
    ⊎ ((disk ≢ state_a) × (disk ≢ state_b) × (is ≡ was)))

pub record ArmsForeign {D : Type 0} (seen : D → DiskView) (disk : List ℕ) (passes : ℕ) (mode : FaultMode) (old new : ForeignSlot D) : Type 0 where
  pub was : StoreParts D
  pub is : StoreParts D
  pub old_is : old ≡ Open was
  pub new_is : new ≡ Open is
  pub either : ArmsEither seen disk passes mode was is
  pub end : is.journal.end ≡ was.journal.end
  pub stays : (s : ForeignShardState) → Carries seen was s → Carries seen is s

-- it was opened again
pub record ReopensForeign {D : Type 0} (seen : D → DiskView) (choice : ℕ) (old new : ForeignSlot D) : Type 0 where
  pub was : StoreParts D
  pub is : StoreParts D
  pub old_is : old ≡ Open was
  pub new_is : new ≡ Open is
  pub first : GoesOn seen was.journal.first.disk is.journal.first.disk
  pub second : GoesOn seen was.journal.second.disk is.journal.second.disk
  pub images : ImagesStandAs seen was.journal.first.disk was.journal.second.disk is.journal.first.disk is.journal.second.disk
  pub reopens : (s : ForeignShardState) → IsCarried seen was s
      → IsRestartedShard seen choice was s is

-- it was not, for this reason
pub record ShutsForeign {D : Type 0} (seen : D → DiskView)
    (fault : CoreFault) (old new : ForeignSlot D) : Type 0 where
  pub was : StoreParts D
  pub first : D
  pub second : D
  pub old_is : old ≡ Open was
  pub new_is : new ≡ Shut first second
  pub on_first : GoesOn seen was.journal.first.disk first
  pub on_second : GoesOn seen was.journal.second.disk second
  pub images : ImagesStandAs seen was.journal.first.disk was.journal.second.disk first second
  pub shuts : (s : ForeignShardState) → IsCarried seen was s
      → IsNotRestarted seen s first second × (fault ≡ event_fault.NoMemory)
  pub device : fault ≡ event_fault.Reopen Device → Rose (seen was.journal.first.disk).faults (seen first).faults ⊎ Rose (seen was.journal.second.disk).faults (seen second).faults
  pub never : (f : CoreOpen) → fault ≡ event_fault.Reopen f → (f ≢ Bay) × (f ≢ NoMemory)
