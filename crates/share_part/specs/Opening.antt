-- What a shard is that was opened, and why none was. This project's own.
-- For example three empty disks are opened as a shard with an empty log and no tables.
use Rattle.std.specs.Prelude.{◌≡◌, ◌≢◌, ◌⊎◌, ℕ, List, Some, true, false}
use Rattle.edge_io.specs.declared.name.DiskPlace.{DiskPlace}
use Rattle.edge_io.specs.declared.name.DiskPlace.TheVariants.{Log, LogB, StateA, StateB}
use Rattle.coord_checkpoint.specs.Disks.{HasFailed}
use Rattle.share_model.specs.ForeignRules.{ShareStates}
use Rattle.share_model.specs.Held.{Held}
use Rattle.part_log.specs.Logs.{IsLogText, IsNoLogText, log_in}
use Rattle.part_log.specs.Starts.{Log as PartitionLog}
use Rattle.share_coord.specs.Raising.{raised_states}
use Rattle.share_coord.specs.Stored.{AreDamaged}
use Rattle.share_part.specs.Hosting.{PartConfParts, AreHosted, ArePartText}
use Rattle.share_coord.specs.States.{AreStates, states_of}
use Rattle.share_part.specs.Shards.{PartParts, Carries, shard_with}
use Rattle.share_part.specs.declared.opening.PartFault.{PartFault}
use Rattle.share_part.specs.declared.opening.PartFault.TheVariants.{Damaged, Device}
use Rattle.edge_io.specs.Views.{DiskView}

-- A shard that was opened of a log disk and two state disks.
pub record IsOpened {D W : Type 0} (seen : D → DiskView) (holding : W → Held) (conf : PartConfParts)
    (log a b : D) (parts : PartParts D W) : Type 0 where
  pub conf_is : parts.conf ≡ conf
  -- it stands for the log and the states that it has: nothing is held or pending, and the clock is 0
  pub carries : Carries seen holding parts (shard_with (log_in parts.log) (states_of parts.states.entries))
  -- the contents stood for these, and for no others
  pub opens : (l x y : List ℕ) → (seen log).content ≡ Some l → (seen a).content ≡ Some x → (seen b).content ≡ Some y →
      ArePartText conf l x y (log_in parts.log) (states_of parts.states.entries)
  pub only : (l x y : List ℕ) (is : PartitionLog) (states : ShareStates) →
      (seen log).content ≡ Some l → (seen a).content ≡ Some x → (seen b).content ≡ Some y →
      ArePartText conf l x y is states → (is ≡ log_in parts.log) × (states ≡ states_of parts.states.entries)

-- The states, raised to the log's start, break the rules on a hosted partition.
pub record AreMisplaced (conf : PartConfParts) (log first second : List ℕ) : Type 0 where
  pub is : PartitionLog
  pub states : ShareStates
  pub is_log : IsLogText log is
  pub are_states : AreStates first second states
  pub broken : AreHosted conf is (raised_states is.start states) → ⊥

abbrev pub StandsForLog : List ℕ → Type 0
StandsForLog log = (is : PartitionLog) × IsLogText log is

-- Contents are damaged on that disk, at that place; rules that are broken are told of the first state disk and place 0. Where a state disk is
-- told, the log is sound.
abbrev pub AreDamagedAt : PartConfParts → List ℕ → List ℕ → List ℕ → DiskPlace → ℕ → Type 0
AreDamagedAt conf log first second Log place = IsNoLogText log place
AreDamagedAt conf log first second LogB place = ⊥
AreDamagedAt conf log first second StateA place =
    StandsForLog log × (AreDamaged first second false place ⊎ ((place ≡ 0) × AreMisplaced conf log first second))
AreDamagedAt conf log first second StateB place = StandsForLog log × AreDamaged first second true place

-- The disks that come back where none was opened, and why.
pub record IsNotOpened {D : Type 0} (seen : D → DiskView)
    (conf : PartConfParts) (log a b log_now a_now b_now : D) (fault : PartFault) : Type 0 where
  -- contents are damaged at that place, and stand for no log and states
  pub damaged : (disk : DiskPlace) (place : ℕ) → fault ≡ Damaged disk place →
      (l x y : List ℕ) → (seen log).content ≡ Some l → (seen a).content ≡ Some x → (seen b).content ≡ Some y → AreDamagedAt conf l x y disk place
  pub sound : (l x y : List ℕ) (is : PartitionLog) (states : ShareStates) →
      (seen log).content ≡ Some l → (seen a).content ≡ Some x → (seen b).content ≡ Some y →
      ArePartText conf l x y is states → (disk : DiskPlace) (place : ℕ) → fault ≢ Damaged disk place
  -- a disk failed, of those that a partition has: it has no second disk of its log
  pub log_device : fault ≡ Device Log → HasFailed seen log log_now
  pub log_b_device : fault ≢ Device LogB
  pub first_device : fault ≡ Device StateA → HasFailed seen a a_now
  pub second_device : fault ≡ Device StateB → HasFailed seen b b_now
