-- The releases of what a group holds, whether of a member or by lock end. Private clauses cite this alone.
-- For example where `a` holds 0 to 2 and `b` holds 3, the releases of `a` are three, and where their write fails none of them is done.
use Rattle.std.specs.Prelude.{◌≡◌, ◌≢◌, ◌≤◌, ◌<◌, ℕ, List, Bool, true, false, Option, Some, None, not, nat_eq, map, filter}
use Rattle.std.specs.List.{count_by}
use Rattle.share_model.specs.Held.{Held, hold_at}
use Rattle.share_model.specs.Logs.{Batch}
use Rattle.share_model.specs.ShareStates.{ShareState}
use Rattle.share_model.specs.declared.fault.StoreFault.{StoreFault}
use Rattle.share_model.specs.declared.fault.StoreFault.TheVariants.{Device}
use Rattle.share_model.specs.declared.hold.Hold.{Hold}
use Rattle.share_model.specs.declared.run.Run.{Run}
use Rattle.share_part.specs.Acknowledging.{NameNone, NameOne, StoresActs}
use Rattle.share_part.specs.Expiring.{due_count}
use Rattle.share_part.specs.Failures.{AreQuiet, FailuresRose, StarveUnarmed}
use Rattle.share_part.specs.Hosting.{PartConfParts}
use Rattle.share_part.specs.Settling.{Acts, IsChange, change_of, is_chosen, releasing}
use Rattle.share_part.specs.Shards.{Carries, PartParts, PartShardState, held_in}
use Rattle.share_part.specs.Tables.{Table, table_of}
use Rattle.share_part.specs.Writes.{WritesActs}
use Rattle.share_part.specs.declared.release.Released.{Released}
use Rattle.share_part.specs.declared.release.Released.TheVariants.{Done, Store}
use Rattle.share_part.specs.declared.settle.Moved.{Moved}
use Rattle.share_part.specs.declared.settle.Whose.{Whose}
use Rattle.edge_io.specs.Views.{DiskView}

-- ---- what is stored

-- acts that name no offset, or what is to be stored of them, with these rows
abbrev pub ReleasesTable : ℕ → Acts → List Batch → Table → List Run → Option Moved → Type 0
ReleasesTable limit acts log table rows None = NameNone acts
ReleasesTable limit acts log table rows (Some moved) =
    NameOne acts × IsChange limit acts log table (change_of moved rows)

-- the same of a group that has this state, if it has one
abbrev pub ReleasesGroup : ℕ → Acts → List Batch → Held → Option ShareState → List Run → Option Moved → Type 0
ReleasesGroup limit acts log held state rows None = NameNone acts
ReleasesGroup limit acts log held None rows (Some moved) = ⊥
ReleasesGroup limit acts log held (Some state) rows (Some moved) =
    NameOne acts × IsChange limit acts log (table_of state held) (change_of moved rows)

-- ---- which holds end

-- all that is held from an offset on, and below another, stays
abbrev pub AreLeft : (Hold → Bool) → Held → ℕ → ℕ → Type 0
AreLeft chosen held from to = (offset : ℕ) (hold : Hold) → from ≤ offset → offset < to → hold_at held offset ≡ Some hold → chosen hold ≡ false

-- all that is held from one offset to another is chosen
abbrev pub AreChosen : (Hold → Bool) → Held → ℕ → ℕ → Type 0
AreChosen chosen held first last = (offset : ℕ) (hold : Hold) → first ≤ offset → offset ≤ last → hold_at held offset ≡ Some hold → chosen hold ≡ true

-- the next that is chosen
pub record IsNextChosen (chosen : Hold → Bool) (held : Held) (from offset : ℕ) : Type 0 where
  pub behind : from ≤ offset
  pub picked : AreChosen chosen held offset offset
  pub left : AreLeft chosen held from offset

abbrev pub chosen_count : Whose → Held → ℕ
chosen_count whose held = count_by (λ entry. is_chosen whose entry.1) held

-- ---- what is told

-- the number of the records that are released
abbrev pub Counts : Whose → Held → Released → Type 0
Counts whose held (Done count) = count ≡ chosen_count whose held
Counts whose held (Store fault) = Unit {0}

abbrev pub fault_in : Released → Option StoreFault
fault_in (Done count) = None
fault_in (Store fault) = Some fault

-- ---- on a shard

-- The releases of a group, where the clock is raised to `clock`. `rose` says that more calls of the two state disks have failed, `end` is
-- where the live journal of the states ends.
pub record StepsRelease (conf : PartConfParts) (rose : Type 0) (end : ℕ) (old : PartShardState) (clock : ℕ) (group : List ℕ) (whose : Whose)
    (released : Released) (new : PartShardState) : Type 0 where
  pub log : new.log ≡ old.log
  pub clock_is : new.clock ≡ clock
  pub stores : StoresActs conf rose end old group (releasing (is_chosen whose) (old.held group)) new (fault_in released)
  pub counts : Counts whose (old.held group) released

abbrev pub ReleasedSo : {D W : Type 0} → (D → DiskView) → (W → Held) → ℕ → List ℕ → Whose → PartParts D W → PartParts D W
    → Released → Type 0
ReleasedSo seen holding clock group whose before after released = (old : PartShardState) → Carries seen holding before old →
    (new : PartShardState) × Carries seen holding after new
    × StepsRelease before.conf (FailuresRose seen before.states after.states) before.states.journal.end old clock group whose released new

-- The releases of a group on a shard in memory.
pub record ReleasesOnce {D W : Type 0} (seen : D → DiskView) (holding : W → Held) (clock : ℕ) (group : List ℕ) (whose : Whose) (before after : PartParts D W)
    (released : Released) : Type 0 where
  pub steps : ReleasedSo seen holding clock group whose before after released
  pub unwritten : NameNone (releasing (is_chosen whose) (held_in holding before.windows group)) → after.states ≡ before.states
  -- which record is stored
  pub records : WritesActs seen before.conf before.log.batches group
      (releasing (is_chosen whose) (held_in holding before.windows group)) (held_in holding before.windows group)
      true before.states after.states (fault_in released)
  -- where no store fault is told, no device call failed but those of a checkpoint
  pub quiet : ((fault : StoreFault) → released ≢ Store fault) → AreQuiet seen before.states after.states
  pub sound : released ≡ Store Device → StarveUnarmed seen before.states after.states
  pub log : after.log ≡ before.log
  pub conf : after.conf ≡ before.conf

-- ---- which groups are due

-- a group holds something by a lock that has ended
abbrev pub has_due : ℕ → Held → Bool
has_due clock held = not (nat_eq (due_count clock held) 0)

-- the groups that do, in the order of their windows
abbrev pub due_groups : {W : Type 0} → (W → Held) → ℕ → List (List ℕ × W) → List (List ℕ)
due_groups holding clock windows = map (λ entry. entry.0) (filter (λ entry. has_due clock (holding entry.1)) windows)
