-- What a delete is answered and leaves of a shard (Apache Kafka protocol guide, "DeleteRecords": the records below an
-- offset go, and -1 stands for the log's end; KIP-932: a share-partition's start moves with the log's start). A table
-- that starts below the log's start then starts there, and its rows and what is held below go; a crash finds them so
-- once the mark is stored. The pending mark is this project's own.
-- Worked example: a log has one batch from 0 to 2, the start of `g` is 0, and `a` holds 0 to 2. A delete of 2 is
-- answered with 2: the log and the table start at 2, and `a` holds 2. Behind it one of 7 is told that the log ends at 3,
-- one of 1 is answered with 2 and changes nothing, and one of -1 is answered with 3. Where the disk of the log fails in
-- the first, all three are held as before, and the mark is pending.
use Rattle.std.specs.Prelude.{◌≡◌, ◌≢◌, ◌⊎◌, ◌≤◌, ◌<◌, ◌^◌, max, ℕ, zero, suc, ℤ, pos, negsuc, List, filter, nat_le}
use Rattle.std.specs.Prelude.{Option, Some, None, Err, if◌then◌else◌}
use Rattle.std.specs.Option.{option_map}
use Rattle.edge_io.specs.Armed.{StarvesUnarmed}
use Rattle.edge_io.specs.Causes.{Rose}
use Rattle.edge_io.specs.Moments.{LeavesOnly}
use Rattle.edge_io.specs.Views.{DiskView}
use Rattle.gate_journal.specs.Journals.{IsQuiet}
use Rattle.share_model.specs.Held.{Held}
use Rattle.share_model.specs.Logs.{end_of}
use Rattle.share_model.specs.declared.delete.DeleteAnswer.{DeleteAnswer}
use Rattle.share_model.specs.declared.delete.DeleteAnswer.TheVariants.{Done, OutOfRange, Store}
use Rattle.share_model.specs.declared.fault.StoreFault.TheVariants.{Device}
use Rattle.part_log.specs.Logs.{log_in}
use Rattle.part_log.specs.Shards.{HasRoomForMark, IsLogOf, LogShardState, Raises, StepsRaise, log_at}
use Rattle.part_log.specs.Starts.{Log}
use Rattle.part_log.specs.Starts.LogWrite.{Marks}
use Rattle.share_coord.specs.Parts.{StoreParts}
use Rattle.share_coord.specs.Raising.{raised_states}
use Rattle.share_coord.specs.Unwritten.{raised_all}
use Rattle.share_part.specs.Shards.{Carries, IsStill, PartParts, PartShardState}

-- the offset below which records go, if it is one up to the log's end
abbrev pub target_of : Log → ℤ → Option ℕ
target_of log (pos to) = if nat_le to (end_of log.batches) then Some to else None
target_of log (negsuc zero) = Some (end_of log.batches)
target_of log (negsuc (suc n)) = None

-- it is this one, and the log doesn't start there yet
abbrev pub IsToDelete : Log → ℤ → ℕ → Type 0
IsToDelete log to target = (target_of log to ≡ Some target) × (log.start < target)

-- what is held from an offset on
abbrev pub holds_from : ℕ → Held → Held
holds_from start held = filter (λ entry. nat_le start entry.0) held

-- each table starts there or behind, and nothing below is stored or held
pub record IsRaisedTo (start : ℕ) (old new : PartShardState) : Type 0 where
  pub states : new.states ≡ raised_states start old.states
  pub pending : new.pending ≡ option_map (raised_states start) old.pending
  pub held : (group : List ℕ) → new.held group ≡ holds_from start (old.held group)

-- the log starts there or behind already, and nothing changes
pub record DeletesNothing (old : PartShardState) (target start : ℕ) (new : PartShardState) : Type 0 where
  pub gone : target ≤ old.log.start
  pub start_is : start ≡ old.log.start
  pub log : new.log ≡ old.log
  pub still : IsStill old new

-- the log starts there from now on, and each table there or behind
pub record DeletesBelow (end : ℕ) (old : PartShardState) (target start : ℕ) (new : PartShardState) : Type 0 where
  pub start_is : start ≡ target
  pub log : Raises end old.log target new.log
  pub tables : IsRaisedTo target old new

-- What is deleted, by the answer. `rose` says that the count of faults of the log's disk rose, `end` is where its
-- journal ends.
abbrev pub Deletes : (rose : Type 0) (end : ℕ) → PartShardState → (to : ℤ) → DeleteAnswer → PartShardState → Type 0
Deletes rose end old to (OutOfRange at) new =
    (target_of (log_at old.log) to ≡ None) × (at ≡ end_of old.log.batches) × (new.log ≡ old.log) × IsStill old new
Deletes rose end old to (Done start) new = (target : ℕ) × (target_of (log_at old.log) to ≡ Some target)
    × (DeletesNothing old target start new ⊎ DeletesBelow end old target start new)
Deletes rose end old to (Store fault) new = (target : ℕ) × IsToDelete (log_at old.log) to target
    × StepsRaise rose end old.log target (Err fault) new.log × IsStill old new

-- A delete at the moment `now`, to which the clock is raised first.
pub record StepsDelete (rose : Type 0) (end : ℕ) (old : PartShardState) (now : ℕ) (to : ℤ) (answer : DeleteAnswer)
    (new : PartShardState) : Type 0 where
  pub clock : new.clock ≡ max old.clock now
  pub does : Deletes rose end old to answer new

-- what it tells are offsets that a log may have
abbrev pub IsTellableDelete : DeleteAnswer → Type 0
IsTellableDelete (Done start) = start ≤ 2 ^ 62
IsTellableDelete (OutOfRange end) = end ≤ 2 ^ 62
IsTellableDelete (Store fault) = Unit {0}

-- ---- in memory

-- the log with this mark pending
abbrev pub and_mark : LogShardState → ℕ → LogShardState
and_mark log start = record { batches = log.batches; start = log.start; pending = Some (Marks start) }

-- what a crash may find of the log while records are deleted: the log at entry, with or without its pending write, or with this mark
abbrev pub IsFoundDeleting : LogShardState → ℤ → List ℕ → Type 0
IsFoundDeleting log to content =
    IsLogOf log content ⊎ ((target : ℕ) × IsToDelete (log_at log) to target × IsLogOf (and_mark log target) content)

-- each table in memory starts there or behind, and the disks stay
abbrev pub all_raised : {D : Type 0} → ℕ → StoreParts D → StoreParts D
all_raised start store = record { journal = store.journal; entries = raised_all (pos start) store.entries; room = store.room }

-- the store of the tables is as it was; or each table is raised to the start that is told
abbrev pub KeepsStore : {D : Type 0} → DeleteAnswer → StoreParts D → StoreParts D → Type 0
KeepsStore answer before after = (after ≡ before) ⊎ ((start : ℕ) × (answer ≡ Done start) × (after ≡ all_raised start before))

-- a shard that carried a state carries one that a delete leads to
abbrev pub Deleted : {D W : Type 0} → (D → DiskView) → (W → Held) → ℕ → ℤ → PartParts D W → PartParts D W
    → DeleteAnswer → Type 0
Deleted seen holding now to before after answer = (old : PartShardState) → Carries seen holding before old
    → (new : PartShardState) × Carries seen holding after new
    × StepsDelete (Rose (seen before.log.journal.disk).faults (seen after.log.journal.disk).faults) before.log.journal.end old now to answer new

-- A delete.
pub record DeletesOnce {D W : Type 0} (seen : D → DiskView) (holding : W → Held) (now : ℕ) (to : ℤ)
    (before after : PartParts D W) (answer : DeleteAnswer) : Type 0 where
  pub steps : Deleted seen holding now to before after answer
  -- where it tells no device fault, no call of the log's disk failed
  pub quiet : answer ≢ Store Device → IsQuiet seen before.log.journal.disk after.log.journal.disk
  -- with nothing armed, a device fault comes only where the disk finds no memory
  pub sound : answer ≡ Store Device → StarvesUnarmed seen before.log.journal.disk after.log.journal.disk
  -- at each moment since it began a crash leaves the log at entry, with or without its pending write, or with this mark
  pub any_moment : (old : PartShardState) → Carries seen holding before old → LeavesOnly seen before.log.journal.disk after.log.journal.disk
      (IsFoundDeleting old.log to)
  -- where there is nothing to delete, or no room for the mark, the log and its disk stay
  pub unwritten : ((target : ℕ) → IsToDelete (log_in before.log) to target → HasRoomForMark before.log.journal.end → ⊥)
      → after.log ≡ before.log
  -- the log's journal never ends before where it did
  pub ends : before.log.journal.end ≤ after.log.journal.end
  pub states : KeepsStore answer before.states after.states
  pub conf : after.conf ≡ before.conf
