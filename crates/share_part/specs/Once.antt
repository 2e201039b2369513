-- What a call on the shard of a partition does, as one record. This project's own.
-- For example a visit that finds no memory leaves the shard and its disks as they were.
use Rattle.std.specs.Prelude.{◌≡◌, ◌≢◌, ◌⊎◌, ◌≤◌, max, ℕ, List, Some, Result, Ok, Err, IfOk, MatchResult, OnErr, Bool, true, is_some}
use Rattle.edge_io.specs.Armed.{StarvesUnarmed}
use Rattle.edge_io.specs.Causes.{Rose}
use Rattle.edge_io.specs.Moments.{LeavesOnly}
use Rattle.flex_fields.specs.declared.fault.NoMemory.{NoMemory}
use Rattle.share_model.specs.Held.{Held}
use Rattle.share_model.specs.declared.delete.Placed.{Placed}
use Rattle.share_model.specs.declared.fault.LogFault.{LogFault}
use Rattle.share_model.specs.declared.fault.LogFault.TheVariants.{Store as log_store, NoMemory as log_memory}
use Rattle.gate_journal.specs.Journals.{IsQuiet}
use Rattle.gate_journal.specs.Visits.{CallsFor}
use Rattle.share_model.specs.declared.fault.StoreFault.{StoreFault}
use Rattle.share_model.specs.declared.fault.StoreFault.TheVariants.{Device}
use Rattle.share_model.specs.declared.visit.AckOutcome.TheVariants.{Store as ack_store}
use Rattle.share_model.specs.declared.visit.ExpireAnswer.{ExpireAnswer}
use Rattle.share_model.specs.declared.visit.ExpireAnswer.TheVariants.{Done, Store as expire_store}
use Rattle.share_model.specs.declared.visit.ThenOutcome.TheVariants.{Store}
use Rattle.share_model.specs.declared.visit.Visit.{Visit}
use Rattle.share_model.specs.declared.visit.VisitAnswer.{VisitAnswer}
use Rattle.part_log.specs.Logs.{LogParts, OnlyReads, log_in}
use Rattle.part_log.specs.Shards.{IsLogOf, at_end}
use Rattle.part_log.specs.Starts.LogWrite.{Adds}
use Rattle.share_coord.specs.States.{states_of}
use Rattle.share_part.specs.Acknowledging.{NameNone}
use Rattle.share_part.specs.Expiring.{StepsExpire, ending, groups_of}
use Rattle.share_part.specs.Failures.{AreQuiet, FailuresRose, StarveUnarmed, failures_of}
use Rattle.share_part.specs.Following.{HasNothingToWrite, IsFetch, Reading, StepsThen}
use Rattle.share_part.specs.Shards.{PartShardState, PartParts, Carries, IsUntouched, StepsProduce, held_in}
use Rattle.share_part.specs.Visits.{AreToWrite, StepsVisit}
use Rattle.share_part.specs.Writes.{WritesExpiry, WritesThen, WritesVisit, write_outcome}
use Rattle.edge_io.specs.Views.{DiskView}

-- ---- what is read

-- Batches were read from a log, which stays as it is. `failed` says that one couldn't be read: then a call of its disk
-- failed, and else none did.
pub record ReadsBatches {D : Type 0} (seen : D → DiskView) (failed : Type 0) (before after : LogParts D) : Type 0 where
  pub reads : OnlyReads seen before after
  pub calls : CallsFor seen before.journal.disk after.journal.disk failed

-- how batches were read over a call, where `unread` tells whether one couldn't be
abbrev pub reading_of : {D : Type 0} → (D → DiskView) → LogParts D → LogParts D → (unread : Bool) → Reading
reading_of seen before after unread = record {
  told = is_some (seen before.journal.disk).content;
  rose = Rose (seen before.journal.disk).faults (seen after.journal.disk).faults;
  failed = unread;
}

-- ---- visits

-- a shard that carried a state carries one that what follows the acknowledgements leads to
abbrev pub Followed : {D W : Type 0} → (D → DiskView) → (W → Held) → ℕ → Visit → PartParts D W → PartParts D W
    → (unread : Bool) → VisitAnswer → Type 0
Followed seen holding now visit before after unread answer = (old : PartShardState) → Carries seen holding before old
    → (new : PartShardState) × Carries seen holding after new
    × StepsThen before.conf (reading_of seen before.log after.log unread) (FailuresRose seen before.states after.states)
    before.states.journal.end old now visit answer new

-- What follows the acknowledgements.
pub record FollowsOnce {D W : Type 0} (seen : D → DiskView) (holding : W → Held) (now : ℕ) (visit : Visit) (before after : PartParts D W) (result : Result VisitAnswer NoMemory)
    : Type 0 where
  -- whether a batch couldn't be read
  pub unread : Bool
  -- where it answers, a step was made; where it finds no memory, nothing has changed
  pub steps : IfOk result (Followed seen holding now visit before after unread)
  pub memory : OnErr result (IsUntouched holding before after)
  -- which record is stored
  pub records : IfOk result (λ answer. WritesThen seen before.conf (log_in before.log) visit
      (held_in holding before.windows visit.group) before.states after.states (write_outcome unread answer.then) visit.then)
  -- where the answer tells no store fault, or the fault of a reading, no device call of the states failed but those of a checkpoint
  pub quiet : IfOk result (λ answer. ((fault : StoreFault) → write_outcome unread answer.then ≢ Store fault) →
      AreQuiet seen before.states after.states)
  -- with nothing armed, a device fault of a write comes only where a disk finds no memory
  pub sound : IfOk result (λ answer. write_outcome unread answer.then ≡ Store Device →
      StarveUnarmed seen before.states after.states)
  -- where there is nothing to write, the states and their disks stay
  pub unwritten : (old : PartShardState) → Carries seen holding before old → HasNothingToWrite before.conf old visit visit.then →
      after.states ≡ before.states
  -- the log is read alone, by a fetch whose group has its table
  pub log : ReadsBatches seen (unread ≡ true) before.log after.log
  pub unstored : IfOk result (λ answer. (fault : StoreFault) → write_outcome unread answer.then ≡ Store fault →
      after.log ≡ before.log)
  pub others : (IsFetch visit.then → ⊥) → after.log ≡ before.log
  pub conf : after.conf ≡ before.conf

-- a shard that carried a state carries one that a visit leads to
abbrev pub Visited : {D W : Type 0} → (D → DiskView) → (W → Held) → ℕ → Visit → PartParts D W → PartParts D W
    → (unread : Bool) → VisitAnswer → Type 0
Visited seen holding now visit before after unread answer = (old : PartShardState) → Carries seen holding before old
    → (new : PartShardState) × Carries seen holding after new
    × StepsVisit before.conf (reading_of seen before.log after.log unread) (failures_of seen before.states) (failures_of seen after.states)
    before.states.journal.end after.states.journal.end old now visit answer new

-- A visit. A checkpoint is tried before the write of its acknowledgements where one is due, if one `tries`.
pub record VisitsOnce {D W : Type 0} (seen : D → DiskView) (holding : W → Held) (now : ℕ) (tries : Bool) (visit : Visit) (before after : PartParts D W) (result : Result VisitAnswer NoMemory)
    : Type 0 where
  -- whether a batch couldn't be read
  pub unread : Bool
  -- where it answers, a step was made; where it finds no memory, nothing has changed
  pub steps : IfOk result (Visited seen holding now visit before after unread)
  pub memory : OnErr result (IsUntouched holding before after)
  -- which records are stored; where the answer tells no store fault of a write, no device call of it failed but those of a checkpoint
  pub records : IfOk result (WritesVisit unread seen before.conf (log_in before.log) visit
      (held_in holding before.windows visit.group) tries before.states after.states)
  -- with nothing armed, a device fault of a write comes only where a disk finds no memory
  pub ack_sound : IfOk result (λ answer. answer.ack ≡ ack_store Device → StarveUnarmed seen before.states after.states)
  pub sound : IfOk result (λ answer. write_outcome unread answer.then ≡ Store Device →
      StarveUnarmed seen before.states after.states)
  -- where there is nothing to write, of acknowledgements or behind them, the states and their disks stay
  pub unwritten : (old : PartShardState) → Carries seen holding before old → (AreToWrite old visit → ⊥) →
      HasNothingToWrite before.conf old visit visit.then → after.states ≡ before.states
  -- the log is read alone, by a fetch whose group has its table
  pub log : ReadsBatches seen (unread ≡ true) before.log after.log
  pub unstored : IfOk result (λ answer. (fault : StoreFault) → write_outcome unread answer.then ≡ Store fault →
      after.log ≡ before.log)
  pub others : (IsFetch visit.then → ⊥) → after.log ≡ before.log
  pub conf : after.conf ≡ before.conf

-- a shard that carried a state carries one that an expiry leads to
abbrev pub Expired : {D W : Type 0} → (D → DiskView) → (W → Held) → ℕ → PartParts D W → PartParts D W → ExpireAnswer → Type 0
Expired seen holding now before after answer = (old : PartShardState) → Carries seen holding before old → (new : PartShardState)
    × Carries seen holding after new
    × StepsExpire before.conf (failures_of seen before.states) (failures_of seen after.states) before.states.journal.end
    after.states.journal.end old now answer new

-- nothing that any group holds has ended by a moment
abbrev pub IsNothingDue : {W : Type 0} → (W → Held) → List (List ℕ × W) → (clock : ℕ) → Type 0
IsNothingDue holding windows clock = (group : List ℕ) → NameNone (ending clock (held_in holding windows group))

-- An expiry.
pub record ExpiresOnce {D W : Type 0} (seen : D → DiskView) (holding : W → Held) (now : ℕ) (before after : PartParts D W) (result : Result ExpireAnswer NoMemory) : Type 0 where
  -- where it answers, a step was made; where it finds no memory, nothing has changed
  pub steps : IfOk result (Expired seen holding now before after)
  pub memory : OnErr result (after ≡ before)
  -- which records are stored; in each write that was done no device call failed but those of a checkpoint
  pub records : (old : PartShardState) → Carries seen holding before old →
      WritesExpiry seen before.conf before.log.batches (max before.clock now)
      (held_in holding before.windows) (groups_of (states_of before.states.entries)) before.states after.states result
  -- where nothing is due it takes no memory, and raises the clock alone
  pub nothing_due : IsNothingDue holding before.windows (max before.clock now) →
      (result ≡ Ok (Done 0))
      × (after ≡ record { conf = before.conf; log = before.log; states = before.states; windows = before.windows; clock = max before.clock now })
  -- with nothing armed, a device fault comes only where a disk finds no memory
  pub sound : IfOk result (λ answer. (freed : ℕ) (group : List ℕ) → answer ≡ expire_store freed group Device →
      StarveUnarmed seen before.states after.states)
  -- the log and its disk stay
  pub log : after.log ≡ before.log
  pub conf : after.conf ≡ before.conf

abbrev pub Produced : {D W : Type 0} → (D → DiskView) → (W → Held) → ℕ → List ℕ → PartParts D W → PartParts D W
    → Result Placed LogFault → Type 0
Produced seen holding now bytes before after result = (old : PartShardState) → Carries seen holding before old → (new : PartShardState)
    × Carries seen holding after new
    × StepsProduce (Rose (seen before.log.journal.disk).faults (seen after.log.journal.disk).faults) before.log.journal.end old now bytes result new

-- A produced batch.
pub record ProducesOnce {D W : Type 0} (seen : D → DiskView) (holding : W → Held) (now : ℕ) (bytes : List ℕ)
    (before after : PartParts D W) (result : Result Placed LogFault) : Type 0 where
  pub steps : result ≢ Err log_memory → Produced seen holding now bytes before after result
  pub memory : result ≡ Err log_memory → after ≡ before
  -- where it tells no device fault, no call of the log's disk failed
  pub quiet : result ≢ Err (log_store Device) → IsQuiet seen before.log.journal.disk after.log.journal.disk
  pub sound : result ≡ Err (log_store Device) → StarvesUnarmed seen before.log.journal.disk after.log.journal.disk
  -- at each moment since it began a crash leaves the log at entry, with or without its pending batch, or with this one
  pub any_moment : (old : PartShardState) → Carries seen holding before old → LeavesOnly seen before.log.journal.disk after.log.journal.disk
      (λ c. IsLogOf old.log c
      ⊎ IsLogOf (record { batches = old.log.batches; start = old.log.start; pending = Some (Adds (at_end old.log.batches bytes)) }) c)
  -- another refusal than the device's leaves the log and its disk
  pub refused : (fault : LogFault) → result ≡ Err fault → fault ≢ log_store Device → after.log ≡ before.log
  -- its journal never ends before where it did
  pub ends : (old : PartShardState) → Carries seen holding before old → before.log.journal.end ≤ after.log.journal.end
  -- the states and their disks stay
  pub states : after.states ≡ before.states
  pub conf : after.conf ≡ before.conf
