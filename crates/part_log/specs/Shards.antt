-- The log of a partition as a machine: its batches and its start, the write that is pending, and what a produced batch
-- or a new start is answered and leaves of these (Apache Kafka documentation, "Record Batch": a log gives a produced
-- batch its base offset; protocol guide, "DeleteRecords"; the pending write is this project's own).
-- Worked example: a log ends at 3 and nothing is pending. A batch of three records meets a device fault at its last
-- sync: there is no base, the log still ends at 3, and the batch with base 3 is pending. The same batch again is
-- answered with base 3: the log ends at 6, and nothing is pending. Then it is to start at 2, which meets a device
-- fault: it starts at 0, and the mark 2 is pending.
use Rattle.std.specs.Prelude.{◌≡◌, ◌⊎◌, ◌+◌, ◌<◌, ◌≤◌, ◌^◌, ℕ, List, [], ◌∷◌, ◌++◌, length, Option, Some, None, Result, Ok, Err}
use Rattle.share_model.specs.Logs.{Batch, end_of}
use Rattle.part_log.specs.Starts.{Log, LogWrite}
use Rattle.part_log.specs.Starts.LogWrite.{Adds, Marks}
use Rattle.share_model.specs.Pending.{WithPending}
use Rattle.share_model.specs.declared.fault.BatchFault.{BatchFault}
use Rattle.share_model.specs.declared.fault.LogFault.{LogFault}
use Rattle.share_model.specs.declared.fault.LogFault.TheVariants.{Batch as BadBatch, Behind, Store, NoMemory}
use Rattle.share_model.specs.declared.fault.StoreFault.{StoreFault}
use Rattle.share_model.specs.declared.fault.StoreFault.TheVariants.{Device, Full}
use Rattle.rec_batch.specs.declared.form.Form.TheVariants.{Produced}
use Rattle.rec_batch.specs.Batches.{IsFirstFault}
use Rattle.rec_batch.specs.Placing.{placed}
use Rattle.part_log.specs.Batches.{batch_in}
use Rattle.part_log.specs.Logs.{IsLogText, Keeps, LogParts, MayFollow, MayStartAt, and_pending}
use Rattle.edge_io.specs.Views.{DiskView}

-- the log of a partition: its batches, its start, and the write that is pending
pub record LogShardState : Type 0 where
  pub batches : List Batch
  pub start : ℕ
  pub pending : Option LogWrite

-- the log alone
abbrev pub log_at : LogShardState → Log
log_at shard = record { batches = shard.batches; start = shard.start }

-- the batch as the log keeps it: its base is the log's end, and its leader epoch is 0
abbrev pub at_end : List Batch → List ℕ → Batch
at_end log bytes = batch_in (placed (end_of log) bytes)

-- the bytes are a batch as a producer sends it
abbrev pub HasNoFault : List ℕ → Type 0
HasNoFault bytes = (fault : BatchFault) → IsFirstFault Produced bytes fault → ⊥

-- the batch has room: its last offset is below 2^62, and so is the end of the journal, whose last gate ends at `end`,
-- behind it
pub record HasRoomAt (end : ℕ) (b : Batch) : Type 0 where
  pub offsets : b.last < 2 ^ 62
  pub journal : end + (length b.bytes + 5) ≤ 2 ^ 62

-- it has none; `at` is where the log or the journal ends
abbrev pub HasNoRoomAt : (end : ℕ) → List Batch → Batch → (at : ℕ) → Type 0
HasNoRoomAt end log b at = ((2 ^ 62 ≤ b.last) × (at ≡ end_of log))
    ⊎ ((b.last < 2 ^ 62) × (2 ^ 62 < end + (length b.bytes + 5)) × (at ≡ end))

-- the batch is stored behind the others, and nothing is pending
pub record Stores (end : ℕ) (old : LogShardState) (bytes : List ℕ) (base : ℕ) (new : LogShardState) : Type 0 where
  pub form : HasNoFault bytes
  pub room : HasRoomAt end (at_end old.batches bytes)
  pub base_is : base ≡ end_of old.batches
  pub base_of : base ≡ (at_end old.batches bytes).base
  pub follows : MayFollow old.batches (at_end old.batches bytes)
  pub batches : new.batches ≡ old.batches ++ at_end old.batches bytes ∷ []
  pub start : new.start ≡ old.start
  pub nothing : new.pending ≡ None

-- it could not be stored: the log is as before, and the pending write is the one from before or this one
pub record IsUnstored (end : ℕ) (old : LogShardState) (bytes : List ℕ) (new : LogShardState) : Type 0 where
  pub form : HasNoFault bytes
  pub room : HasRoomAt end (at_end old.batches bytes)
  pub same : new.batches ≡ old.batches
  pub start : new.start ≡ old.start
  pub pending : (new.pending ≡ old.pending) ⊎ (new.pending ≡ Some (Adds (at_end old.batches bytes)))

-- A step of the log: these bytes are produced to it, and it answers so. `rose` says that the count of faults of its
-- disk rose, `end` is where its journal ends.
abbrev pub StepsLog : (rose : Type 0) (end : ℕ) → LogShardState → List ℕ → Result ℕ LogFault → LogShardState → Type 0
StepsLog rose end old bytes (Ok base) new = Stores end old bytes base new
StepsLog rose end old bytes (Err (BadBatch fault)) new = IsFirstFault Produced bytes fault × (new ≡ old)
StepsLog rose end old bytes (Err (Store Device)) new = rose × IsUnstored end old bytes new
StepsLog rose end old bytes (Err (Store (Full at))) new =
    HasNoFault bytes × (new ≡ old) × HasNoRoomAt end old.batches (at_end old.batches bytes) at
StepsLog rose end old bytes (Err (Behind at)) new = ⊥
StepsLog rose end old bytes (Err NoMemory) new = ⊥

-- ---- a new start

-- the mark has room: the journal, whose last gate ends at `end`, ends at most at 2^62 behind its 8 bytes and 5 more
abbrev pub HasRoomForMark : (end : ℕ) → Type 0
HasRoomForMark end = end + 13 ≤ 2 ^ 62

-- the log starts there, and nothing is pending
pub record Raises (end : ℕ) (old : LogShardState) (start : ℕ) (new : LogShardState) : Type 0 where
  pub room : HasRoomForMark end
  pub allowed : MayStartAt (log_at old) start
  pub batches : new.batches ≡ old.batches
  pub start_is : new.start ≡ start
  pub nothing : new.pending ≡ None

-- the mark could not be stored: the log is as before, and the pending write is the one from before or this one
pub record IsUnraised (end : ℕ) (old : LogShardState) (start : ℕ) (new : LogShardState) : Type 0 where
  pub room : HasRoomForMark end
  pub allowed : MayStartAt (log_at old) start
  pub batches : new.batches ≡ old.batches
  pub start_is : new.start ≡ old.start
  pub pending : (new.pending ≡ old.pending) ⊎ (new.pending ≡ Some (Marks start))

-- A step of the log: it is to start there from now on, which is above its start and at its end at most, and it answers
-- so.
abbrev pub StepsRaise : (rose : Type 0) (end : ℕ) → LogShardState → (start : ℕ) → Result (Unit {0}) StoreFault
    → LogShardState → Type 0
StepsRaise rose end old start (Ok done) new = Raises end old start new
StepsRaise rose end old start (Err Device) new = rose × IsUnraised end old start new
StepsRaise rose end old start (Err (Full at)) new = (new ≡ old) × (at ≡ end) × (2 ^ 62 < end + 13)

-- ---- in memory

-- A log in memory and its disk stand for the shard's state.
pub record CarriesLog {D : Type 0} (seen : D → DiskView) (log : LogParts D) (shard : LogShardState) : Type 0 where
  pub batches : shard.batches ≡ log.batches
  pub start : shard.start ≡ log.start
  pub keeps : Keeps seen log shard.pending

-- the content stands for the shard, with or without its pending write
abbrev pub IsLogOf : LogShardState → List ℕ → Type 0
IsLogOf shard content = WithPending (IsLogText content) (log_at shard) (and_pending (log_at shard) shard.pending)
