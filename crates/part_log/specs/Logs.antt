-- Which content of a disk stands for which log, and what a log is found with after a crash. A frame is what was written
-- to the log: a batch in the record batch format (Apache Kafka documentation, "Record Batch"), or a mark, eight bytes
-- that say where the log starts from then on; that they stand in a journal is this project's own.
-- For example two batches of 85 bytes, from 0 to 2 and from 3 to 5, stand in frames behind the gates at 0 and 90; with
-- a byte of the second one changed, the content is no log text, by the place 90. A mark behind them, at 180, may say 1
-- to 6.
use Rattle.std.specs.Prelude.{◌≡◌, ◌≢◌, ◌⊎◌, ◌↔◌, ◌+◌, ◌<◌, ◌≤◌, ◌^◌, ℕ, List, [], ◌∷◌, ◌++◌, length, map, filter, nat_lt, if◌then◌else◌}
use Rattle.std.specs.Prelude.{Some, None, IfSome, Result, Err, IfOk, OnOk}
use Rattle.std.specs.declared.option.Option.{Option}
use Rattle.std.specs.Option.{option_map}
use Rattle.std.specs.List.{AllByRecursion}
use Rattle.std.specs.Int.{w64, from_be_bytes, to_be_bytes}
use Rattle.edge_io.specs.Armed.{StarvesUnarmed}
use Rattle.edge_io.specs.Causes.{Rose}
use Rattle.edge_io.specs.Moments.{LeavesOnly}
use Rattle.gate_journal.specs.Frames.{StandsFor, IsDamaged, blocks}
use Rattle.gate_journal.specs.Journals.{IsQuiet, Stands}
use Rattle.gate_journal.specs.Reading.{ReadsOnly}
use Rattle.gate_journal.specs.declared.writer.Writer.{Writer}
use Rattle.share_model.specs.Logs.{Batch, Covers, IsAt, IsLog, end_of}
use Rattle.part_log.specs.Starts.{Log, LogWrite, with_write}
use Rattle.part_log.specs.Starts.LogWrite.{Adds, Marks}
use Rattle.share_model.specs.Pending.{WithPending, WithinWrite}
use Rattle.share_model.specs.declared.fault.LogFault.{LogFault}
use Rattle.share_model.specs.declared.fault.StoreFault.{StoreFault}
use Rattle.share_model.specs.declared.fault.LogFault.TheVariants.{Store}
use Rattle.share_model.specs.declared.fault.StoreFault.TheVariants.{Device, Full}
use Rattle.share_model.specs.declared.batch_place.BatchPlace.{BatchPlace}
use Rattle.part_log.specs.Batches.{IsStored}
use Rattle.edge_io.specs.Views.{DiskView}

-- a log, each of whose batches is as a log keeps it
pub record IsStoredLog (log : List Batch) : Type 0 where
  pub stored : AllByRecursion IsStored log
  pub rises : IsLog log

-- ---- frames

-- the batch may stand behind the log
pub record MayFollow (log : List Batch) (b : Batch) : Type 0 where
  pub stored : IsStored b
  pub behind : end_of log ≤ b.base

-- the log may start there from now on: above its start, and at its end at most
pub record MayStartAt (log : Log) (start : ℕ) : Type 0 where
  pub above : log.start < start
  pub within : start ≤ end_of log.batches

-- it may be written to the log
abbrev pub IsAllowed : Log → LogWrite → Type 0
IsAllowed log (Adds b) = MayFollow log.batches b
IsAllowed log (Marks start) = MayStartAt log start

-- the frame of a write: the bytes of the batch, or the eight of the new start, the most significant first
abbrev pub frame_of : LogWrite → List ℕ
frame_of (Adds b) = b.bytes
frame_of (Marks start) = to_be_bytes w64 start

abbrev pub frames_of : List LogWrite → List (List ℕ)
frames_of writes = map frame_of writes

-- these writes, each of which may follow those before it, lead from one log to another
abbrev pub Lead : Log → List LogWrite → Log → Type 0
Lead log [] last = last ≡ log
Lead log (w ∷ writes) last = IsAllowed log w × Lead (with_write log w) writes last

-- the log to which nothing was written
abbrev pub no_log : Log
no_log = record { batches = []; start = 0 }

-- the content stands for the log: its frames are those of writes that lead to it
pub record IsLogText (content : List ℕ) (log : Log) : Type 0 where
  pub writes : List LogWrite
  pub frames : StandsFor content (frames_of writes)
  pub leads : Lead no_log writes log

-- What a log is in other words (the law `a_log_is_its_batches_and_its_last_mark`). The frames of more than eight bytes:
abbrev pub batch_frames : List (List ℕ) → List (List ℕ)
batch_frames frames = filter (λ frame. nat_lt 8 (length frame)) frames

-- and the number of the last of the others; `start` where there is none
abbrev pub last_mark : ℕ → List (List ℕ) → ℕ
last_mark start [] = start
last_mark start (frame ∷ frames) = last_mark (if nat_lt 8 (length frame) then start else from_be_bytes w64 frame) frames

-- Frames of which one can't stand in a log: behind these writes stands one that is of no write which may follow them,
-- and the place is that of its gate.
pub record IsBadFrames (frames : List (List ℕ)) (place : ℕ) : Type 0 where
  pub before : List LogWrite
  pub log : Log
  pub frame : List ℕ
  pub after : List (List ℕ)
  pub is : frames ≡ frames_of before ++ (frame ∷ after)
  pub leads : Lead no_log before log
  pub at : place ≡ length (blocks (frames_of before))
  pub none : (w : LogWrite) → frame_of w ≡ frame → IsAllowed log w → ⊥

-- no log text: no journal text, by this place, or text of frames of which the one at this place can't stand there
abbrev pub IsNoLogText : List ℕ → ℕ → Type 0
IsNoLogText content place = IsDamaged content place
    ⊎ ((frames : List (List ℕ)) × StandsFor content frames × IsBadFrames frames place)

-- ---- a log on a disk

-- what contracts see of a log on a disk: its batches, its start, and the writing end of its journal
pub record LogParts (D : Type 0) : Type 0 where
  pub batches : List Batch
  pub start : ℕ
  pub journal : Writer D

-- the log
abbrev pub log_in : {D : Type 0} → LogParts D → Log
log_in log = record { batches = log.batches; start = log.start }

-- the log behind its pending write, if one is pending
abbrev pub and_pending : Log → Option LogWrite → Option Log
and_pending log pending = option_map (with_write log) pending

-- A log with this write pending, if one is: a crash now leaves the log, with or without the pending write, and the next
-- write can go on from there.
pub record Keeps {D : Type 0} (seen : D → DiskView) (log : LogParts D) (pending : Option LogWrite) : Type 0 where
  pub writes : List LogWrite
  pub leads : Lead no_log writes (log_in log)
  pub stands : Stands seen log.journal (frames_of writes) (option_map frame_of pending)
  pub follows : IfSome pending (IsAllowed (log_in log))
  pub images : (c : List ℕ) → (seen log.journal.disk).image c →
      WithPending (IsLogText c) (log_in log) (and_pending (log_in log) pending)

-- The batch has no room: its last offset is 2^62 or more, and `end` is the log's end; or the journal, whose last gate
-- ends at `end`, would end past 2^62 bytes.
abbrev pub HasNoRoom : {D : Type 0} → LogParts D → Batch → (end : ℕ) → Type 0
HasNoRoom log b end = ((2 ^ 62 ≤ b.last) × (end ≡ end_of log.batches))
    ⊎ ((b.last < 2 ^ 62) × (2 ^ 62 < log.journal.end + (length b.bytes + 5)) × (end ≡ log.journal.end))

-- the batch of these numbers covers the offset
pub record IsPlaceOf (log : List Batch) (offset : ℕ) (place : BatchPlace) : Type 0 where
  pub batch : Batch
  pub at : IsAt log place.number batch
  pub covers : Covers batch offset
  pub base : place.base ≡ batch.base
  pub last : place.last ≡ batch.last
  pub size : place.size ≡ length batch.bytes

-- found so at a moment of this write: with the log at entry, that log with the write pending at entry, or with this one
abbrev pub IsWithin : Log → Option LogWrite → LogWrite → List ℕ → Type 0
IsWithin log pending w content = WithinWrite (IsLogText content) log (and_pending log pending) (with_write log w)

-- there is room for the batch
pub record HasRoomFor {D : Type 0} (log : LogParts D) (b : Batch) : Type 0 where
  pub offsets : b.last < 2 ^ 62
  pub journal : log.journal.end + (length b.bytes + 5) ≤ 2 ^ 62

-- The batch stands behind the others, and nothing else has changed in the log; no write is pending any more, and the
-- journal has one frame more.
pub record IsAdded {D : Type 0} (seen : D → DiskView) (old new : LogParts D) (b : Batch) : Type 0 where
  pub batches : new.batches ≡ old.batches ++ b ∷ []
  pub start : new.start ≡ old.start
  pub end : new.journal.end ≡ old.journal.end + (length b.bytes + 5)
  pub follows : MayFollow old.batches b
  pub kept : (pending : Option LogWrite) → Keeps seen old pending → Keeps seen new None

-- The log starts there, and nothing else has changed in it; no write is pending any more, and the journal has one frame
-- more.
pub record IsRaised {D : Type 0} (seen : D → DiskView) (old new : LogParts D) (start : ℕ) : Type 0 where
  pub batches : new.batches ≡ old.batches
  pub start_is : new.start ≡ start
  pub end : new.journal.end ≡ old.journal.end + 13
  pub follows : MayStartAt (log_in old) start
  pub kept : (pending : Option LogWrite) → Keeps seen old pending → Keeps seen new None

-- The log is the same, its journal ends where it did, and the pending write is the one from before, or this one.
pub record IsUnwritten {D : Type 0} (seen : D → DiskView) (old new : LogParts D) (w : LogWrite) : Type 0 where
  pub batches : new.batches ≡ old.batches
  pub start : new.start ≡ old.start
  pub end : new.journal.end ≡ old.journal.end
  pub follows : IsAllowed (log_in old) w
  pub kept : (pending : Option LogWrite) → Keeps seen old pending → Keeps seen new pending ⊎ Keeps seen new (Some w)

-- A log was only looked at: its batches and its start are the same, and of its journal the numbers, the frames and what
-- is pending are, in every reading. So it keeps what it kept, with the same write pending.
pub record OnlyReads {D : Type 0} (seen : D → DiskView) (old new : LogParts D) : Type 0 where
  pub batches : new.batches ≡ old.batches
  pub start : new.start ≡ old.start
  pub journal : ReadsOnly seen old.journal new.journal

-- A call that adds this batch, and what it leaves.
pub record AddsOnce {D : Type 0} (seen : D → DiskView) (old new : LogParts D) (b : Batch)
    (result : Result ℕ LogFault) : Type 0 where
  -- where it answers with the base, the batch is added, and there was room for it
  pub ok : IfOk result (λ base. (base ≡ b.base) × IsAdded seen old new b × HasRoomFor old b)
  -- and no device call failed
  pub quiet : OnOk result (IsQuiet seen old.journal.disk new.journal.disk)
  -- where the device fails, the batch isn't written or is pending, and there was room for it; the count of faults rose,
  -- and a disk with nothing armed found no memory
  pub device : result ≡ Err (Store Device) → IsUnwritten seen old new (Adds b) × HasRoomFor old b
      × Rose (seen old.journal.disk).faults (seen new.journal.disk).faults
      × StarvesUnarmed seen old.journal.disk new.journal.disk
  -- it is full only where there is no room, and each other refusal changes nothing
  pub full : (end : ℕ) → result ≡ Err (Store (Full end)) → HasNoRoom old b end
  pub unchanged : (fault : LogFault) → result ≡ Err fault → fault ≢ Store Device → new ≡ old
  -- at each moment since it began a crash leaves the log at entry, with or without the pending batch, or with this one
  pub any_moment : (pending : Option LogWrite) → Keeps seen old pending →
      LeavesOnly seen old.journal.disk new.journal.disk (IsWithin (log_in old) pending (Adds b))

-- A call that writes a mark, and what it leaves.
pub record RaisesOnce {D : Type 0} (seen : D → DiskView) (old new : LogParts D) (start : ℕ)
    (result : Result (Unit {0}) StoreFault) : Type 0 where
  -- where it is done, the log starts there, and no device call failed
  pub ok : OnOk result (IsRaised seen old new start)
  pub quiet : OnOk result (IsQuiet seen old.journal.disk new.journal.disk)
  -- where the device fails, the log starts where it did, and the mark isn't written or is pending; the count of faults
  -- rose, and a disk with nothing armed found no memory
  pub device : result ≡ Err Device → IsUnwritten seen old new (Marks start)
      × Rose (seen old.journal.disk).faults (seen new.journal.disk).faults
      × StarvesUnarmed seen old.journal.disk new.journal.disk
  -- it is full exactly where the journal, whose last gate ends at `end`, would end past 2^62 bytes with the mark, and
  -- then nothing is changed
  pub full : (end : ℕ) → (result ≡ Err (Full end)) ↔ ((end ≡ old.journal.end) × (2 ^ 62 < old.journal.end + 13))
  pub unchanged : (end : ℕ) → result ≡ Err (Full end) → new ≡ old
  -- at each moment since it began a crash leaves the log at entry, with or without the pending write, or as it starts
  -- there
  pub any_moment : (pending : Option LogWrite) → Keeps seen old pending →
      LeavesOnly seen old.journal.disk new.journal.disk (IsWithin (log_in old) pending (Marks start))
