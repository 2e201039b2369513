-- How far a load has come, and how one batch ends. Private clauses cite this alone.
-- For example behind the first of two batches the place is that batch's size.
use Rattle.std.specs.Prelude.{◌≡◌, ◌≢◌, ◌⊎◌, ◌≤◌, ◌+◌, ℕ, List, [], ◌++◌, Bool, true, false, None, IfSome, length, map, Result, Ok, Err}
use Rattle.std.specs.declared.option.Option.{Option}
use Rattle.std.specs.Option.{option_map}
use Rattle.std.specs.Io.KnownBytes.{Appends, Consumes, IsAtEnd, Keeps as KeepsText}
use Rattle.edge_io.specs.Causes.{Rose}
use Rattle.session_script.specs.Script.{longest}
use Rattle.session_script.specs.Unread.{Unread}
use Rattle.session_script.specs.Reading.{Takes}
use Rattle.session_script.specs.Output.{damaged_line}
use Rattle.part_log.specs.declared.fault.OpenFault.{OpenFault}
use Rattle.part_log.specs.declared.fault.OpenFault.TheVariants as open_fault
use Rattle.share_top.specs.declared.status.Status.{Status}
use Rattle.share_top.specs.declared.status.Status.TheVariants as status
use Rattle.share_top.specs.Sessions.{WritesFrontOf}
use Rattle.share_model.specs.declared.fault.LogFault.{LogFault}
use Rattle.share_model.specs.declared.fault.LogFault.TheVariants as log_fault
use Rattle.share_model.specs.declared.fault.StoreFault.TheVariants as store_fault
use Rattle.share_model.specs.Logs.{Batch}
use Rattle.share_model.specs.Pending.{WithPending}
use Rattle.part_log.specs.Logs.{IsAdded, IsUnwritten, IsLogText, LogParts, MayFollow, Keeps, and_pending, frames_of, log_in}
use Rattle.part_log.specs.Starts.{Log}
use Rattle.part_log.specs.Starts.LogWrite.{Adds}
use Rattle.gate_journal.specs.Frames.{blocks}
use Rattle.part_log.specs.Shards.{HasNoRoomAt}
use Rattle.share_top.specs.declared.load.Stop.{Stop}
use Rattle.share_top.specs.declared.load.Stop.TheVariants.{Refused, Read, Full, Device, NoMemory}
use Rattle.share_top.specs.Changes.{InputChange, OutputChange}
use Rattle.share_top.specs.Segments.{HasNoBatch, segment_of}
use Rattle.share_top.specs.Loading.{LoadEnding, IsWhole, IsRefusedSegment, IsCutSegment, IsBegunSegment, IsFullSegment, RoomEnding, with_batches}
use Rattle.edge_io.specs.Views.{DiskView}

-- ---- one batch

-- why a segment is stopped, where its log took no batch that stands at this place
abbrev pub stop_by : LogFault → ℕ → Bool → Stop
stop_by (log_fault.Batch fault) place starved = Refused place
stop_by (log_fault.Behind end) place starved = Refused place
stop_by (log_fault.Store store_fault.Device) place true = NoMemory
stop_by (log_fault.Store store_fault.Device) place false = Device
stop_by (log_fault.Store (store_fault.Full end)) place starved = Full
stop_by log_fault.NoMemory place starved = NoMemory

-- this batch stands at the front of what is pending, and may stand behind the log
pub record IsNext (log : List Batch) (unread : Unread) (b : Batch) : Type 0 where
  pub more : List ℕ
  pub follows : MayFollow log b
  pub front : unread.pending ≡ b.bytes ++ more
  pub within : unread.place + length b.bytes ≤ longest

-- The batch at the front was added and taken, or the segment ended, or it was stopped there.
abbrev pub LoadsNext : {D : Type 0} → (D → DiskView) → LogParts D → LogParts D → Unread → Unread → InputChange
    → Result Bool Stop → Type 0
LoadsNext seen old new unread now input (Ok true) =
    (b : Batch) × Takes unread now input.left input.left_after b.bytes × (now.place ≤ longest) × IsAdded seen old new b
LoadsNext seen old new unread now input (Ok false) =
    Takes unread now input.left input.left_after [] × (now.pending ≡ []) × IsAtEnd input.left_after
    × (input.ended ≡ true) × (new ≡ old)
LoadsNext seen old new unread now input (Err (Refused place)) = Takes unread now input.left input.left_after []
    × (place ≡ now.place) × (new ≡ old)
    × IfSome input.left_after (λ more. HasNoBatch now.place old.batches (now.pending ++ more)
    × (now.pending ++ more ≢ []))
LoadsNext seen old new unread now input (Err Read) = Takes unread now input.left input.left_after [] × (new ≡ old)
    × HasNoBatch now.place old.batches now.pending × Rose input.faults input.faults_after
LoadsNext seen old new unread now input (Err Full) = Takes unread now input.left input.left_after [] × (new ≡ old)
    × ((b : Batch) × (at : ℕ) × IsNext old.batches now b × HasNoRoomAt old.journal.end old.batches b at)
LoadsNext seen old new unread now input (Err Device) = Takes unread now input.left input.left_after []
    × ((b : Batch) × IsNext old.batches now b × IsUnwritten seen old new (Adds b))
    × Rose (seen old.journal.disk).faults (seen new.journal.disk).faults
LoadsNext seen old new unread now input (Err NoMemory) = Takes unread now input.left input.left_after []
    × ((new ≡ old) ⊎ ((b : Batch) × IsNext old.batches now b × IsUnwritten seen old new (Adds b)))

-- ---- all batches

-- the input gave these bytes, which are those of batches that were added and what is pending
pub record HasLoaded {D : Type 0} (seen : D → DiskView) (first log : LogParts D) (left now : Option (List ℕ))
    (unread : Unread) : Type 0 where
  pub given : List ℕ
  pub batches : List Batch
  pub consumed : Consumes left now given
  pub parts : given ≡ segment_of batches ++ unread.pending
  pub place : unread.place ≡ length (segment_of batches)
  pub added : log_in log ≡ with_batches (log_in first) batches
  pub end : log.journal.end ≡ first.journal.end + length (blocks (frames_of (map Adds batches)))
  pub kept : Keeps seen log None

-- the log was this one, has these batches more, and a crash leaves it with or without the pending one
pub record IsGrown {D : Type 0} (seen : D → DiskView) (first new : LogParts D) (log : Log) (batches : List Batch)
    (pending : Option Batch) : Type 0 where
  pub was : log ≡ log_in first
  pub has : log_in new ≡ with_batches log batches
  pub images : (c : List ℕ) → (seen new.journal.disk).image c
      → WithPending (IsLogText c) (with_batches log batches)
      (and_pending (with_batches log batches) (option_map Adds pending))

-- the journal of the log, which was this one, has no room for the batch behind these
pub record LacksRoom {D : Type 0} (first : LogParts D) (log : Log) (batches : List Batch) (next : Batch) (at : ℕ)
    : Type 0 where
  pub was : log ≡ log_in first
  pub none : HasNoRoomAt (first.journal.end + length (blocks (frames_of (map Adds batches)))) (log.batches ++ batches) next at

-- and the place is that behind the batches
abbrev pub AtPlace : ℕ → LoadEnding → LoadEnding
AtPlace place Ends log batches pending = Ends log batches pending × (place ≡ length (segment_of batches))

-- A call on the disk failed where memory was found: neither the disk nor its bay, which `starved` tells of, has found
-- none.
pub record FailsFed {D : Type 0} (seen : D → DiskView) (starved : Bool) (old new : D) : Type 0 where
  pub rose : Rose (seen old).faults (seen new).faults
  pub disk : (seen new).starved ≡ false
  pub bay : starved ≡ false

-- all of the segment was loaded, or it was stopped
abbrev pub LoadsAll : InputChange → LoadEnding → RoomEnding → Type 0 → Result (Unit {0}) Stop → Type 0
LoadsAll input Ends NoRoom Rises (Ok done) = IsWhole input Ends
LoadsAll input Ends NoRoom Rises (Err (Refused place)) = IsRefusedSegment input (AtPlace place Ends)
LoadsAll input Ends NoRoom Rises (Err Read) = Rose input.faults input.faults_after × IsCutSegment input Ends
LoadsAll input Ends NoRoom Rises (Err Full) = IsFullSegment input Ends NoRoom
LoadsAll input Ends NoRoom Rises (Err Device) = Rises × IsBegunSegment input Ends
LoadsAll input Ends NoRoom Rises (Err NoMemory) = IsBegunSegment input Ends

-- ---- the opening

-- why the log of this disk was not opened, as it is told
abbrev pub IsLogRefusal : List ℕ → OpenFault → OutputChange → Status → Type 0
IsLogRefusal disk fault output status.Damaged = (place : ℕ) × (fault ≡ open_fault.Damaged place)
    × Appends output.held output.held_after (damaged_line disk place)
IsLogRefusal disk fault output status.WriteFault = Rose output.faults output.faults_after
    × ((place : ℕ) × (fault ≡ open_fault.Damaged place) × WritesFrontOf (damaged_line disk place) output)
IsLogRefusal disk fault output status.Device = (fault ≡ open_fault.Device) × KeepsText output.held output.held_after
IsLogRefusal disk fault output status.NoMemory = KeepsText output.held output.held_after
IsLogRefusal disk fault output _ = ⊥
