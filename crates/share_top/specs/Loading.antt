-- The loading of a segment into the log of one partition (this project's own).
-- For example a segment of a batch of 69 bytes with base 0 and one of 61 bytes with base 1000000000000 and last delta
-- 4, loaded into an empty log, ends with status 0 and the line `loaded 2 1000000000005`.
use Rattle.std.specs.Prelude.{◌≡◌, ◌⊎◌, ◌≤◌, ◌+◌, ◌-◌, ◌^◌, ℕ, List, [], ◌∷◌, ◌++◌, true, false, Some, None, IfSome, length, map, codes}
use Rattle.std.specs.declared.option.Option.{Option}
use Rattle.std.specs.Option.{option_map, option_to_list}
use Rattle.std.specs.Fmt.{decimal}
use Rattle.std.specs.Io.KnownBytes.{Appends, Keeps, Consumes, IsAtEnd}
use Rattle.edge_io.specs.Causes.{Rose}
use Rattle.edge_io.specs.Names.{hosted_name}
use Rattle.edge_io.specs.declared.name.DiskPlace.TheVariants.{Log as log_place}
use Rattle.gate_journal.specs.Frames.{StandsAs, StandsFor, blocks}
use Rattle.share_model.specs.Logs.{Batch, end_of}
use Rattle.share_model.specs.Pending.{WithPending}
use Rattle.part_log.specs.Logs.{IsLogText, IsNoLogText, Lead, and_pending, frames_of, no_log}
use Rattle.part_log.specs.Shards.{HasNoRoomAt}
use Rattle.part_log.specs.Starts.{Log, LogWrite}
use Rattle.part_log.specs.Starts.LogWrite.{Adds}
use Rattle.session_script.specs.Output.{malformed_line, damaged_line}
use Rattle.topic_conf.specs.declared.topic.Topic.{Topic}
use Rattle.topic_conf.specs.Configs.{ConfigParts}
use Rattle.share_top.specs.declared.status.Status.{Status}
use Rattle.share_top.specs.declared.status.Status.TheVariants.{Done, Malformed, ReadFault, WriteFault, Damaged, Device, NoMemory}
use Rattle.share_top.specs.Apart.{LeavesOthers, RunsDisk}
use Rattle.share_top.specs.Changes.{BayChange, InputChange, OutputChange}
use Rattle.share_top.specs.Segments.{Begins, IsSegment, IsRefused, StandWhole, segment_of}
use Rattle.share_top.specs.Sessions.{WritesFrontOf}
use Rattle.share_top.specs.Words.{IsPartitionOf}
use Rattle.edge_io.specs.Views.{DiskView, BayView}

-- the last line of a load: how many batches were added, and where the log ends
abbrev pub loaded_line : ℕ → ℕ → List ℕ
loaded_line count end = codes "loaded" ++ 32 ∷ (decimal count ++ 32 ∷ (decimal end ++ 10 ∷ []))

-- ---- what was read. `Ends` is said of the log at entry, of the batches of the segment that were added to it, and of the
-- one whose write is pending, if one is.

abbrev pub LoadEnding : Type 1
LoadEnding = Log → List Batch → Option Batch → Type 0

-- `NoRoom` is said of these, of a batch for which there is no room behind them, and of where the log or its journal ends
abbrev pub RoomEnding : Type 1
RoomEnding = Log → List Batch → (next : Batch) → (at : ℕ) → Type 0

-- a log with these batches behind it
abbrev pub with_batches : Log → List Batch → Log
with_batches log batches = record { batches = log.batches ++ batches; start = log.start }

-- the input, read to its end, is a segment of batches that may stand behind the log
pub record IsWhole (input : InputChange) (Ends : LoadEnding) : Type 0 where
  pub log : Log
  pub batches : List Batch
  pub segment : IfSome input.left (λ text. IsSegment text log.batches batches)
  pub whole : IsAtEnd input.left_after
  pub ended : input.ended ≡ true
  pub ends : Ends log batches None

-- behind these batches the input has something that is no batch that may stand there
pub record IsRefusedSegment (input : InputChange) (Ends : LoadEnding) : Type 0 where
  pub log : Log
  pub batches : List Batch
  pub refused : IfSome input.left (λ text. IsRefused text log.batches batches)
  pub ends : Ends log batches None

-- these are the batches that stand whole in the bytes that the input gave
pub record IsCutSegment (input : InputChange) (Ends : LoadEnding) : Type 0 where
  pub log : Log
  pub batches : List Batch
  pub given : List ℕ
  pub consumed : Consumes input.left input.left_after given
  pub whole : StandWhole given log.batches batches
  pub ends : Ends log batches None

-- the input begins with these batches, and with the pending one behind them
pub record IsBegunSegment (input : InputChange) (Ends : LoadEnding) : Type 0 where
  pub log : Log
  pub batches : List Batch
  pub pending : Option Batch
  pub begins : IfSome input.left (λ text. (rest : List ℕ) × Begins text log.batches (batches ++ option_to_list pending) rest)
  pub ends : Ends log batches pending

-- the log has no room for the batch behind these
pub record IsFullSegment (input : InputChange) (Ends : LoadEnding) (NoRoom : RoomEnding) : Type 0 where
  pub log : Log
  pub batches : List Batch
  pub next : Batch
  pub at : ℕ
  pub begins : IfSome input.left (λ text. (rest : List ℕ) × Begins text log.batches (batches ++ next ∷ []) rest)
  pub no_room : NoRoom log batches next at
  pub ends : Ends log batches None

-- and of the count of the batches and the log's end
abbrev pub WithLine : LoadEnding → (List ℕ → Type 0) → LoadEnding
WithLine Ends Tells log batches pending = Ends log batches pending
    × Tells (loaded_line (length batches) (end_of (log.batches ++ batches)))

-- and of the place behind the batches
abbrev pub WithPlace : LoadEnding → (List ℕ → Type 0) → LoadEnding
WithPlace Ends Tells log batches pending = Ends log batches pending
    × Tells (malformed_line (length (segment_of batches)))

-- ---- what each status says

-- The log was opened. `Ends` is said of what was read and of the log, and `Rises` says that a count of the disk or the
-- bay rose.
abbrev pub IsLoaded : InputChange → OutputChange → LoadEnding → RoomEnding → Type 0 → Status → Type 0
-- the batches of the segment were added
IsLoaded input output Ends NoRoom Rises Done = IsWhole input (WithLine Ends (Appends output.held output.held_after))
-- those before the first one that was refused were, and the last line names the first byte of that
IsLoaded input output Ends NoRoom Rises Malformed =
    IsRefusedSegment input (WithPlace Ends (Appends output.held output.held_after))
-- those that the input gave whole were
IsLoaded input output Ends NoRoom Rises ReadFault = Rose input.faults input.faults_after × Keeps output.held output.held_after
    × IsCutSegment input Ends
-- the output took a front of the last line
IsLoaded input output Ends NoRoom Rises WriteFault = Rose output.faults output.faults_after
    × (IsWhole input (WithLine Ends (λ line. WritesFrontOf line output))
    ⊎ IsRefusedSegment input (WithPlace Ends (λ line. WritesFrontOf line output)))
-- those before the one that couldn't be stored were, and that one is pending, if one is; or the log has no room for it
IsLoaded input output Ends NoRoom Rises Device = Keeps output.held output.held_after
    × ((Rises × IsBegunSegment input Ends) ⊎ IsFullSegment input Ends NoRoom)
IsLoaded input output Ends NoRoom Rises NoMemory = Keeps output.held output.held_after × IsBegunSegment input Ends
IsLoaded input output Ends NoRoom Rises _ = ⊥

-- The log was not opened. `Damages` says of a place that the content of the disk isn't a log's, by this place.
abbrev pub IsNotLoaded : OutputChange → List ℕ → (ℕ → Type 0) → Type 0 → Status → Type 0
-- all that was written is the line that names the disk, or a front of that
IsNotLoaded output disk Damages Rises Damaged = (place : ℕ) × Damages place
    × Appends output.held output.held_after (damaged_line disk place)
IsNotLoaded output disk Damages Rises WriteFault = Rose output.faults output.faults_after
    × ((place : ℕ) × Damages place × WritesFrontOf (damaged_line disk place) output)
-- nothing was written
IsNotLoaded output disk Damages Rises Device = Rises × Keeps output.held output.held_after
IsNotLoaded output disk Damages Rises NoMemory = Keeps output.held output.held_after
IsNotLoaded output disk Damages Rises _ = ⊥

-- no disk of the bay is out
abbrev pub NoneIsOut : {B D : Type 0} → (B → BayView D) → B → Type 0
NoneIsOut bay_seen bay = (name : List ℕ) → (bay_seen bay).out name ≡ false

-- ---- the disk of the log in a bay

-- the disk of the log of a shard's partition
abbrev pub IsLogDisk : List Topic → ℕ → List ℕ → Type 0
IsLogDisk topics shard name = (topic : Topic) × (number : ℕ) × IsPartitionOf topics shard topic number
    × (name ≡ hosted_name topic.name number log_place)

-- where a bay tells the disk of this name, it tells it behind the call as well
abbrev pub OverDisk : {B D : Type 0} → BayChange B D → List ℕ → (D → List ℕ → D → List ℕ → Type 0)
    → Type 0
OverDisk bay name P = (d : _) (c : List ℕ) → (bay.seen bay.old).disk name ≡ Some d
    → (bay.disk_seen d).content ≡ Some c → (e : _) × (left : List ℕ)
    × ((bay.seen bay.new).disk name ≡ Some e) × ((bay.disk_seen e).content ≡ Some left) × P d c e left

-- The disk stood for the log. A crash behind the call leaves the log with these batches, with or without the pending
-- one; so does a read.
pub record IsStored {D : Type 0} (seen : D → DiskView) (log : Log) (batches : List Batch) (pending : Option Batch)
    (content : List ℕ) (now : D) (left : List ℕ) : Type 0 where
  pub before : IsLogText content log
  pub images : (c : List ℕ) → (seen now).image c
      → WithPending (IsLogText c) (with_batches log batches)
      (and_pending (with_batches log batches) (option_map Adds pending))
  pub read : (seen now).image left

abbrev pub StoresIn : {B D : Type 0} → BayChange B D → List ℕ → LoadEnding
StoresIn bay name log batches pending =
    OverDisk bay name (λ d c e left. IsStored bay.disk_seen log batches pending c e left)

-- The log's journal, which has the frames of these writes, has no room for the batch behind them and these
-- batches: the batch's offsets reach 2^62, or its frame would end past 2^62 bytes behind the journal, which
-- ends with a gate, the byte behind the frames. `at` is where the log or the journal ends.
pub record HasNoRoomIn {B D : Type 0} (bay : BayChange B D) (name : List ℕ) (log : Log)
    (batches : List Batch) (next : Batch) (at : ℕ) : Type 0 where
  pub writes : List LogWrite
  pub leads : Lead no_log writes log
  pub none : HasNoRoomAt (length (blocks (frames_of (writes ++ map Adds batches))) + 1)
      (log.batches ++ batches) next at
  pub on_disk : (d : D) (c : List ℕ) → (bay.seen bay.old).disk name ≡ Some d
      → (bay.disk_seen d).content ≡ Some c → StandsFor c (frames_of writes)

-- a crash behind the call leaves what one before it might have left, or what stands for the same frames
abbrev pub StaysIn : {B D : Type 0} → BayChange B D → List ℕ → Type 0
StaysIn bay name = OverDisk bay name (λ d c e left.
    (x : List ℕ) → (bay.disk_seen e).image x → StandsAs (bay.disk_seen d).image x)

-- the content of the disk isn't a log's, by this place
abbrev pub DamagesIn : {B D : Type 0} → BayChange B D → List ℕ → ℕ → Type 0
DamagesIn bay name place = (d : _) (c : List ℕ) → (bay.seen bay.old).disk name ≡ Some d
    → (bay.disk_seen d).content ≡ Some c → IsNoLogText c place

-- the bay's count of faults rose, in which are those of the disk; or the disk was taken with one at its last
-- value, as the bay notes it
abbrev pub DiskCountRose : {B D : Type 0} → BayChange B D → List ℕ → Type 0
DiskCountRose bay name = Rose (bay.seen bay.old).faults (bay.seen bay.new).faults
    ⊎ (2 ^ 64 - 1 ≤ (bay.seen bay.new).taken name)

-- So it did where memory was found: no call on the disk found none, and the bay has found it at each.
pub record FailsWithMemory {B D : Type 0} (bay : BayChange B D) (name : List ℕ) : Type 0 where
  pub rose : DiskCountRose bay name
  pub disk : (d e : D) → (bay.seen bay.old).disk name ≡ Some d → (bay.seen bay.new).disk name ≡ Some e
      → (bay.disk_seen e).starved ≡ true → (bay.disk_seen d).starved ≡ true
  pub fed : (bay.seen bay.new).starved ≡ false

-- the log on the disk of this name was opened, or was not and nothing was read
abbrev pub IsLoad : {B D : Type 0} → BayChange B D → List ℕ → InputChange → OutputChange → Status → Type 0
IsLoad bay name input output status =
    IsLoaded input output (StoresIn bay name) (HasNoRoomIn bay name) (FailsWithMemory bay name) status
    ⊎ (input.Same × StaysIn bay name
    × IsNotLoaded output name (DamagesIn bay name) (FailsWithMemory bay name) status)

-- a segment whose batches may stand behind the log is loaded, where no count rose, memory is found and the
-- log has room; it hasn't with 7 alone
abbrev pub LoadCompletes : {B D : Type 0} → BayChange B D → List ℕ → InputChange → OutputChange → Status
    → Type 0
LoadCompletes bay name input output status = (DiskCountRose bay name → ⊥)
    → (Rose input.faults input.faults_after → ⊥) → (Rose output.faults output.faults_after → ⊥)
    → (d : _) (c : List ℕ) (log : Log) (batches : List Batch) → (bay.seen bay.old).disk name ≡ Some d
    → (bay.disk_seen d).content ≡ Some c → IsLogText c log
    → IfSome input.left (λ text. IsSegment text log.batches batches
    → (status ≡ Done) ⊎ ((status ≡ Device) ⊎ (status ≡ NoMemory)))

-- What a load does. It uses the disk of one log alone.
pub record LoadsSegment {B D : Type 0} (bay : BayChange B D) (input : InputChange)
    (output : OutputChange) (conf : ConfigParts) (shard : ℕ) (status : Status) : Type 0 where
  pub disk : List ℕ
  pub disk_is : IsLogDisk conf.topics shard disk
  -- what the status says of the segment, of what was written, and of the disk
  pub ends : IsLoad bay disk input output status
  pub complete : LoadCompletes bay disk input output status
  -- no fault of the disk was armed, and no power lost
  pub runs : RunsDisk bay disk
  -- each other disk is as it was
  pub others : LeavesOthers bay (IsLogDisk conf.topics shard)
