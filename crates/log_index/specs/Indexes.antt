-- The index of a log: its batches without their bytes, and the bytes that are kept of some. The slots of a log are those of
-- `share_model` (Apache Kafka documentation, "Record Batch": base offset and last offset delta); the cache is this project's own.
-- Worked example: of the entries 0 to 2 and 5 to 5, with frames of 85 and 69 bytes at 0 and 90, the next slot from 3 on is 5, and 5 is
-- covered by number 1; number 1 may be cached with the 69 bytes of the frame at 90.
use Rattle.std.specs.Prelude.{◌≡◌, ◌⊎◌, ◌<◌, ◌≤◌, ◌+◌, ℕ, List, [], ◌∷◌, ◌++◌, length, map, Contains}
use Rattle.edge_io.specs.Disk.{IsTold}
use Rattle.edge_io.specs.Views.{DiskView}
use Rattle.gate_journal.specs.Reading.{ExtendsWithin, HasFrameAt}
use Rattle.gate_journal.specs.declared.writer.Writer.{Writer}
use Rattle.share_model.specs.Logs.{Batch, Covers}
use Rattle.share_model.specs.Rooms.{Filled}
use Rattle.share_model.specs.declared.batch_place.BatchPlace.{BatchPlace}
use Rattle.log_index.specs.declared.entry.Entry.{Entry}

-- what contracts see of an index: its entries, the numbers of those whose bytes are kept, with these bytes, and how many entries
-- may be pushed with no memory
pub record IndexParts : Type 0 where
  pub entries : List Entry
  pub cached : List (ℕ × List ℕ)
  pub spare : ℕ

-- the offsets that an entry covers, as a batch with no bytes
abbrev pub covers : Entry → Batch
covers e = record { base = e.base; last = e.last; offsets = []; bytes = [] }

-- and those of all
abbrev pub log_of : List Entry → List Batch
log_of entries = map covers entries

-- the entry with this number, counted from 0
abbrev pub IsEntryAt : List Entry → ℕ → Entry → Type 0
IsEntryAt entries number e = (before after : List Entry) × (entries ≡ before ++ (e ∷ after)) × (number ≡ length before)

-- the entry of these numbers covers the offset
pub record IsPlaceOf (entries : List Entry) (offset : ℕ) (place : BatchPlace) : Type 0 where
  pub entry : Entry
  pub at : IsEntryAt entries place.number entry
  pub within : Covers (covers entry) offset
  pub base : place.base ≡ entry.base
  pub last : place.last ≡ entry.last
  pub size : place.size ≡ entry.size

-- The index fits the journal: at the place of each entry stands a frame of its size, and where the disk tells its content, what is
-- cached for a number is the frame at its place. In any case it is cached for a number of an entry, and isn't longer than the frame.
pub record Indexes {D : Type 0} (seen : D → DiskView) (index : IndexParts) (journal : Writer D) : Type 0 where
  pub frames : (number : ℕ) (e : Entry) → IsEntryAt index.entries number e
      → (frame : List ℕ) × HasFrameAt seen journal e.place frame × (length frame ≡ e.size)
  pub cached : IsTold (seen journal.disk).content → (number : ℕ) (bytes : List ℕ) (e : Entry) → Contains index.cached (number, bytes)
      → IsEntryAt index.entries number e → HasFrameAt seen journal e.place bytes
  pub known : (number : ℕ) (bytes : List ℕ) → Contains index.cached (number, bytes) → number < length index.entries
  pub short : (number : ℕ) (bytes : List ℕ) (e : Entry) → Contains index.cached (number, bytes) → IsEntryAt index.entries number e
      → length bytes ≤ e.size

-- a room behind its bytes got at most so many more, and its spare number fell by at most as many
pub record FillsWithin (most : ℕ) (old new : Filled) : Type 0 where
  pub bytes : ExtendsWithin most old.bytes new.bytes
  pub spare : old.spare ≤ new.spare + most

-- nothing is cached but what was, and these bytes for this number
abbrev pub CachesAlso : List (ℕ × List ℕ) → ℕ → (List ℕ → Type 0) → List (ℕ × List ℕ) → Type 0
CachesAlso old number these new = (k : ℕ) (bytes : List ℕ) → Contains new (k, bytes) → Contains old (k, bytes) ⊎ ((k ≡ number) × these bytes)
