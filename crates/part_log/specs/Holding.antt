-- How a log is kept in memory: an index of its batches without their bytes, over the journal that has these. The frames
-- themselves are seen by clauses alone. This project's own; private clauses cite it.
-- For example two batches of 85 and 69 bytes at the offsets 0 to 2 and 5 to 5 are the frames at 0 and 103, where a mark
-- at 90 stands between them, and the entries (0, 2, 85, 0) and (5, 5, 69, 103).
use Rattle.std.specs.Prelude.{◌≡◌, ℕ, List, [], ◌∷◌, ◌++◌, length, map, filter, nat_lt}
use Rattle.std.specs.Prelude.{Some, None}
use Rattle.std.specs.declared.option.Option.{Option}
use Rattle.edge_io.specs.Views.{DiskView}
use Rattle.gate_journal.specs.Journals.{Stands}
use Rattle.gate_journal.specs.Visits.{placed}
use Rattle.gate_journal.specs.declared.writer.Writer.{Writer}
use Rattle.share_model.specs.Logs.{Batch, end_of}
use Rattle.part_log.specs.Starts.{Log, LogWrite}
use Rattle.log_index.specs.Indexes.{IndexParts, Indexes}
use Rattle.log_index.specs.declared.entry.Entry.{Entry}
use Rattle.part_log.specs.Batches.{batch_in}
use Rattle.part_log.specs.Logs.{IsAllowed, Lead, frame_of, frames_of, no_log}

-- the bytes of frames, each of which has its place before it
abbrev pub bytes_in : List (ℕ × List ℕ) → List (List ℕ)
bytes_in frames = map (λ (f : ℕ × List ℕ). f.1) frames

-- those of them that have a batch: a mark has eight bytes
abbrev pub kept_in : List (ℕ × List ℕ) → List (ℕ × List ℕ)
kept_in frames = filter (λ f. nat_lt 8 (length f.1)) frames

-- and the batches
abbrev pub batches_of : List (ℕ × List ℕ) → List Batch
batches_of frames = map (λ (f : ℕ × List ℕ). batch_in f.1) (kept_in frames)

-- what an index keeps of a frame with a batch
abbrev pub entry_of : ℕ × List ℕ → Entry
entry_of f = record { base = (batch_in f.1).base; last = (batch_in f.1).last; size = length f.1; place = f.0 }

-- the log of these frames, where it starts there
abbrev pub log_of : List (ℕ × List ℕ) → ℕ → Log
log_of frames start = record { batches = batches_of frames; start = start }

-- The frames are a log that starts and ends there, and the index is one of its batches.
pub record IsIndexed (frames : List (ℕ × List ℕ)) (index : IndexParts) (start end : ℕ) : Type 0 where
  pub writes : List LogWrite
  pub are : bytes_in frames ≡ frames_of writes
  pub leads : Lead no_log writes (log_of frames start)
  pub ends : end ≡ end_of (batches_of frames)
  pub entries : index.entries ≡ map entry_of (kept_in frames)

-- The journal has these frames, each at its place, and the index fits the journal.
pub record HoldsLog {D : Type 0} (seen : D → DiskView) (frames : List (ℕ × List ℕ)) (index : IndexParts)
    (journal : Writer D) (start end : ℕ) : Type 0 where
  pub indexed : IsIndexed frames index start end
  pub places : frames ≡ placed 0 (bytes_in frames)
  pub pending : Option (List ℕ)
  pub stands : Stands seen journal (bytes_in frames) pending
  pub fits : Indexes seen index journal

-- The frame with this place is the first that can't stand in a log: those before it are one, and it is of no write that
-- may follow them.
pub record HasBadFrame (frames : List (ℕ × List ℕ)) (place : ℕ) : Type 0 where
  pub before : List (ℕ × List ℕ)
  pub frame : List ℕ
  pub after : List (ℕ × List ℕ)
  pub is : frames ≡ before ++ ((place, frame) ∷ after)
  pub writes : List LogWrite
  pub are : bytes_in before ≡ frames_of writes
  pub log : Log
  pub leads : Lead no_log writes log
  pub none : (w : LogWrite) → frame_of w ≡ frame → IsAllowed log w → ⊥

-- What a reader of frames knows: their log, of which no bytes are cached, or the place of the first frame that can't
-- stand in one.
abbrev pub Reads : List (ℕ × List ℕ) → IndexParts → (start end : ℕ) → Option ℕ → Type 0
Reads frames index start end None = IsIndexed frames index start end × (index.cached ≡ [])
Reads frames index start end (Some place) = HasBadFrame frames place
