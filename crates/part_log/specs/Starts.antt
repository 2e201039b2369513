-- A log that has a start, below which its records are deleted (Apache Kafka protocol guide, "DeleteRecords": the low
-- watermark), and what is written to it.
-- For example a log of one batch with base 5, last offset 7 and records at 5 and 7 has the slots 5, 6 and 7; where it
-- starts at 6, it has 6 and 7, and the next slot from 0 on is 6.
use Rattle.std.specs.Prelude.{◌≤◌, ℕ, List, [], ◌∷◌, ◌++◌, Option, Some, None}
use Rattle.share_model.specs.Logs.{Batch, IsSlot}

-- a log: its batches, and its start
pub record Log : Type 0 where
  pub batches : List Batch
  pub start : ℕ

-- a slot of a log: an offset at or above its start that a batch covers
abbrev pub IsSlotOf : Log → ℕ → Type 0
IsSlotOf log offset = (log.start ≤ offset) × IsSlot log.batches offset

-- the least slot of a log from an offset on, if there is one
abbrev pub IsNextSlotOf : Log → ℕ → Option ℕ → Type 0
IsNextSlotOf log from None = (offset : ℕ) → from ≤ offset → IsSlotOf log offset → ⊥
IsNextSlotOf log from (Some slot) = IsSlotOf log slot × (from ≤ slot)
    × ((offset : ℕ) → from ≤ offset → IsSlotOf log offset → slot ≤ offset)

-- what is written to a log: a batch behind the others, or a mark, at which the log starts from then on
pub data LogWrite : Type 0 where
  Adds : (batch : Batch) → LogWrite
  Marks : (start : ℕ) → LogWrite

-- the log behind a write
abbrev pub with_write : Log → LogWrite → Log
with_write log (Adds b) = record { batches = log.batches ++ b ∷ []; start = log.start }
with_write log (Marks start) = record { batches = log.batches; start = start }
