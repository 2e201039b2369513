-- The log of a partition: a list of record batches, each of which covers the offsets from its base to its last one (Apache
-- Kafka documentation, "Record Batch": base offset and last offset delta; after compaction a covered offset may have no
-- record).
-- For example a log of one batch with base 5, last offset 7 and records at 5 and 7 ends at 8: 6 is a gap, and 0 to 4 are holes.
use Rattle.std.specs.Prelude.{◌≡◌, ◌⊎◌, ◌+◌, ◌<◌, ◌≤◌, ℕ, List, [], ◌∷◌, ◌++◌, length, Option, Some, None}
use Rattle.std.specs.List.{Contains}

-- a batch: its first and its last offset, the offsets of its records, and its bytes
pub record Batch : Type 0 where
  pub base : ℕ
  pub last : ℕ
  pub offsets : List ℕ
  pub bytes : List ℕ

-- the end of a log: the offset behind the last one that it covers, or 0
abbrev pub end_of : List Batch → ℕ
end_of [] = 0
end_of (b ∷ []) = b.last + 1
end_of (b ∷ c ∷ log) = end_of (c ∷ log)

-- each batch begins at this offset or behind it, and behind the batch before it
abbrev pub RisesFrom : ℕ → List Batch → Type 0
RisesFrom end [] = Unit {0}
RisesFrom end (b ∷ log) = (end ≤ b.base) × (b.base ≤ b.last) × RisesFrom (b.last + 1) log

-- a log: each batch begins behind the one before it
abbrev pub IsLog : List Batch → Type 0
IsLog log = RisesFrom 0 log

-- the batch with this number, counted from 0
abbrev pub IsAt : List Batch → ℕ → Batch → Type 0
IsAt log number b = (before after : List Batch) × (log ≡ before ++ (b ∷ after)) × (number ≡ length before)

-- the batch covers the offset
abbrev pub Covers : Batch → ℕ → Type 0
Covers b offset = (b.base ≤ offset) × (offset ≤ b.last)

-- a slot: an offset that a batch covers
abbrev pub IsSlot : List Batch → ℕ → Type 0
IsSlot [] offset = ⊥
IsSlot (b ∷ log) offset = Covers b offset ⊎ IsSlot log offset

-- an offset with a record
abbrev pub HasRecord : List Batch → ℕ → Type 0
HasRecord [] offset = ⊥
HasRecord (b ∷ log) offset = Contains b.offsets offset ⊎ HasRecord log offset

-- a gap: a slot without a record, wherever the log starts
abbrev pub IsGap : List Batch → ℕ → Type 0
IsGap log offset = IsSlot log offset × (HasRecord log offset → ⊥)

-- a hole: an offset below the end that no batch covers
abbrev pub IsHole : List Batch → ℕ → Type 0
IsHole log offset = (offset < end_of log) × (IsSlot log offset → ⊥)

-- the least slot from an offset on, if there is one
abbrev pub IsNextSlot : List Batch → ℕ → Option ℕ → Type 0
IsNextSlot log from None = (offset : ℕ) → from ≤ offset → IsSlot log offset → ⊥
IsNextSlot log from (Some slot) = IsSlot log slot × (from ≤ slot) × ((offset : ℕ) → from ≤ offset → IsSlot log offset → slot ≤ offset)
