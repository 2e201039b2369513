-- Why acknowledgement batches aren't well formed: the first batch that isn't, and its first fault in the order range, sorting, number of
-- types, type (this project's own order; KIP-932 leaves it open).
-- For example of batches from 0 to 4 and from 4 to 2 the second has a bad range, and isn't told as unsorted.
use Rattle.std.specs.Prelude.{◌≡◌, ◌+◌, ◌<ℤ◌, ℕ, List, Some, is_none, position, slice_get}
use Rattle.share_model.specs.Acks.{kind_of}
use Rattle.share_model.specs.declared.ack.AckBatch.{AckBatch}
use Rattle.share_model.specs.declared.ack.AckFault.{AckFault}
use Rattle.share_model.specs.declared.ack.AckFault.TheVariants.{BadRange, Unsorted, BadCount, BadType}
use Rattle.ack_ranges.specs.Batches.{HasRange, HasCount, AreWellFormed}

-- at this place there is a batch of which this holds, and those before it are well formed
abbrev pub FirstAt : List AckBatch → ℕ → (AckBatch → Type 0) → Type 0
FirstAt batches n Holds = (batch : AckBatch) × (slice_get batches n ≡ Some batch) × AreWellFormed batches n × Holds batch

-- it begins behind the one before this place, where there is one
abbrev pub IsSortedAt : List AckBatch → ℕ → AckBatch → Type 0
IsSortedAt batches n batch = (k : ℕ) (before : AckBatch) → k + 1 ≡ n → slice_get batches k ≡ Some before → before.last <ℤ batch.first

-- the first fault
abbrev pub IsFirstFault : List AckBatch → AckFault → Type 0
IsFirstFault batches (BadRange n) = FirstAt batches n (λ batch. ¬ HasRange batch)
IsFirstFault batches (Unsorted n) = FirstAt batches n (λ batch. HasRange batch × ¬ IsSortedAt batches n batch)
IsFirstFault batches (BadCount n) = FirstAt batches n (λ batch. HasRange batch × IsSortedAt batches n batch × ¬ HasCount batch)
IsFirstFault batches (BadType n index) = FirstAt batches n (λ batch.
    HasRange batch × IsSortedAt batches n batch × HasCount batch × (position (λ number. is_none (kind_of number)) batch.types ≡ Some index))
