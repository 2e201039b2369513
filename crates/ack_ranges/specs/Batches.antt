-- Well-formed acknowledgement batches, and what they say of an offset (KIP-932; AcknowledgementBatches of Kafka's schemas
-- ShareFetchRequest and ShareAcknowledgeRequest: FirstOffset, LastOffset, AcknowledgeTypes).
-- For example the batch from 10 to 19 with the types 1 accepts ten records, and one from 10 to 12 with the types 1, 0, 2 accepts 10, says
-- that there is no record at 11, and releases 12.
use Rattle.std.specs.Prelude.{◌≡◌, ◌-◌, ◌<◌, ◌⊎◌, ℕ, suc, pos, ◌+ℤ◌, ◌-ℤ◌, ◌≤ℤ◌, ◌<ℤ◌, unsigned_abs, List, [], ◌∷◌, length, All, Bool, Option, None, IsSome}
use Rattle.std.specs.Prelude.{nat_eq, nat_le, ◌&&◌, slice_index, slice_index_or, if◌then◌else◌}
use Rattle.share_model.specs.Acks.{kind_of}
use Rattle.share_model.specs.declared.ack.AckBatch.{AckBatch}
use Rattle.share_model.specs.declared.ack.AckKind.{AckKind}

-- its offsets are offsets, in order
abbrev pub HasRange : AckBatch → Type 0
HasRange batch = (pos 0 ≤ℤ batch.first) × (batch.first ≤ℤ batch.last)

-- it has one type for all of its offsets, or one for each
abbrev pub HasCount : AckBatch → Type 0
HasCount batch = (length batch.types ≡ 1) ⊎ (pos (length batch.types) ≡ (batch.last -ℤ batch.first) +ℤ pos 1)

-- each of its types is a kind
abbrev pub HasKinds : AckBatch → Type 0
HasKinds batch = All (λ number. IsSome (kind_of number)) batch.types

-- a batch that is well formed by itself
pub record IsSound (batch : AckBatch) : Type 0 where
  pub range : HasRange batch
  pub count : HasCount batch
  pub kinds : HasKinds batch

-- the first `n` batches are well formed: each is by itself, and begins behind the one before it
pub record AreWellFormed (batches : List AckBatch) (n : ℕ) : Type 0 where
  pub each : (k : ℕ) (other : AckBatch) → k < n → IsSound (slice_index_or batches k other)
  pub sorted : (k : ℕ) (other : AckBatch) → suc k < n → (slice_index_or batches k other).last <ℤ (slice_index_or batches (suc k) other).first

-- all of them are
abbrev pub IsWellFormed : List AckBatch → Type 0
IsWellFormed batches = AreWellFormed batches (length batches)

-- ---- what well-formed batches say

-- whether an offset is one of the batch's
abbrev pub covers : AckBatch → ℕ → Bool
covers batch offset = nat_le (unsigned_abs batch.first) offset && nat_le offset (unsigned_abs batch.last)

-- the number of the type that a batch has for an offset of its own
abbrev pub number_at : AckBatch → ℕ → ℕ
number_at batch offset = slice_index batch.types (if nat_eq (length batch.types) 1 then 0 else offset - unsigned_abs batch.first)

-- what is said of an offset, where something is
abbrev pub kind_at : List AckBatch → ℕ → Option AckKind
kind_at [] offset = None
kind_at (batch ∷ batches) offset = if covers batch offset then kind_of (number_at batch offset) else kind_at batches offset
