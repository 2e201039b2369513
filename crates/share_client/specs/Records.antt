-- The records of a partition's batches with their offsets, and which of them stands at an offset (Apache Kafka documentation, "Record Batch"
-- and "Record"). The law `records_are_those_of_the_batches` ties them to the grammar of batches.
-- For example of the batch with a, b and c at the offsets 0, 1 and 2 the record at 1 has the value b, and none stands at 3.
use Rattle.std.specs.Prelude.{ℕ, ℤ, zero, suc, pos, negsuc, ◌+◌, ◌-◌, List, [], ◌∷◌, ◌++◌, length, take, drop, map, Option, Some, None, nat_lt, ◌==◌, if◌then◌else◌}
use Rattle.std.specs.Option.{option_map_or}
use Rattle.rec_batch.specs.declared.places.Pieces.{Pieces}
use Rattle.rec_batch.specs.Batches.{at_least_zero}
use Rattle.rec_batch.specs.Fields.{base_offset, batch_length, record_count, records_part}
use Rattle.rec_batch.specs.Grammar.{Record}
use Rattle.rec_batch.specs.Pieces.{pieces_in}
use Rattle.share_client.specs.Grants.{Batch}

pub record OffsetRecord : Type 0 where
  pub offset : ℕ
  pub value : Option (List ℕ)

-- so many bytes, or null
abbrev pub sized_value : ℤ → List ℕ → Option (List ℕ)
sized_value (pos n) bytes = Some (take n bytes)
sized_value (negsuc n) bytes = None

-- the record in front of bytes, by its pieces, where the batch begins at this offset
abbrev pub front_record : ℕ → List ℕ → Pieces → OffsetRecord
front_record base bytes p = record {
  offset = base + at_least_zero p.delta;
  value = sized_value p.len (drop (length bytes - (p.left + p.behind)) bytes);
}

-- so many records one after another
abbrev pub records_from : ℕ → ℕ → List ℕ → List OffsetRecord
records_from zero base bytes = []
records_from (suc n) base bytes =
    option_map_or (λ p. front_record base bytes p ∷ records_from n base (drop (length bytes - p.behind) bytes)) (pieces_in bytes) []

-- the records of a batch
abbrev pub batch_records : List ℕ → List OffsetRecord
batch_records bytes = records_from (at_least_zero (record_count bytes)) (at_least_zero (base_offset bytes)) (records_part bytes)

-- how many bytes the batch in front says that it has
abbrev pub front_size : List ℕ → ℕ
front_size bytes = at_least_zero (batch_length bytes) + 12

-- the records of at most so many batches one after another
abbrev pub records_in : ℕ → List ℕ → List OffsetRecord
records_in zero bytes = []
records_in (suc n) [] = []
records_in (suc n) (b ∷ bytes) = batch_records (take (front_size (b ∷ bytes)) (b ∷ bytes)) ++ records_in n (drop (front_size (b ∷ bytes)) (b ∷ bytes))

abbrev pub all_records : List ℕ → List OffsetRecord
all_records bytes = records_in (length bytes) bytes

-- ---- by the grammar

abbrev pub shown : ℕ → Record → OffsetRecord
shown base r = record { offset = base + at_least_zero r.offset_delta; value = r.value }

abbrev pub shown_batch : Batch → List OffsetRecord
shown_batch b = map (shown (at_least_zero (base_offset b.bytes))) b.records

-- ---- the record at an offset

-- Offsets rise from record to record.
abbrev pub from_offset : ℕ → List OffsetRecord → List OffsetRecord
from_offset n [] = []
from_offset n (r ∷ records) = if nat_lt r.offset n then from_offset n records else r ∷ records

abbrev pub first_at : ℕ → List OffsetRecord → Option (Option (List ℕ))
first_at n [] = None
first_at n (r ∷ records) = if r.offset == n then Some r.value else None

-- the value of the record at an offset, where one stands there
abbrev pub found_at : List OffsetRecord → ℕ → Option (Option (List ℕ))
found_at records n = first_at n (from_offset n records)
