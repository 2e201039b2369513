-- Which batch of a log a frame holds (Apache Kafka documentation, "Record Batch": a record's offset is the base offset and
-- its offset delta).
-- For example 77 bytes are a stored batch with base 5, last offset 7 and records at 5 and 7.
use Rattle.std.specs.Prelude.{◌≡◌, ℕ, zero, suc, ℤ, pos, ◌+ℤ◌, List, [], ◌∷◌, map, Option, Some, None}
use Rattle.share_model.specs.Logs.{Batch}
use Rattle.rec_batch.specs.declared.form.Form.TheVariants.{Stored}
use Rattle.rec_batch.specs.Batches.{IsBatch, at_least_zero}
use Rattle.rec_batch.specs.Fields.{base_offset, last_offset_delta, record_count, records_part}
use Rattle.rec_batch.specs.Grammar.{Record}
use Rattle.rec_batch.specs.Passing.{record_in}

-- A batch as a log keeps it: its bytes are one in the stored form, whose header says its base and its last offset, and its
-- records say their offsets.
pub record IsStored (b : Batch) : Type 0 where
  pub records : List Record
  pub batch : IsBatch Stored b.bytes records
  pub base : base_offset b.bytes ≡ pos b.base
  pub last : (base_offset b.bytes +ℤ last_offset_delta b.bytes) ≡ pos b.last
  pub offsets : map pos b.offsets ≡ map (λ (r : Record). base_offset b.bytes +ℤ r.offset_delta) records

-- the deltas of so many records, read one after another
abbrev pub delta_and : Option (ℤ × List ℕ) → (List ℕ → List ℤ) → List ℤ
delta_and None more = []
delta_and (Some x) more = x.0 ∷ more x.1

unfoldable pub deltas_in : ℕ → List ℕ → List ℤ
deltas_in zero bytes = []
deltas_in (suc n) bytes = delta_and (record_in bytes) (deltas_in n)

unfoldable pub offsets_in : List ℕ → List ℕ
offsets_in bytes = map (λ (d : ℤ). at_least_zero (base_offset bytes +ℤ d)) (deltas_in (at_least_zero (record_count bytes)) (records_part bytes))

-- The batch of a frame. Where the bytes are one in the stored form, it is the only one with these bytes that is stored: the
-- law a_frame_is_one_batch.
abbrev pub batch_in : List ℕ → Batch
batch_in bytes = record {
  base = at_least_zero (base_offset bytes);
  last = at_least_zero (base_offset bytes +ℤ last_offset_delta bytes);
  offsets = offsets_in bytes;
  bytes = bytes;
}
