-- Record batches, and why bytes aren't one (Apache Kafka documentation, "Record Batch").
--
-- Worked example: 85 bytes are a batch in both forms, with the records a, b and c at the offsets 0, 1 and 2.
use Rattle.std.specs.Prelude.{◌≡◌, ◌≢◌, ℕ, ℤ, pos, negsuc, ◌+ℤ◌, ◌≤ℤ◌, ◌<ℤ◌, ◌<◌, ◌≤◌, ◌^◌, ◌⊎◌, List, [], ◌∷◌, ◌++◌, length, bit_and}
use Rattle.share_model.specs.declared.fault.BatchFault.{BatchFault}
use Rattle.share_model.specs.declared.fault.BatchFault.TheVariants.{TooLarge, Short, BadMagic, BadCrc, Compressed, Transactional}
use Rattle.share_model.specs.declared.fault.BatchFault.TheVariants.{Control, HasProducer, BadRecord, BadDeltas}
use Rattle.flex_fields.specs.Grammar.{AreMany}
use Rattle.crc_castagnoli.specs.Division.{crc_of}
use Rattle.rec_batch.specs.declared.form.Form.{Form}
use Rattle.rec_batch.specs.declared.form.Form.TheVariants.{Produced, Stored}
use Rattle.rec_batch.specs.declared.form.BatchView.{BatchView}
use Rattle.rec_batch.specs.Fields.{base_offset, batch_length, magic, checksum, checked_part, attributes}
use Rattle.rec_batch.specs.Fields.{last_offset_delta, producer_id, record_count, records_part}
use Rattle.rec_batch.specs.Grammar.{Record, IsRecord}

-- the most bytes of a batch
abbrev pub max_size : ℕ
max_size = 1048588

-- the records are these, and nothing follows them
abbrev pub AreRecords : List ℕ → List Record → Type 0
AreRecords bytes records = (record_count bytes ≡ pos (length records)) × AreMany IsRecord (records_part bytes) records

-- This offset delta may come where `next` is due: those of a produced batch count up, those of a stored one rise up to
-- the last.
abbrev pub MayFollow : Form → ℤ → ℤ → ℤ → Type 0
MayFollow Produced last next delta = delta ≡ next
MayFollow Stored last next delta = (next ≤ℤ delta) × (delta ≤ℤ last)

abbrev pub Follow : Form → ℤ → ℤ → List Record → Type 0
Follow form last next [] = Unit {0}
Follow form last next (r ∷ records) = MayFollow form last next r.offset_delta × Follow form last (r.offset_delta +ℤ pos 1) records

-- what the header says of the offsets, at a number of records
abbrev pub OffsetsAgree : Form → List ℕ → ℕ → Type 0
OffsetsAgree Produced bytes count = (0 < count) × (last_offset_delta bytes +ℤ pos 1 ≡ pos count)
OffsetsAgree Stored bytes count = (pos 0 ≤ℤ last_offset_delta bytes) × (pos 0 ≤ℤ base_offset bytes)
    × ((base_offset bytes +ℤ last_offset_delta bytes) <ℤ pos (2 ^ 62))

abbrev pub HasOffsets : Form → List ℕ → List Record → Type 0
HasOffsets form bytes records = OffsetsAgree form bytes (length records) × Follow form (last_offset_delta bytes) (pos 0) records

-- The bytes are a batch of this form with these records.
pub record IsBatch (form : Form) (bytes : List ℕ) (records : List Record) : Type 0 where
  pub size : length bytes ≤ max_size
  pub header : 61 ≤ length bytes
  pub whole : batch_length bytes +ℤ pos 12 ≡ pos (length bytes)
  pub version : magic bytes ≡ pos 2
  pub intact : checksum bytes ≡ crc_of (checked_part bytes)
  pub uncompressed : bit_and (attributes bytes) 0x7 ≡ 0
  pub no_transaction : bit_and (attributes bytes) 0x10 ≡ 0
  pub no_control : bit_and (attributes bytes) 0x20 ≡ 0
  pub no_producer : producer_id bytes ≡ negsuc 0
  pub content : AreRecords bytes records
  pub offsets : HasOffsets form bytes records

-- No front of the bytes is a record.
abbrev pub BeginsNoRecord : List ℕ → Type 0
BeginsNoRecord bytes = (front rest : List ℕ) (r : Record) → bytes ≡ front ++ rest → IsRecord front r → ⊥

-- So many records stand in front, and then comes no record where one is due, or something where none is.
pub record IsBadRecord (content : List ℕ) (count index : ℕ) : Type 0 where
  pub front : List ℕ
  pub rest : List ℕ
  pub records : List Record
  pub parts : content ≡ front ++ rest
  pub before : AreMany IsRecord front records
  pub number : length records ≡ index
  pub bad : ((index < count) × BeginsNoRecord rest) ⊎ ((index ≡ count) × (rest ≢ []))

-- The rows of the table of faults: when each applies.
abbrev pub Applies : Form → List ℕ → BatchFault → Type 0
Applies form bytes TooLarge = max_size < length bytes
Applies form bytes Short = (length bytes < 61) ⊎ (batch_length bytes +ℤ pos 12 ≢ pos (length bytes))
Applies form bytes BadMagic = magic bytes ≢ pos 2
Applies form bytes BadCrc = checksum bytes ≢ crc_of (checked_part bytes)
Applies form bytes Compressed = bit_and (attributes bytes) 0x7 ≢ 0
Applies form bytes Transactional = bit_and (attributes bytes) 0x10 ≢ 0
Applies form bytes Control = bit_and (attributes bytes) 0x20 ≢ 0
Applies form bytes HasProducer = producer_id bytes ≢ negsuc 0
Applies form bytes (BadRecord index) = ((record_count bytes <ℤ pos 0) × (index ≡ 0))
    ⊎ ((count : ℕ) × (record_count bytes ≡ pos count) × IsBadRecord (records_part bytes) count index)
Applies form bytes BadDeltas = (records : List Record) × AreRecords bytes records × (HasOffsets form bytes records → ⊥)

-- the place of a fault in the table
abbrev pub row : BatchFault → ℕ
row TooLarge = 0
row Short = 1
row BadMagic = 2
row BadCrc = 3
row Compressed = 4
row Transactional = 5
row Control = 6
row HasProducer = 7
row (BadRecord index) = 8
row BadDeltas = 9

-- The fault applies, and none above it in the table does. Bytes have one such fault at most, by the law
-- bytes_have_one_first_fault.
abbrev pub IsFirstFault : Form → List ℕ → BatchFault → Type 0
IsFirstFault form bytes fault = Applies form bytes fault × ((other : BatchFault) → row other < row fault → Applies form bytes other → ⊥)

-- the number, or 0 below it
abbrev pub at_least_zero : ℤ → ℕ
at_least_zero (pos n) = n
at_least_zero (negsuc n) = 0

-- The numbers are those of the header. A base below 0, which only a produced batch may have, is shown as 0.
pub record IsViewOf (bytes : List ℕ) (view : BatchView) : Type 0 where
  pub base : view.base ≡ at_least_zero (base_offset bytes)
  pub last_delta : pos view.last_delta ≡ last_offset_delta bytes
  pub count : pos view.count ≡ record_count bytes
  pub size : view.size ≡ length bytes

-- A batch of this form, with these numbers.
abbrev pub Accepts : Form → List ℕ → BatchView → Type 0
Accepts form bytes view = IsViewOf bytes view × ((records : List Record) × IsBatch form bytes records)
