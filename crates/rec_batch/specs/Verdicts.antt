-- What the steps of the reader find out of a batch (Apache Kafka documentation, "Record Batch"). The clauses of private
-- functions cite it, and no public one does.
--
-- Worked example: 1048589 bytes have the size fault TooLarge, and 60 have Short.
use Rattle.std.specs.Prelude.{◌≡◌, ◌≢◌, ℕ, ℤ, pos, negsuc, ◌+ℤ◌, ◌<◌, ◌≤◌, ◌⊎◌, List, [], ◌∷◌, length}
use Rattle.std.specs.Prelude.{Option, Some, None, MatchOption, MatchBool, Bool, bit_and}
use Rattle.share_model.specs.declared.fault.BatchFault.{BatchFault}
use Rattle.share_model.specs.declared.fault.BatchFault.TheVariants.{TooLarge, Short, BadMagic, BadCrc, Compressed, Transactional, Control, HasProducer}
use Rattle.flex_fields.specs.Grammar.{AreMany}
use Rattle.crc_castagnoli.specs.Division.{crc_of}
use Rattle.rec_batch.specs.declared.form.Form.{Form}
use Rattle.rec_batch.specs.Fields.{attributes, batch_length, checked_part, checksum, magic, producer_id}
use Rattle.rec_batch.specs.Grammar.{IsRecord, Record}
use Rattle.rec_batch.specs.Batches.{Follow, MayFollow, max_size}

-- The size is right, or this is its first fault.
abbrev pub HasSize : List ℕ → Type 0
HasSize bytes = (length bytes ≤ max_size) × (61 ≤ length bytes) × (batch_length bytes +ℤ pos 12 ≡ pos (length bytes))

abbrev pub IsSizeFault : List ℕ → BatchFault → Type 0
IsSizeFault bytes TooLarge = max_size < length bytes
IsSizeFault bytes Short = (length bytes ≤ max_size) × ((length bytes < 61) ⊎ (batch_length bytes +ℤ pos 12 ≢ pos (length bytes)))
IsSizeFault bytes f = ⊥

-- The fields are right, or this is their first fault.
abbrev pub HasFields : List ℕ → Type 0
HasFields bytes = (magic bytes ≡ pos 2) × (checksum bytes ≡ crc_of (checked_part bytes))
    × (bit_and (attributes bytes) 0x7 ≡ 0) × (bit_and (attributes bytes) 0x10 ≡ 0)
    × (bit_and (attributes bytes) 0x20 ≡ 0) × (producer_id bytes ≡ negsuc 0)

abbrev pub IsFieldFault : List ℕ → BatchFault → Type 0
IsFieldFault bytes BadMagic = magic bytes ≢ pos 2
IsFieldFault bytes BadCrc = (magic bytes ≡ pos 2) × (checksum bytes ≢ crc_of (checked_part bytes))
IsFieldFault bytes Compressed = (magic bytes ≡ pos 2) × (checksum bytes ≡ crc_of (checked_part bytes))
    × (bit_and (attributes bytes) 0x7 ≢ 0)
IsFieldFault bytes Transactional = (magic bytes ≡ pos 2) × (checksum bytes ≡ crc_of (checked_part bytes))
    × (bit_and (attributes bytes) 0x7 ≡ 0) × (bit_and (attributes bytes) 0x10 ≢ 0)
IsFieldFault bytes Control = (magic bytes ≡ pos 2) × (checksum bytes ≡ crc_of (checked_part bytes))
    × (bit_and (attributes bytes) 0x7 ≡ 0) × (bit_and (attributes bytes) 0x10 ≡ 0)
    × (bit_and (attributes bytes) 0x20 ≢ 0)
IsFieldFault bytes HasProducer = (magic bytes ≡ pos 2) × (checksum bytes ≡ crc_of (checked_part bytes))
    × (bit_and (attributes bytes) 0x7 ≡ 0) × (bit_and (attributes bytes) 0x10 ≡ 0)
    × (bit_and (attributes bytes) 0x20 ≡ 0) × (producer_id bytes ≢ negsuc 0)
IsFieldFault bytes f = ⊥

-- which delta is due behind these records
abbrev pub next_due : ℤ → List Record → ℤ
next_due next [] = next
next_due next (r ∷ records) = next_due (r.offset_delta +ℤ pos 1) records

-- The delta that is due behind the records, or nothing where one of them didn't follow.
abbrev pub IsDue : Form → ℤ → List Record → Option ℤ → Type 0
IsDue form last records due = MatchOption due (Follow form last (pos 0) records → ⊥)
    (λ next. Follow form last (pos 0) records × (next ≡ next_due (pos 0) records))

-- What is due behind one more delta.
abbrev pub DueAfter : Form → ℤ → Option ℤ → ℤ → Option ℤ → Type 0
DueAfter form last None delta after = after ≡ None
DueAfter form last (Some next) delta after = MatchOption after (MayFollow form last next delta → ⊥)
    (λ n. MayFollow form last next delta × (n ≡ delta +ℤ pos 1))

-- All of the content is these records, and whether their deltas follow.
abbrev pub Walks : Form → ℤ → List ℕ → ℕ → Bool → Type 0
Walks form last content count follow = (records : List Record) × (length records ≡ count) × AreMany IsRecord content records
    × MatchBool follow (Follow form last (pos 0) records) (Follow form last (pos 0) records → ⊥)
