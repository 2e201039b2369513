-- The one spelling of a batch that is written: its offsets count up from 0, and all that it doesn't say is 0 or -1. The
-- layout is Kafka's (Apache Kafka documentation, "Record Batch" and "Record"); these values are this project's own.
--
-- Worked example: the records a, b and c without keys are written in 85 bytes.
use Rattle.std.specs.Prelude.{ℕ, pos, negsuc, ◌+◌, ◌-◌, List, [], ◌∷◌, ◌++◌, length, Option, Some, None}
use Rattle.std.specs.Int.{w8, w16, w32, w64, to_be_bytes}
use Rattle.flex_fields.specs.Writing.{int_bytes, varint_bytes, varlong_bytes}
use Rattle.crc_castagnoli.specs.Division.{crc_of}
use Rattle.rec_batch.specs.declared.rec.Rec.{Rec}
use Rattle.rec_batch.specs.Grammar.{Record}

-- what the record at this offset delta holds
abbrev pub record_of : ℕ → Rec → Record
record_of delta r =
    record { attributes = pos 0; timestamp_delta = pos 0; offset_delta = pos delta; key = r.key; value = r.value; headers = [] }

abbrev pub records_from : ℕ → List Rec → List Record
records_from delta [] = []
records_from delta (r ∷ records) = record_of delta r ∷ records_from (delta + 1) records

-- the number -1, or a number of bytes and the bytes
unfoldable pub nullable_bytes : Option (List ℕ) → List ℕ
nullable_bytes None = varint_bytes (negsuc 0)
nullable_bytes (Some content) = varint_bytes (pos (length content)) ++ content

unfoldable pub body_bytes : ℕ → Rec → List ℕ
body_bytes delta r = int_bytes w8 (pos 0) ++ (varlong_bytes (pos 0) ++ (varint_bytes (pos delta)
    ++ (nullable_bytes r.key ++ (nullable_bytes r.value ++ varint_bytes (pos 0)))))

unfoldable pub record_bytes : ℕ → Rec → List ℕ
record_bytes delta r = varint_bytes (pos (length (body_bytes delta r))) ++ body_bytes delta r

unfoldable pub records_bytes : ℕ → List Rec → List ℕ
records_bytes delta [] = []
records_bytes delta (r ∷ records) = record_bytes delta r ++ records_bytes (delta + 1) records

-- From the attributes on: the last offset delta, two timestamps, the producer's id, its epoch, the first sequence number,
-- and the number of records.
unfoldable pub checked_bytes : List Rec → List ℕ
checked_bytes records = int_bytes w16 (pos 0) ++ (int_bytes w32 (pos (length records - 1))
    ++ (int_bytes w64 (pos 0) ++ (int_bytes w64 (pos 0) ++ (int_bytes w64 (negsuc 0) ++ (int_bytes w16 (negsuc 0)
    ++ (int_bytes w32 (negsuc 0) ++ (int_bytes w32 (pos (length records)) ++ records_bytes 0 records)))))))

-- base offset, length, leader epoch, magic and checksum, and what the checksum is over
unfoldable pub batch_bytes : List Rec → List ℕ
batch_bytes records = let checked = checked_bytes records in
    int_bytes w64 (pos 0) ++ (int_bytes w32 (pos (9 + length checked)) ++ (int_bytes w32 (pos 0)
    ++ (int_bytes w8 (pos 2) ++ (to_be_bytes w32 (crc_of checked) ++ checked))))
