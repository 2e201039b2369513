-- The fixed fields of a record batch of version 2, each at its place, high byte first (Apache Kafka documentation,
-- "Record Batch"; the same layout is that of DefaultRecordBatch). Records follow from byte 61 on.
--
-- Worked example: in a batch of 85 bytes with the records a, b and c the length is 73, the last offset delta 2 and the
-- number of records 3.
use Rattle.std.specs.Prelude.{ℕ, ℤ, List, take, drop}
use Rattle.std.specs.Int.{Width, w8, w16, w32, w64, byte_len, from_be_bytes, cast_signed}

-- the number in so many bytes from a place on
abbrev pub unsigned_at : Width → ℕ → List ℕ → ℕ
unsigned_at w place bytes = from_be_bytes w (take (byte_len w) (drop place bytes))

-- the same in two's complement
abbrev pub signed_at : Width → ℕ → List ℕ → ℤ
signed_at w place bytes = cast_signed w (unsigned_at w place bytes)

abbrev pub base_offset : List ℕ → ℤ
base_offset = signed_at w64 0

-- the number of bytes behind this field
abbrev pub batch_length : List ℕ → ℤ
batch_length = signed_at w32 8

abbrev pub magic : List ℕ → ℤ
magic = signed_at w8 16

-- CRC-32C of the bytes from the attributes on
abbrev pub checksum : List ℕ → ℕ
checksum = unsigned_at w32 17

abbrev pub checked_part : List ℕ → List ℕ
checked_part = drop 21

-- bits 0 to 2 say how the records are compressed, bit 4 that the batch belongs to a transaction, bit 5 that it is a
-- control batch
abbrev pub attributes : List ℕ → ℕ
attributes = unsigned_at w16 21

abbrev pub last_offset_delta : List ℕ → ℤ
last_offset_delta = signed_at w32 23

abbrev pub producer_id : List ℕ → ℤ
producer_id = signed_at w64 43

abbrev pub record_count : List ℕ → ℤ
record_count = signed_at w32 57

abbrev pub records_part : List ℕ → List ℕ
records_part = drop 61
