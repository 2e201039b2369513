-- What is read of a record in front of bytes, so that its value's place can be told (Apache Kafka documentation, "Record"). The clauses of
-- private functions cite it, and no public one does.
--
-- Worked example: of 0e 00 00 04 01 02 63 00 are read the offset delta 2, the length 1, and 2 bytes behind that.
use Rattle.std.specs.Prelude.{ℕ, ℤ, List, length, Option, Some}
use Rattle.rec_batch.specs.declared.places.Pieces.{Pieces}
use Rattle.rec_batch.specs.Passing.{◌>>=◌, byte_in, nullable_in, split_in, varint_in, varlong_in}

-- the body of a record, and what follows the record
unfoldable pub parts_in : List ℕ → Option (List ℕ × List ℕ)
parts_in bytes = do
  n ← varint_in bytes
  split_in n.0 n.1

-- the offset delta of a body, and what stands from the value on
unfoldable pub delta_in : List ℕ → Option (ℤ × List ℕ)
delta_in bytes = do
  attributes ← byte_in bytes
  timestamp ← varlong_in attributes
  delta ← varint_in timestamp.1
  key ← nullable_in delta.1
  Some (delta.0, key)

unfoldable pub pieces_in : List ℕ → Option Pieces
pieces_in bytes = do
  parts ← parts_in bytes
  delta ← delta_in parts.0
  value ← varint_in delta.1
  Some (record { delta = delta.0; len = value.0; left = length value.1; behind = length parts.1 })
