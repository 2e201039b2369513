-- Going past the parts of a record (Apache Kafka documentation, "Record"), from left to right: what is left behind a part,
-- or nothing where no such part stands in front. The relations of `Grammar.antt` say what the parts are. Of
-- what stands here a log reads the offset delta of a record (`record_in`), which the law `a_frame_is_one_batch` of `part_log` ties to the
-- grammar; the clauses of private functions cite the rest.
--
-- Worked example: 0e 00 00 04 01 02 63 00 is passed whole, with the offset delta 2.
use Rattle.std.specs.Prelude.{ℕ, ℤ, pos, negsuc, zero, suc, List, [], ◌∷◌, length, take, drop, Option, Some, None, Result, Ok, Err, nat_lt, ◌==◌, if◌then◌else◌}
use Rattle.flex_fields.specs.declared.fault.WireFault.{WireFault}
use Rattle.flex_fields.specs.Reading.{At, varint_at, varlong_at}

-- nothing, where a part is nothing
infixl 10 ◌>>=◌
abbrev pub ◌>>=◌ : {A B : Type 0} → Option A → (A → Option B) → Option B
None >>= f = None
(Some x) >>= f = f x

abbrev pub found_in : {A : Type 0} → Result (A × At) WireFault → Option (A × List ℕ)
found_in (Ok x) = Some (x.0, x.1.left)
found_in (Err e) = None

unfoldable pub varint_in : List ℕ → Option (ℤ × List ℕ)
varint_in bytes = found_in (varint_at (record { place = 0; left = bytes }))

unfoldable pub varlong_in : List ℕ → Option (ℤ × List ℕ)
varlong_in bytes = found_in (varlong_at (record { place = 0; left = bytes }))

unfoldable pub byte_in : List ℕ → Option (List ℕ)
byte_in [] = None
byte_in (b ∷ bytes) = Some bytes

-- so many bytes, and what follows them
unfoldable pub split_in : ℤ → List ℕ → Option (List ℕ × List ℕ)
split_in (pos n) bytes = if nat_lt (length bytes) n then None else Some (take n bytes, drop n bytes)
split_in (negsuc n) bytes = None

unfoldable pub counted_in : List ℕ → Option (List ℕ)
counted_in bytes = do
  n ← varint_in bytes
  parts ← split_in n.0 n.1
  Some parts.1

-- null, or so many bytes
unfoldable pub content_in : ℤ → List ℕ → Option (List ℕ)
content_in (pos n) bytes = do
  parts ← split_in (pos n) bytes
  Some parts.1
content_in (negsuc zero) bytes = Some bytes
content_in (negsuc (suc n)) bytes = None

unfoldable pub nullable_in : List ℕ → Option (List ℕ)
nullable_in bytes = do
  n ← varint_in bytes
  content_in n.0 n.1

unfoldable pub headers_in : ℕ → List ℕ → Option (List ℕ)
headers_in zero bytes = Some bytes
headers_in (suc n) bytes = do
  key ← counted_in bytes
  value ← nullable_in key
  headers_in n value

unfoldable pub some_headers_in : ℤ → List ℕ → Option (List ℕ)
some_headers_in (pos n) bytes = headers_in n bytes
some_headers_in (negsuc n) bytes = None

unfoldable pub all_headers_in : List ℕ → Option (List ℕ)
all_headers_in bytes = do
  n ← varint_in bytes
  some_headers_in n.0 n.1

-- the offset delta of a body that is all of the bytes
unfoldable pub body_in : List ℕ → Option ℤ
body_in bytes = do
  attributes ← byte_in bytes
  timestamp ← varlong_in attributes
  delta ← varint_in timestamp.1
  key ← nullable_in delta.1
  value ← nullable_in key
  headers ← all_headers_in value
  if length headers == 0 then Some delta.0 else None

-- the offset delta of a record in front, and what follows it
unfoldable pub record_in : List ℕ → Option (ℤ × List ℕ)
record_in bytes = do
  n ← varint_in bytes
  parts ← split_in n.0 n.1
  delta ← body_in parts.0
  Some (delta, parts.1)
