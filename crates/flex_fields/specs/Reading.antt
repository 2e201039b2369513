-- Reading fields from left to right: the value and what follows it, or the first fault with its place.
-- The fields are those of the Kafka protocol guide ("Protocol primitive types") in the flexible encoding (KIP-482).
-- Each function here is joined to the relation of `Grammar.antt` by the law `IsReader` of `Laws.antt`.
-- For example `ac 02` is 300, `80 00` is 0, and `ff ff ff ff 1f` is a bad number at 0.
use Rattle.std.specs.Prelude.{◌+◌, ◌-◌, ◌*◌, ◌/◌, ◌%◌, ℕ, ℤ, pos, negsuc, zero, suc, Bool, true, false, not, List, [], ◌∷◌, length, take}
use Rattle.std.specs.Prelude.{drop, slice_index_or, Option, Some, None, Result, Ok, Err, nat_lt, ◌==◌, if◌then◌else◌}
use Rattle.std.specs.Int.{Width, byte_len, from_be_bytes, cast_signed}
use Rattle.std.specs.Str.{is_utf8}
use Rattle.flex_fields.specs.declared.fault.WireFault.{WireFault}
use Rattle.flex_fields.specs.declared.fault.WireFault.TheVariants.{Short, BadVarint, BadLength, NotUtf8, Trailing}

-- a place, counted in bytes, and the bytes from there on
pub record At : Type 0 where
  pub place : ℕ
  pub left : List ℕ

-- n bytes on
abbrev pub past : ℕ → At → At
past n at = record { place = at.place + n; left = drop n at.left }

-- the first fault is the answer
infixl 10 ◌>>=◌
abbrev pub ◌>>=◌ : {A B : Type 0} → Result A WireFault → (A → Result B WireFault) → Result B WireFault
(Ok x) >>= f = f x
(Err e) >>= f = Err e

-- what a reader reads, seen by f
abbrev pub as_at : {A B : Type 0} → (A → B) → (At → Result (A × At) WireFault) → At → Result (B × At) WireFault
as_at f read at = do
  x ← read at
  Ok (f x.0, x.1)

-- so many bytes as they are
abbrev pub raw_at : ℕ → At → Result (List ℕ × At) WireFault
raw_at n at = if nat_lt (length at.left) n then Err (Short at.place) else Ok (take n at.left, past n at)

-- a signed number of this width, high byte first: ff fe is -2 in two bytes
abbrev pub int_at : Width → At → Result (ℤ × At) WireFault
int_at w at = if nat_lt (length at.left) (byte_len w) then Err (Short at.place)
    else Ok (cast_signed w (from_be_bytes w (take (byte_len w) at.left)), past (byte_len w) at)

-- 0 is false, and any other byte is true
abbrev pub bool_of : List ℕ → Bool
bool_of bytes = not (slice_index_or bytes 0 0 == 0)

unfoldable pub bool_at : At → Result (Bool × At) WireFault
bool_at at = as_at bool_of (raw_at 1) at

-- Groups of seven bits, of which `more` may follow the first; the last of those is at most `top`.
-- The number, and how many bytes it takes: ac 02 is 300 in two bytes.
unfoldable pub groups_at : ℕ → ℕ → ℕ → List ℕ → Result (ℕ × ℕ) WireFault
groups_at place top more [] = Err (Short place)
groups_at place top zero (b ∷ bytes) = if nat_lt top b then Err (BadVarint place) else Ok (b, 1)
groups_at place top (suc more) (b ∷ bytes) = if nat_lt b 128 then Ok (b, 1) else do
  high ← groups_at place top more bytes
  Ok ((b - 128) + 128 * high.0, high.1 + 1)

-- the least number above those that so many groups can hold
abbrev pub limit : ℕ → ℕ → ℕ
limit top zero = top + 1
limit top (suc more) = 128 * limit top more

-- an unsigned number below 2 ^ 32, in at most five bytes
unfoldable pub uvarint_at : At → Result (ℕ × At) WireFault
uvarint_at at = do
  n ← groups_at at.place 15 4 at.left
  Ok (n.0, past n.1 at)

-- an unsigned number below 2 ^ 64, in at most ten bytes
unfoldable pub long_uvarint_at : At → Result (ℕ × At) WireFault
long_uvarint_at at = do
  n ← groups_at at.place 1 9 at.left
  Ok (n.0, past n.1 at)

-- the signed number that a zigzag number stands for: 0, 1, 2, 3 stand for 0, -1, 1, -2
unfoldable pub unzigzag : ℕ → ℤ
unzigzag n = if n % 2 == 0 then pos (n / 2) else negsuc (n / 2)

unfoldable pub varint_at : At → Result (ℤ × At) WireFault
varint_at at = as_at unzigzag uvarint_at at

unfoldable pub varlong_at : At → Result (ℤ × At) WireFault
varlong_at at = as_at unzigzag long_uvarint_at at

-- a number that is one more than a length; what isn't there is the given fault
unfoldable pub len_at : WireFault → At → Result (ℕ × At) WireFault
len_at beyond at = do
  n ← uvarint_at at
  if n.0 == 0 then Err (BadLength at.place) else if nat_lt (length n.1.left) (n.0 - 1) then Err beyond else Ok (n.0 - 1, n.1)

-- a number of elements, of which each takes a byte at least
unfoldable pub array_len_at : At → Result (ℕ × At) WireFault
array_len_at at = len_at (BadLength at.place) at

-- a length and that many bytes
unfoldable pub bytes_at : At → Result (List ℕ × At) WireFault
bytes_at at = do
  n ← len_at (Short at.place) at
  Ok (take n.0 n.1.left, past n.0 n.1)

unfoldable pub str_at : At → Result (List ℕ × At) WireFault
str_at at = do
  bytes ← bytes_at at
  if is_utf8 bytes.0 then Ok bytes else Err (NotUtf8 at.place)

-- whether null stands there, which is the number 0; where it doesn't, nothing is taken
abbrev pub null_at : At → Result (Bool × At) WireFault
null_at at = do
  n ← uvarint_at at
  if n.0 == 0 then Ok (true, n.1) else Ok (false, at)

-- null, or what the reader reads
unfoldable pub nullable_at : {A : Type 0} → (At → Result (A × At) WireFault) → At → Result (Option A × At) WireFault
nullable_at read at = do
  n ← uvarint_at at
  if n.0 == 0 then Ok (None, n.1) else as_at Some read at

-- a tag, a size and that many bytes
unfoldable pub tag_at : At → Result At WireFault
tag_at at = do
  tag ← uvarint_at at
  size ← uvarint_at tag.1
  if nat_lt (length size.1.left) size.0 then Err (Short tag.1.place) else Ok (past size.0 size.1)

unfoldable pub some_tags_at : ℕ → At → Result At WireFault
some_tags_at zero at = Ok at
some_tags_at (suc n) at = do
  first ← tag_at at
  some_tags_at n first

-- a number of tags, and the tags, none of which says anything
unfoldable pub tags_at : At → Result At WireFault
tags_at at = do
  n ← uvarint_at at
  some_tags_at n.0 n.1

-- so many items, one after the other
unfoldable pub many_at : {A : Type 0} → (At → Result (A × At) WireFault) → ℕ → At → Result (List A × At) WireFault
many_at item zero at = Ok ([], at)
many_at item (suc n) at = do
  first ← item at
  others ← many_at item n first.1
  Ok (first.0 ∷ others.0, others.1)

unfoldable pub array_at : {A : Type 0} → (At → Result (A × At) WireFault) → At → Result (List A × At) WireFault
array_at item at = do
  n ← array_len_at at
  many_at item n.0 n.1

-- the one, and then the other
abbrev pub then_at : {A B : Type 0} → (At → Result (A × At) WireFault) → (At → Result (B × At) WireFault) → At → Result ((A × B) × At) WireFault
then_at first second at = do
  a ← first at
  b ← second a.1
  Ok ((a.0, b.0), b.1)

-- the fields of a structure, and its tags
abbrev pub tagged_at : {A : Type 0} → (At → Result (A × At) WireFault) → At → Result (A × At) WireFault
tagged_at fields at = do
  x ← fields at
  after ← tags_at x.1
  Ok (x.0, after)

-- all of the bytes
abbrev pub whole_at : {A : Type 0} → (At → Result (A × At) WireFault) → List ℕ → Result A WireFault
whole_at read bytes = do
  x ← read (record { place = 0; left = bytes })
  if length x.1.left == 0 then Ok x.0 else Err (Trailing x.1.place)
