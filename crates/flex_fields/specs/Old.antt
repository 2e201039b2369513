-- The fields of the older, inflexible messages ("STRING", "NULLABLE_STRING", "BYTES", "NULLABLE_BYTES" and "ARRAY" of the
-- Kafka protocol guide): a length or a number of elements is a signed number of two or four bytes, and null is -1.
-- For example `0002 6731` is the string g1, `ffff` is null, and `00000001 0012 0003 0003` is an array of one entry.
use Rattle.std.specs.Prelude.{◌≡◌, ℕ, ℤ, pos, negsuc, Bool, true, false, List, ◌++◌, length, take, Option, Some, None, Result, Ok, Err}
use Rattle.std.specs.Prelude.{nat_lt, if◌then◌else◌}
use Rattle.std.specs.Int.{Width, w16, w32}
use Rattle.std.specs.Ordering.{int_eq}
use Rattle.std.specs.List.{flat_map}
use Rattle.std.specs.Str.{is_utf8}
use Rattle.flex_fields.specs.declared.fault.WireFault.{WireFault}
use Rattle.flex_fields.specs.declared.fault.WireFault.TheVariants.{Short, BadLength, NotUtf8}
use Rattle.flex_fields.specs.Reading.{At, past, ◌>>=◌, as_at, int_at, many_at}
use Rattle.flex_fields.specs.Grammar.{IsInt, AreMany}
use Rattle.flex_fields.specs.Writing.{int_bytes}

-- ---- which bytes stand for a value

-- a length of this width, and that many bytes
abbrev pub IsOldSized : Width → List ℕ → List ℕ → Type 0
IsOldSized w bytes text = (front : List ℕ) × IsInt w front (pos (length text)) × (bytes ≡ front ++ text)

-- a string in UTF-8: 00 02 67 31 is "g1"
abbrev pub IsOldStr : List ℕ → List ℕ → Type 0
IsOldStr bytes text = IsOldSized w16 bytes text × (is_utf8 text ≡ true)

-- a number of elements in four bytes, and the elements
abbrev pub IsCounted : {A : Type 0} → (List ℕ → A → Type 0) → List ℕ → List A → Type 0
IsCounted P bytes xs = (front rest : List ℕ) × IsInt w32 front (pos (length xs)) × AreMany P rest xs × (bytes ≡ front ++ rest)

-- null stands as the length -1
abbrev pub OrMinus : {A : Type 0} → Width → (List ℕ → A → Type 0) → List ℕ → Option A → Type 0
OrMinus w P bytes None = IsInt w bytes (negsuc 0)
OrMinus w P bytes (Some x) = P bytes x

-- ---- reading from left to right

-- so many bytes, of which the length stood at this place
abbrev pub behind_len : ℕ → ℤ → At → Result (List ℕ × At) WireFault
behind_len place (pos n) at = if nat_lt (length at.left) n then Err (Short place) else Ok (take n at.left, past n at)
behind_len place (negsuc n) at = Err (BadLength place)

unfoldable pub old_bytes_at : Width → At → Result (List ℕ × At) WireFault
old_bytes_at w at = do
  n ← int_at w at
  behind_len at.place n.0 n.1

unfoldable pub old_str_at : At → Result (List ℕ × At) WireFault
old_str_at at = do
  bytes ← old_bytes_at w16 at
  if is_utf8 bytes.0 then Ok bytes else Err (NotUtf8 at.place)

-- a number of elements, which isn't negative and not above the number of bytes left
abbrev pub count_behind : ℕ → ℤ → At → Result (ℕ × At) WireFault
count_behind place (pos n) at = if nat_lt (length at.left) n then Err (BadLength place) else Ok (n, at)
count_behind place (negsuc n) at = Err (BadLength place)

unfoldable pub old_count_at : At → Result (ℕ × At) WireFault
old_count_at at = do
  n ← int_at w32 at
  count_behind at.place n.0 n.1

unfoldable pub counted_at : {A : Type 0} → (At → Result (A × At) WireFault) → At → Result (List A × At) WireFault
counted_at item at = do
  n ← old_count_at at
  many_at item n.0 n.1

-- whether null stands there, which is the length -1; where it doesn't, nothing is taken
abbrev pub old_null_at : Width → At → Result (Bool × At) WireFault
old_null_at w at = do
  n ← int_at w at
  if int_eq n.0 (negsuc 0) then Ok (true, n.1) else Ok (false, at)

-- null, or what the reader reads
unfoldable pub unless_minus_at : {A : Type 0} → Width → (At → Result (A × At) WireFault) → At → Result (Option A × At) WireFault
unless_minus_at w read at = do
  n ← int_at w at
  if int_eq n.0 (negsuc 0) then Ok (None, n.1) else as_at Some read at

-- ---- the one spelling

abbrev pub old_sized_bytes : Width → List ℕ → List ℕ
old_sized_bytes w text = int_bytes w (pos (length text)) ++ text

abbrev pub counted_bytes : {A : Type 0} → (A → List ℕ) → List A → List ℕ
counted_bytes f xs = int_bytes w32 (pos (length xs)) ++ flat_map f xs

abbrev pub or_minus_bytes : {A : Type 0} → Width → (A → List ℕ) → Option A → List ℕ
or_minus_bytes w f None = int_bytes w (negsuc 0)
or_minus_bytes w f (Some x) = f x
