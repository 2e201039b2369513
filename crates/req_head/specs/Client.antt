-- The client id of a request header: two bytes of length and the string, or -1 for null. Kafka keeps it in the
-- form of the older, inflexible messages ("NULLABLE_STRING" of the protocol guide, RequestHeader.json).
-- For example `ff ff` is null and `00 02 67 31` is `g1`.
use Rattle.std.specs.Prelude.{◌≡◌, ℕ, ℤ, pos, negsuc, zero, suc, true, List, ◌++◌, length, take, Option, Some, None, Result, Ok, Err}
use Rattle.std.specs.Prelude.{nat_lt, if◌then◌else◌}
use Rattle.std.specs.Int.{w16}
use Rattle.std.specs.Str.{is_utf8}
use Rattle.flex_fields.specs.declared.fault.WireFault.{WireFault}
use Rattle.flex_fields.specs.declared.fault.WireFault.TheVariants.{Short, BadLength, NotUtf8}
use Rattle.flex_fields.specs.Reading.{At, past, ◌>>=◌, int_at}
use Rattle.flex_fields.specs.Grammar.{IsInt}
use Rattle.flex_fields.specs.Writing.{int_bytes}

-- ff ff is null, and 00 02 67 31 is "g1"
abbrev pub IsClient : List ℕ → Option (List ℕ) → Type 0
IsClient bytes None = IsInt w16 bytes (negsuc 0)
IsClient bytes (Some text) = (front : List ℕ) × IsInt w16 front (pos (length text)) × (is_utf8 text ≡ true) × (bytes ≡ front ++ text)

abbrev pub string_at : ℕ → ℕ → At → Result (Option (List ℕ) × At) WireFault
string_at place n at = if nat_lt (length at.left) n then Err (Short place) else if is_utf8 (take n at.left)
    then Ok (Some (take n at.left), past n at) else Err (NotUtf8 place)

-- what stands behind this length
abbrev pub behind_length : ℕ → ℤ → At → Result (Option (List ℕ) × At) WireFault
behind_length place (pos n) at = string_at place n at
behind_length place (negsuc zero) at = Ok (None, at)
behind_length place (negsuc (suc n)) at = Err (BadLength place)

unfoldable pub client_at : At → Result (Option (List ℕ) × At) WireFault
client_at at = do
  n ← int_at w16 at
  behind_length at.place n.0 n.1

abbrev pub client_bytes : Option (List ℕ) → List ℕ
client_bytes None = int_bytes w16 (negsuc 0)
client_bytes (Some text) = int_bytes w16 (pos (length text)) ++ text
