-- Texts as the elements of an array are spelled, one after another (KIP-482, "COMPACT_ARRAY" and "COMPACT_STRING" of the Kafka
-- protocol guide), and how they are kept so (this project's own).
-- For example the texts `g1` and the empty one are spelled `03 67 31 01`.
use Rattle.std.specs.Prelude.{◌≡◌, ◌+◌, ◌<◌, ◌^◌, ℕ, List, [], ◌++◌, length, All, Result, Ok, Err}
use Rattle.std.specs.List.{flat_map}
use Rattle.std.specs.Str.{IsUtf8}
use Rattle.flex_fields.specs.declared.fault.WireFault.{WireFault}
use Rattle.flex_fields.specs.Reading.{At, str_at, many_at}
use Rattle.flex_fields.specs.Formats.{string}

-- what a string of a message can say
abbrev pub IsText : List ℕ → Type 0
IsText text = (length text + 1 < 2 ^ 32) × IsUtf8 text

-- each text, and behind each the same bytes
abbrev pub spelled_before : List ℕ → List (List ℕ) → List ℕ
spelled_before behind texts = flat_map (λ (text : List ℕ). string.bytes text ++ behind) texts

-- ---- as they are kept

abbrev pub texts_read : Result (List (List ℕ) × At) WireFault → List (List ℕ)
texts_read (Ok x) = x.0
texts_read (Err f) = []

-- the texts that so many strings at the front of the bytes say
abbrev pub texts_in : ℕ → List ℕ → List (List ℕ)
texts_in count bytes = texts_read (many_at str_at count (record { place = 0; left = bytes }))

-- the bytes are the one spelling of these texts, and nothing more
pub record AreSpelled (count : ℕ) (bytes : List ℕ) (texts : List (List ℕ)) : Type 0 where
  pub spelled : bytes ≡ flat_map string.bytes texts
  pub each : All IsText texts
  pub counted : length texts ≡ count

-- fewer than 2^32 - 1, as every array of a message has
abbrev pub AreKept : ℕ → List ℕ → Type 0
AreKept count bytes = AreSpelled count bytes (texts_in count bytes) × (count + 1 < 2 ^ 32)
