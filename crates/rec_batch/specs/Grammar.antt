-- Which bytes stand for which record of a batch (Apache Kafka documentation, "Record" and "Record Header").
--
-- Worked example: 0e 00 00 04 01 02 63 00 is the record at offset delta 2 with no key and the value c.
use Rattle.std.specs.Prelude.{◌≡◌, ℕ, ℤ, pos, negsuc, List, ◌++◌, length, Option, Some, None}
use Rattle.std.specs.Int.{w8}
use Rattle.flex_fields.specs.Grammar.{IsInt, IsVarint, IsVarlong, Then, AreMany}

pub record Record : Type 0 where
  pub attributes : ℤ
  pub timestamp_delta : ℤ
  pub offset_delta : ℤ
  pub key : Option (List ℕ)
  pub value : Option (List ℕ)
  pub headers : List (List ℕ × Option (List ℕ))

-- their number, and the bytes
abbrev pub IsCounted : List ℕ → List ℕ → Type 0
IsCounted bytes content = (front : List ℕ) × IsVarint front (pos (length content)) × (bytes ≡ front ++ content)

-- the number -1 for null
abbrev pub IsNullable : List ℕ → Option (List ℕ) → Type 0
IsNullable bytes None = IsVarint bytes (negsuc 0)
IsNullable bytes (Some content) = IsCounted bytes content

-- their number, and the headers, each a key and a value
abbrev pub AreHeaders : List ℕ → List (List ℕ × Option (List ℕ)) → Type 0
AreHeaders bytes headers = (front rest : List ℕ) × IsVarint front (pos (length headers))
    × AreMany (Then IsCounted IsNullable) rest headers × (bytes ≡ front ++ rest)

-- what stands behind a record's length
abbrev pub IsBody : List ℕ → Record → Type 0
IsBody bytes r = Then (IsInt w8) (Then IsVarlong (Then IsVarint (Then IsNullable (Then IsNullable AreHeaders)))) bytes
    (r.attributes, (r.timestamp_delta, (r.offset_delta, (r.key, (r.value, r.headers)))))

-- the number of bytes of the body, and the body
abbrev pub IsRecord : List ℕ → Record → Type 0
IsRecord bytes r = (front body : List ℕ) × IsVarint front (pos (length body)) × IsBody body r × (bytes ≡ front ++ body)
