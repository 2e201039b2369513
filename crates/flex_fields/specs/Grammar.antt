-- Which bytes stand for which values: the fields of the Kafka protocol guide ("Protocol primitive types") in the
-- flexible encoding (KIP-482). Numbers have their high byte first; a variable-length number its low group.
-- For example `ff fe` is -2 in two bytes, and the variable-length number `01` is -1.
use Rattle.std.specs.Prelude.{◌≡◌, ◌<◌, ◌≤◌, ◌+◌, ◌*◌, ◌^◌, ℕ, ℤ, zero, suc, Bool, List, [], ◌∷◌, ◌++◌, length, true, slice_index, Option, Some, None}
use Rattle.std.specs.Int.{Width, byte_len, from_be_bytes, cast_signed}
use Rattle.std.specs.Str.{is_utf8}
use Rattle.flex_fields.specs.Reading.{bool_of, unzigzag}

-- each number is a byte
abbrev pub IsBytes : List ℕ → Type 0
IsBytes bytes = (i : ℕ) → slice_index bytes i < 256

-- what stands for an x stands for f x
abbrev pub As : {A B : Type 0} → (A → B) → (List ℕ → A → Type 0) → List ℕ → B → Type 0
As {A} f P bytes y = (x : A) × P bytes x × (f x ≡ y)

-- a signed number in two's complement: ff fe is -2 in two bytes
abbrev pub IsInt : Width → List ℕ → ℤ → Type 0
IsInt w bytes z = (length bytes ≡ byte_len w) × (z ≡ cast_signed w (from_be_bytes w bytes))

-- so many bytes as they are, as the sixteen of a uuid
abbrev pub IsRaw : ℕ → List ℕ → List ℕ → Type 0
IsRaw n bytes x = (length bytes ≡ n) × (x ≡ bytes)

-- 00 is false, and any other byte is true
abbrev pub IsBool : List ℕ → Bool → Type 0
IsBool = As bool_of (IsRaw 1)

-- groups of seven bits, the low one first, with the top bit set on all bytes but the last: ac 02 is 300
abbrev pub IsGroups : List ℕ → ℕ → Type 0
IsGroups [] n = ⊥
IsGroups (b ∷ []) n = (b < 128) × (n ≡ b)
IsGroups (b ∷ c ∷ bytes) n = (128 ≤ b) × (high : ℕ) × (n + 128 ≡ b + 128 * high) × IsGroups (c ∷ bytes) high

-- an unsigned number below 2 ^ 32, also where a shorter spelling is there: 80 00 is 0
abbrev pub IsUvarint : List ℕ → ℕ → Type 0
IsUvarint bytes n = IsGroups bytes n × (length bytes ≤ 5) × (n < 2 ^ 32)

abbrev pub IsLongUvarint : List ℕ → ℕ → Type 0
IsLongUvarint bytes n = IsGroups bytes n × (length bytes ≤ 10) × (n < 2 ^ 64)

-- signed numbers, zigzag: 01 is -1, and 02 is 1
abbrev pub IsVarint : List ℕ → ℤ → Type 0
IsVarint = As unzigzag IsUvarint

abbrev pub IsVarlong : List ℕ → ℤ → Type 0
IsVarlong = As unzigzag IsLongUvarint

-- a length plus one, and that many bytes
abbrev pub IsSized : List ℕ → List ℕ → Type 0
IsSized bytes text = (front : List ℕ) × IsUvarint front (length text + 1) × (bytes ≡ front ++ text)

-- a string in UTF-8: 03 67 31 is "g1"
abbrev pub IsStr : List ℕ → List ℕ → Type 0
IsStr bytes text = IsSized bytes text × (is_utf8 text ≡ true)

-- null stands as the number 0
abbrev pub OrNull : {A : Type 0} → (List ℕ → A → Type 0) → List ℕ → Option A → Type 0
OrNull P bytes None = IsUvarint bytes 0
OrNull P bytes (Some x) = P bytes x

-- a tag, a size and that many bytes
abbrev pub IsTag : List ℕ → Type 0
IsTag bytes = (first second inner : List ℕ) × (tag : ℕ) × IsUvarint first tag × IsUvarint second (length inner) × (bytes ≡ first ++ (second ++ inner))

abbrev pub AreTags : ℕ → List ℕ → Type 0
AreTags zero bytes = bytes ≡ []
AreTags (suc n) bytes = (first rest : List ℕ) × IsTag first × AreTags n rest × (bytes ≡ first ++ rest)

-- a number of tags, and the tags
abbrev pub IsTags : List ℕ → Type 0
IsTags bytes = (front rest : List ℕ) × (n : ℕ) × IsUvarint front n × AreTags n rest × (bytes ≡ front ++ rest)

-- the one, and then the other
abbrev pub Then : {A B : Type 0} → (List ℕ → A → Type 0) → (List ℕ → B → Type 0) → List ℕ → A × B → Type 0
Then P Q bytes x = (first second : List ℕ) × P first x.0 × Q second x.1 × (bytes ≡ first ++ second)

-- the fields of a structure, and its tags
abbrev pub Tagged : {A : Type 0} → (List ℕ → A → Type 0) → List ℕ → A → Type 0
Tagged P bytes x = (first second : List ℕ) × P first x × IsTags second × (bytes ≡ first ++ second)

-- one after the other
abbrev pub AreMany : {A : Type 0} → (List ℕ → A → Type 0) → List ℕ → List A → Type 0
AreMany P bytes [] = bytes ≡ []
AreMany P bytes (x ∷ xs) = (first rest : List ℕ) × P first x × AreMany P rest xs × (bytes ≡ first ++ rest)

-- a number of elements plus one, and the elements
abbrev pub IsArray : {A : Type 0} → (List ℕ → A → Type 0) → List ℕ → List A → Type 0
IsArray P bytes xs = (front rest : List ℕ) × IsUvarint front (length xs + 1) × AreMany P rest xs × (bytes ≡ front ++ rest)
