-- The one spelling that is written: the shortest, and no tags. The fields are those of the Kafka protocol guide
-- ("Protocol primitive types") in the flexible encoding (KIP-482).
-- For example 300 is `ac 02` and -1 is `01`.
use Rattle.std.specs.Int.{Width, to_be_bytes, cast_unsigned}
use Rattle.std.specs.List.{flat_map}
use Rattle.std.specs.Prelude.{ℤ, pos, negsuc, ℕ, zero, suc, ◌+◌, ◌*◌, ◌/◌, ◌%◌, Bool, List, [], ◌∷◌, ◌++◌, length, Option, Some, None}
use Rattle.std.specs.Prelude.{nat_lt, if◌then◌else◌}

-- a number in groups of seven bits, of which so many may follow the first: 300 is ac 02
unfoldable pub groups_of : ℕ → ℕ → List ℕ
groups_of zero n = n ∷ []
groups_of (suc more) n = if nat_lt n 128 then n ∷ [] else (n % 128 + 128) ∷ groups_of more (n / 128)

abbrev pub uvarint_bytes : ℕ → List ℕ
uvarint_bytes n = groups_of 4 n

-- the zigzag number of a signed one: 0, -1, 1, -2 have 0, 1, 2, 3
abbrev pub zigzag : ℤ → ℕ
zigzag (pos n) = 2 * n
zigzag (negsuc n) = 2 * n + 1

abbrev pub varint_bytes : ℤ → List ℕ
varint_bytes z = groups_of 4 (zigzag z)

abbrev pub varlong_bytes : ℤ → List ℕ
varlong_bytes z = groups_of 9 (zigzag z)

abbrev pub int_bytes : Width → ℤ → List ℕ
int_bytes w z = to_be_bytes w (cast_unsigned w z)

abbrev pub bool_bytes : Bool → List ℕ
bool_bytes b = (if b then 1 else 0) ∷ []

-- a length plus one, and that many bytes
abbrev pub sized_bytes : List ℕ → List ℕ
sized_bytes text = uvarint_bytes (length text + 1) ++ text

-- null is the number 0
abbrev pub nullable_bytes : {A : Type 0} → (A → List ℕ) → Option A → List ℕ
nullable_bytes f None = uvarint_bytes 0
nullable_bytes f (Some x) = f x

-- the number of elements plus one, and the elements
abbrev pub array_bytes : {A : Type 0} → (A → List ℕ) → List A → List ℕ
array_bytes f xs = uvarint_bytes (length xs + 1) ++ flat_map f xs

-- one tagged field behind the number of them: tag 2 with the bytes aa bb is 01 02 02 aa bb
abbrev pub one_tag_bytes : ℕ → List ℕ → List ℕ
one_tag_bytes tag inner = uvarint_bytes 1 ++ (uvarint_bytes tag ++ (uvarint_bytes (length inner) ++ inner))
