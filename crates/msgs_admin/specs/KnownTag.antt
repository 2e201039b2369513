-- The tags that end a structure where the reader knows one of them (KIP-482): their number, and each with its tag, its size and so many
-- bytes. The others are skipped. Where the known one isn't there its field is null, and where it stands twice the last counts.
-- For example with the known tag 10000 `01 00 01 aa` says null, and `01 904e 19` says what the 25 bytes behind it say.
use Rattle.std.specs.Prelude.{◌≡◌, ◌+◌, ℕ, zero, suc, true, false, List, [], ◌++◌, length, Option, Some, None, Result, Ok, Err}
use Rattle.std.specs.Prelude.{nat_lt, ◌==◌, if◌then◌else◌}
use Rattle.std.specs.Option.{option_or}
use Rattle.flex_fields.specs.declared.fault.WireFault.{WireFault}
use Rattle.flex_fields.specs.declared.fault.WireFault.TheVariants.{Short, BadLength}
use Rattle.flex_fields.specs.Reading.{At, past, ◌>>=◌, as_at, uvarint_at}
use Rattle.flex_fields.specs.Grammar.{IsUvarint}
use Rattle.flex_fields.specs.Writing.{uvarint_bytes, one_tag_bytes}

-- ---- which bytes stand for what

-- what the bytes of one tag say: a field where the tag is the known one
abbrev pub Says : {A : Type 0} → ℕ → (List ℕ → A → Type 0) → ℕ → List ℕ → Option A → Type 0
Says known P tag inner None = tag == known ≡ false
Says known P tag inner (Some x) = (tag == known ≡ true) × P inner x

-- a tag, a size and so many bytes
abbrev pub IsKnownTag : {A : Type 0} → ℕ → (List ℕ → A → Type 0) → List ℕ → Option A → Type 0
IsKnownTag known P bytes x = (first second inner : List ℕ) × (tag : ℕ)
    × IsUvarint first tag × IsUvarint second (length inner) × Says known P tag inner x × (bytes ≡ first ++ (second ++ inner))

-- so many tags, behind those that said a field
abbrev pub AreKnownTags : {A : Type 0} → ℕ → (List ℕ → A → Type 0) → Option A → ℕ → List ℕ → Option A → Type 0
AreKnownTags known P said zero bytes x = (bytes ≡ []) × (x ≡ said)
AreKnownTags {A} known P said (suc n) bytes x = (one : Option A) × (first rest : List ℕ)
    × IsKnownTag known P first one × AreKnownTags known P (option_or one said) n rest x × (bytes ≡ first ++ rest)

-- a number of tags, and the tags
abbrev pub IsKnownTags : {A : Type 0} → ℕ → (List ℕ → A → Type 0) → List ℕ → Option A → Type 0
IsKnownTags known P bytes x = (front rest : List ℕ) × (n : ℕ) × IsUvarint front n × AreKnownTags known P None n rest x × (bytes ≡ front ++ rest)

-- ---- reading

-- what a reader reads, which has so many bytes; a size that isn't its own is a bad length at the place of the size
abbrev pub sized_at : {A : Type 0} → ℕ → ℕ → (At → Result (A × At) WireFault) → At → Result (A × At) WireFault
sized_at place size read at = do
  x ← read at
  if x.1.place == at.place + size then Ok x else Err (BadLength place)

unfoldable pub known_tag_at : {A : Type 0} → ℕ → (At → Result (A × At) WireFault) → At → Result (Option A × At) WireFault
known_tag_at known read at = do
  tag ← uvarint_at at
  size ← uvarint_at tag.1
  if nat_lt (length size.1.left) size.0 then Err (Short tag.1.place)
      else if tag.0 == known then as_at Some (sized_at tag.1.place size.0 read) size.1 else Ok (None, past size.0 size.1)

-- so many tags, behind those that said a field
unfoldable pub known_from_at : {A : Type 0} → ℕ → (At → Result (A × At) WireFault) → Option A → ℕ → At → Result (Option A × At) WireFault
known_from_at known read said zero at = Ok (said, at)
known_from_at known read said (suc n) at = do
  one ← known_tag_at known read at
  known_from_at known read (option_or one.0 said) n one.1

unfoldable pub known_tags_at : {A : Type 0} → ℕ → (At → Result (A × At) WireFault) → At → Result (Option A × At) WireFault
known_tags_at known read at = do
  n ← uvarint_at at
  known_from_at known read None n.0 n.1

-- ---- writing

-- the known tag alone, or none
abbrev pub known_tags_bytes : {A : Type 0} → ℕ → (A → List ℕ) → Option A → List ℕ
known_tags_bytes known f None = uvarint_bytes 0
known_tags_bytes known f (Some x) = one_tag_bytes known (f x)
