-- A message is described once, as its schema: fields one after the other, structures and arrays of them, as Kafka's
-- message schemas have them (KIP-482 for the tags). From that follow which bytes stand for which value, what reading
-- gives, and which bytes are written.
-- For example the array of 1 and -1 is `03 00000001 ffffffff`.
use Rattle.std.specs.Prelude.{◌≡◌, ◌≤◌, ℕ, ℤ, Bool, List, ◌++◌, length, take, Option, Result, Ok, IfOk}
use Rattle.std.specs.Int.{w8, w16, w32, w64}
use Rattle.flex_fields.specs.declared.fault.WireFault.{WireFault}
use Rattle.flex_fields.specs.Reading.{At, ◌>>=◌, raw_at, int_at, bool_at, str_at, bytes_at, nullable_at, array_at, then_at, tagged_at}
use Rattle.flex_fields.specs.Reading.{as_at, whole_at}
use Rattle.flex_fields.specs.Grammar.{IsInt, IsRaw, IsBool, IsStr, IsSized, OrNull, IsArray, IsTags, Then, Tagged}
use Rattle.flex_fields.specs.Writing.{int_bytes, bool_bytes, sized_bytes, nullable_bytes, array_bytes, uvarint_bytes}
use Rattle.flex_fields.specs.Cursors.{Gives}
use Rattle.flex_fields.specs.Laws.{IsReader}
use Rattle.flex_fields.specs.Sound.Fields.{int8_reads, int16_reads, int32_reads, int64_reads, uuid_reads}
use Rattle.flex_fields.specs.Sound.Readers.{bool_reads, then_reads}
use Rattle.flex_fields.specs.Sound.Counted.{sized_reads, str_reads, null_str_reads, null_sized_reads, array_reads, null_array_reads, structure_reads}

pub record Format (A : Type 0) : Type 1 where
  -- the bytes stand for the value
  pub is : List ℕ → A → Type 0
  -- reading from left to right: the value and what follows it, or the first fault with its place
  pub read : At → Result (A × At) WireFault
  -- the one spelling that is written
  pub bytes : A → List ℕ
  -- what is read is just what stands there
  pub sound : IsReader is read

-- ---- fields

abbrev pub int8 : Format ℤ
int8 = record { is = IsInt w8; read = int_at w8; bytes = int_bytes w8; sound = int8_reads }

abbrev pub int16 : Format ℤ
int16 = record { is = IsInt w16; read = int_at w16; bytes = int_bytes w16; sound = int16_reads }

abbrev pub int32 : Format ℤ
int32 = record { is = IsInt w32; read = int_at w32; bytes = int_bytes w32; sound = int32_reads }

abbrev pub int64 : Format ℤ
int64 = record { is = IsInt w64; read = int_at w64; bytes = int_bytes w64; sound = int64_reads }

abbrev pub boolean : Format Bool
boolean = record { is = IsBool; read = bool_at; bytes = bool_bytes; sound = bool_reads }

abbrev pub uuid : Format (List ℕ)
uuid = record { is = IsRaw 16; read = raw_at 16; bytes = λ u. u; sound = uuid_reads }

abbrev pub string : Format (List ℕ)
string = record { is = IsStr; read = str_at; bytes = sized_bytes; sound = str_reads }

abbrev pub null_string : Format (Option (List ℕ))
null_string = record { is = OrNull IsStr; read = nullable_at str_at; bytes = nullable_bytes sized_bytes; sound = null_str_reads }

abbrev pub byte_string : Format (List ℕ)
byte_string = record { is = IsSized; read = bytes_at; bytes = sized_bytes; sound = sized_reads }

abbrev pub null_byte_string : Format (Option (List ℕ))
null_byte_string = record { is = OrNull IsSized; read = nullable_at bytes_at; bytes = nullable_bytes sized_bytes; sound = null_sized_reads }

-- ---- what is made of them

abbrev pub array : {A : Type 0} → Format A → Format (List A)
array f = record { is = IsArray f.is; read = array_at f.read; bytes = array_bytes f.bytes; sound = array_reads f.is f.read f.sound }

abbrev pub null_array : {A : Type 0} → Format A → Format (Option (List A))
null_array f = record {
  is = OrNull (IsArray f.is);
  read = nullable_at (array_at f.read);
  bytes = nullable_bytes (array_bytes f.bytes);
  sound = null_array_reads f.is f.read f.sound;
}

-- the one, and then the other
infixr 30 ◌▹◌
abbrev pub ◌▹◌ : {A B : Type 0} → Format A → Format B → Format (A × B)
f ▹ g = record {
  is = Then f.is g.is;
  read = then_at f.read g.read;
  bytes = λ x. f.bytes x.0 ++ g.bytes x.1;
  sound = then_reads f.is g.is f.read g.read f.sound g.sound;
}

-- a struct is its fields
pub record Shape (S T : Type 0) : Type 0 where
  pub make : T → S
  pub parts : S → T
  pub back : (s : S) → make (parts s) ≡ s
  pub there : (t : T) → parts (make t) ≡ t

-- fields in this order, and tags behind them, which are skipped and never written
abbrev pub structure : {S T : Type 0} → Shape S T → Format T → Format S
structure shape f = record {
  is = λ bytes s. Tagged f.is bytes (shape.parts s);
  read = as_at shape.make (tagged_at f.read);
  bytes = λ s. f.bytes (shape.parts s) ++ uvarint_bytes 0;
  sound = structure_reads shape.make shape.parts shape.back shape.there f.is f.read f.sound;
}

-- ---- what a call did

-- What reading the whole of the bytes answered: a value exactly where they stand for it, and otherwise the first fault.
pub record ReadsWhole {A : Type 0} (f : Format A) (bytes : List ℕ) (result : Result A WireFault) : Type 0 where
  pub found : IfOk result (λ x. f.is bytes x)
  pub only : (x : A) → f.is bytes x → Gives (λ x. x) result (Ok x)
  pub exact : Gives (λ x. x) result (whole_at f.read bytes)

-- a value from the front of the bytes, and its length
abbrev pub front_at : {A : Type 0} → (At → Result (A × At) WireFault) → List ℕ → Result (A × ℕ) WireFault
front_at read bytes = do
  x ← read (record { place = 0; left = bytes })
  Ok (x.0, x.1.place)

-- What reading from the front of the bytes answered: a value with its length exactly where a front stands for it, and
-- otherwise the first fault.
pub record ReadsFront {A : Type 0} (f : Format A) (bytes : List ℕ) (result : Result (A × ℕ) WireFault) : Type 0 where
  pub found : IfOk result (λ x. f.is (take x.1 bytes) x.0 × (x.1 ≤ length bytes))
  pub only : (x : A) (front rest : List ℕ) → bytes ≡ front ++ rest → f.is front x → Gives (λ y. y) result (Ok (x, length front))
  pub exact : Gives (λ y. y) result (front_at f.read bytes)

-- the one spelling of the value was appended, and it stands for the value again
pub record Writes {A : Type 0} (f : Format A) (old new : List ℕ) (x : A) : Type 0 where
  pub appended : new ≡ old ++ f.bytes x
  pub stands : f.is (f.bytes x) x

-- what was there stands, and anything may follow it
abbrev pub StartsWith : List ℕ → List ℕ → Type 0
StartsWith old new = take (length old) new ≡ old

-- the bytes are the one spelling of the value, and stand for it again
pub record IsSpelling {A : Type 0} (f : Format A) (x : A) (bytes : List ℕ) : Type 0 where
  pub spelled : bytes ≡ f.bytes x
  pub stands : f.is bytes x

-- the tags of a structure that has none
pub record WritesNoTags (old new : List ℕ) : Type 0 where
  pub appended : new ≡ old ++ uvarint_bytes 0
  pub stands : IsTags (uvarint_bytes 0)
