-- A message with several versions is described once, by a schema that takes the version: each field with the versions that it
-- stands in, as Kafka's message schemas have it ("versions": "3+" or "8-10"), and its default in the others. From the first
-- flexible version on its fields and structures have the flexible encoding (KIP-482), and before it the older one.
-- For example with `since 3 v (pos 0) (simply int32)` in front the bytes `00000005` say 5 in version 3, and nothing stands
-- there in version 2, which says 0.
use Rattle.std.specs.Prelude.{◌≡◌, ◌+◌, ◌<◌, ℕ, pos, negsuc, Bool, true, false, ◌&&◌, ◌||◌, nat_le, List, [], ◌++◌, length, map, Option, Result}
use Rattle.std.specs.Option.{option_map}
use Rattle.std.specs.Int.{w16, w32}
use Rattle.flex_fields.specs.declared.fault.WireFault.{WireFault}
use Rattle.flex_fields.specs.declared.version.Version.{Version}
use Rattle.flex_fields.specs.Reading.{At, as_at, then_at}
use Rattle.flex_fields.specs.Grammar.{IsInt, IsUvarint, Then}
use Rattle.flex_fields.specs.Writing.{int_bytes, uvarint_bytes}
use Rattle.flex_fields.specs.Formats.{Format, Shape, string, null_string, byte_string, null_byte_string, array, null_array}
use Rattle.flex_fields.specs.Old.{IsOldSized, IsOldStr, IsCounted, OrMinus, old_bytes_at, old_str_at, counted_at, unless_minus_at}
use Rattle.flex_fields.specs.Old.{old_sized_bytes, counted_bytes, or_minus_bytes}
use Rattle.flex_fields.specs.Sound.Old.{old_str_reads, old_null_str_reads, old_byte_string_reads, old_null_byte_string_reads, counted_reads, null_counted_reads}
use Rattle.flex_fields.specs.Sound.Parts.{IsPart, IsEnd, Ended, IsWhere, ended_at, where_at, reader_part, then_part, pair_some, where_part, not_solid, ended_reads}

-- ---- fields of both encodings

abbrev pub old_string : Format (List ℕ)
old_string = record { is = IsOldStr; read = old_str_at; bytes = old_sized_bytes w16; sound = old_str_reads }

abbrev pub old_null_string : Format (Option (List ℕ))
old_null_string = record { is = OrMinus w16 IsOldStr; read = unless_minus_at w16 old_str_at; bytes = or_minus_bytes w16 (old_sized_bytes w16); sound = old_null_str_reads }

abbrev pub old_byte_string : Format (List ℕ)
old_byte_string = record { is = IsOldSized w32; read = old_bytes_at w32; bytes = old_sized_bytes w32; sound = old_byte_string_reads }

abbrev pub old_null_byte_string : Format (Option (List ℕ))
old_null_byte_string = record {
  is = OrMinus w32 (IsOldSized w32);
  read = unless_minus_at w32 (old_bytes_at w32);
  bytes = or_minus_bytes w32 (old_sized_bytes w32);
  sound = old_null_byte_string_reads;
}

abbrev pub counted : {A : Type 0} → Format A → Format (List A)
counted f = record { is = IsCounted f.is; read = counted_at f.read; bytes = counted_bytes f.bytes; sound = counted_reads f.is f.read f.sound }

abbrev pub null_counted : {A : Type 0} → Format A → Format (Option (List A))
null_counted f = record {
  is = OrMinus w32 (IsCounted f.is);
  read = unless_minus_at w32 (counted_at f.read);
  bytes = or_minus_bytes w32 (counted_bytes f.bytes);
  sound = null_counted_reads f.is f.read f.sound;
}

abbrev pub string_by : Bool → Format (List ℕ)
string_by true = string
string_by false = old_string

abbrev pub null_string_by : Bool → Format (Option (List ℕ))
null_string_by true = null_string
null_string_by false = old_null_string

abbrev pub byte_string_by : Bool → Format (List ℕ)
byte_string_by true = byte_string
byte_string_by false = old_byte_string

abbrev pub null_byte_string_by : Bool → Format (Option (List ℕ))
null_byte_string_by true = null_byte_string
null_byte_string_by false = old_null_byte_string

abbrev pub array_by : {A : Type 0} → Bool → Format A → Format (List A)
array_by true f = array f
array_by false f = counted f

abbrev pub null_array_by : {A : Type 0} → Bool → Format A → Format (Option (List A))
null_array_by true f = null_array f
null_array_by false f = null_counted f

-- ---- schemas

-- a value as one version has it: which bytes say it, and what they tell of a value that says more
pub record Schema (A : Type 0) : Type 1 where
  pub format : Format A
  pub told : A → A

abbrev pub simply : {A : Type 0} → Format A → Schema A
simply f = record { format = f; told = λ x. x }

abbrev pub text : Version → Schema (List ℕ)
text v = simply (string_by v.flexible)

abbrev pub null_text : Version → Schema (Option (List ℕ))
null_text v = simply (null_string_by v.flexible)

abbrev pub octets : Version → Schema (List ℕ)
octets v = simply (byte_string_by v.flexible)

abbrev pub null_octets : Version → Schema (Option (List ℕ))
null_octets v = simply (null_byte_string_by v.flexible)

abbrev pub array_of : {A : Type 0} → Version → Schema A → Schema (List A)
array_of v s = record { format = array_by v.flexible s.format; told = map s.told }

abbrev pub null_array_of : {A : Type 0} → Version → Schema A → Schema (Option (List A))
null_array_of v s = record { format = null_array_by v.flexible s.format; told = option_map (map s.told) }

-- ---- fields, some of which stand in some versions alone

-- `solid` says that at least one byte stands for it
pub record Field (A : Type 0) : Type 1 where
  pub is : List ℕ → A → Type 0
  pub read : At → Result (A × At) WireFault
  pub bytes : A → List ℕ
  pub told : A → A
  pub sound : IsPart is read
  pub solid : Bool
  pub some : solid ≡ true → (front : List ℕ) (x : A) → is front x → 0 < length front

-- it stands in each version
abbrev pub always : {A : Type 0} → Schema A → Field A
always s = record {
  is = s.format.is;
  read = s.format.read;
  bytes = s.format.bytes;
  told = s.told;
  sound = reader_part s.format.sound;
  solid = true;
  some = λ _. s.format.sound.some;
}

abbrev pub where_bytes : {A : Type 0} → Bool → (A → List ℕ) → A → List ℕ
where_bytes true f x = f x
where_bytes false f x = []

abbrev pub where_told : {A : Type 0} → Bool → A → (A → A) → A → A
where_told true absent f x = f x
where_told false absent f x = absent

-- it stands where this is true, and else its value is this one
abbrev pub stands_where : {A : Type 0} → Bool → A → Schema A → Field A
stands_where there absent s = record {
  is = IsWhere there absent s.format.is;
  read = where_at there absent s.format.read;
  bytes = where_bytes there s.format.bytes;
  told = where_told there absent s.told;
  sound = where_part there absent s.format.is s.format.read s.format.sound;
  solid = false;
  some = not_solid (IsWhere there absent s.format.is);
}

abbrev pub is_since : ℕ → Version → Bool
is_since first v = nat_le first v.number

abbrev pub is_between : ℕ → ℕ → Version → Bool
is_between first last v = nat_le first v.number && nat_le v.number last

-- from this version on
abbrev pub since : {A : Type 0} → ℕ → Version → A → Schema A → Field A
since first v absent s = stands_where (is_since first v) absent s

-- from the one version to the other
abbrev pub between : {A : Type 0} → ℕ → ℕ → Version → A → Schema A → Field A
between first last v absent s = stands_where (is_between first last v) absent s

-- the one, and then the other
infixr 30 ◌▷◌
abbrev pub ◌▷◌ : {A B : Type 0} → Field A → Field B → Field (A × B)
f ▷ g = record {
  is = Then f.is g.is;
  read = then_at f.read g.read;
  bytes = λ x. f.bytes x.0 ++ g.bytes x.1;
  told = λ x. (f.told x.0, g.told x.1);
  sound = then_part f.is g.is f.read g.read f.sound g.sound;
  solid = f.solid || g.solid;
  some = pair_some f.is g.is f.solid g.solid f.some g.some;
}

abbrev pub end_bytes : Bool → List ℕ
end_bytes true = uvarint_bytes 0
end_bytes false = []

-- Fields in this order. Tags end a flexible structure; they are skipped, and none are written.
abbrev pub structure_of : {S T : Type 0} → Version → Shape S T → (f : Field T) → f.solid ≡ true → Schema S
structure_of v shape f some = record {
  format = record {
    is = λ bytes s. Ended v.flexible f.is bytes (shape.parts s);
    read = as_at shape.make (ended_at v.flexible f.read);
    bytes = λ s. f.bytes (shape.parts s) ++ end_bytes v.flexible;
    sound = ended_reads v.flexible shape.make shape.parts shape.back shape.there f.is f.read f.sound (f.some some);
  };
  told = λ s. shape.make (f.told (shape.parts s));
}

-- ---- what a writer did

-- the one spelling of the value in its version was appended, and it stands for what the version tells of the value
pub record Tells {A : Type 0} (s : Schema A) (old new : List ℕ) (x : A) : Type 0 where
  pub appended : new ≡ old ++ s.format.bytes x
  pub stands : s.format.is (s.format.bytes x) (s.told x)

-- the same of the whole of the bytes
pub record IsTold {A : Type 0} (s : Schema A) (x : A) (bytes : List ℕ) : Type 0 where
  pub spelled : bytes ≡ s.format.bytes x
  pub stands : s.format.is bytes (s.told x)

-- the same of a field, which may have no bytes
pub record FieldTells {A : Type 0} (f : Field A) (old new : List ℕ) (x : A) : Type 0 where
  pub appended : new ≡ old ++ f.bytes x
  pub stands : f.is (f.bytes x) (f.told x)

-- what ends a structure
pub record WritesEnd (flexible : Bool) (old new : List ℕ) : Type 0 where
  pub appended : new ≡ old ++ end_bytes flexible
  pub stands : IsEnd flexible (end_bytes flexible)

-- a number of elements
abbrev pub IsLen : Bool → List ℕ → ℕ → Type 0
IsLen true bytes n = IsUvarint bytes (n + 1)
IsLen false bytes n = IsInt w32 bytes (pos n)

abbrev pub len_bytes : Bool → ℕ → List ℕ
len_bytes true n = uvarint_bytes (n + 1)
len_bytes false n = int_bytes w32 (pos n)

pub record WritesLen (flexible : Bool) (old new : List ℕ) (n : ℕ) : Type 0 where
  pub appended : new ≡ old ++ len_bytes flexible n
  pub stands : IsLen flexible (len_bytes flexible n) n

-- null in place of an array
abbrev pub IsNull : Bool → List ℕ → Type 0
IsNull true bytes = IsUvarint bytes 0
IsNull false bytes = IsInt w32 bytes (negsuc 0)

abbrev pub null_len_bytes : Bool → List ℕ
null_len_bytes true = uvarint_bytes 0
null_len_bytes false = int_bytes w32 (negsuc 0)

pub record WritesNull (flexible : Bool) (old new : List ℕ) : Type 0 where
  pub appended : new ≡ old ++ null_len_bytes flexible
  pub stands : IsNull flexible (null_len_bytes flexible)
