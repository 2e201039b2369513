-- A text or an array that can be null in some versions alone ("nullableVersions" of Kafka's message schemas); in the others
-- null is told as one with nothing in it.
-- For example where a text can't be null, `0000` is the empty text in the older encoding, and is how null is told.
use Rattle.std.specs.Prelude.{ℕ, Bool, true, false, List, [], Option, Some, None}
use Rattle.flex_fields.specs.declared.version.Version.{Version}
use Rattle.flex_fields.specs.Reading.{as_at}
use Rattle.flex_fields.specs.Versions.{Schema, is_since, text, null_text, array_of, null_array_of}
use Rattle.msgs_base.specs.NullableRead.{IsSome, some_reads}

-- null as one with nothing in it
abbrev pub filled : {A : Type 0} → Option (List A) → List A
filled (Some x) = x
filled None = []

abbrev pub never_null : {A : Type 0} → Schema (List A) → Schema (Option (List A))
never_null s = record {
  format = record {
    is = IsSome s.format.is;
    read = as_at Some s.format.read;
    bytes = λ x. s.format.bytes (filled x);
    sound = some_reads s.format.is s.format.read s.format.sound;
  };
  told = λ x. Some (s.told (filled x));
}

-- it can be null where this is true
abbrev pub null_where : {A : Type 0} → Bool → Schema (Option (List A)) → Schema (List A) → Schema (Option (List A))
null_where true null s = null
null_where false null s = never_null s

-- it can be null from this version on
abbrev pub null_text_since : ℕ → Version → Schema (Option (List ℕ))
null_text_since first v = null_where (is_since first v) (null_text v) (text v)

abbrev pub null_array_since : {A : Type 0} → ℕ → Version → Schema A → Schema (Option (List A))
null_array_since first v s = null_where (is_since first v) (null_array_of v s) (array_of v s)
