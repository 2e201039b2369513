-- What a group holds of a partition, as a reply tells it in a tagged field of this project's own: the tag 10000, far from those that
-- Kafka's schemas have, which other clients skip (KIP-482).
-- For example 2 records of which the first lock ends at the moment 30000, with 1 given up, are
-- `0000000000000002 0000000000007530 0000000000000001 00`, and behind their tag, which stands alone, `01 904e 19` and these.
use Rattle.std.specs.Prelude.{◌++◌, ℕ, ℤ, List, Option, refl}
use Rattle.flex_fields.specs.Formats.{Format, Shape, structure, ◌▹◌, int64}
use Rattle.flex_fields.specs.Grammar.{Then}
use Rattle.flex_fields.specs.Reading.{as_at, then_at}
use Rattle.flex_fields.specs.Sound.Counted.{shape_reads}
use Rattle.flex_fields.specs.Sound.Readers.{then_reads}
use Rattle.msgs_admin.specs.declared.held_records.HeldRecords.{HeldRecords}
use Rattle.msgs_admin.specs.KnownTag.{IsKnownTags, known_tags_at, known_tags_bytes}
use Rattle.msgs_admin.specs.KnownTagRead.{known_tags_reads}

abbrev pub held_records_shape : Shape HeldRecords (ℤ × (ℤ × ℤ))
held_records_shape = record {
  make = λ x. record { held = x.0; first_lock_end_ms = x.1.0; archived = x.1.1 };
  parts = λ s. (s.held, (s.first_lock_end_ms, s.archived));
  back = λ _. refl;
  there = λ _. refl;
}

unfoldable pub held_records : Format HeldRecords
held_records = structure held_records_shape (int64 ▹ int64 ▹ int64)

abbrev pub HELD_TAG : ℕ
HELD_TAG = 10000

-- the tags that end a structure, among which one says what is held
abbrev pub held_tag : Format (Option HeldRecords)
held_tag = record {
  is = IsKnownTags HELD_TAG held_records.is;
  read = known_tags_at HELD_TAG held_records.read;
  bytes = known_tags_bytes HELD_TAG held_records.bytes;
  sound = known_tags_reads HELD_TAG held_records.is held_records.read held_records.sound;
}

-- a structure of these fields, whose tags may say what is held
abbrev pub structure_with_held : {S T : Type 0} → Shape S (T × Option HeldRecords) → Format T → Format S
structure_with_held shape f = record {
  is = λ bytes s. Then f.is held_tag.is bytes (shape.parts s);
  read = as_at shape.make (then_at f.read held_tag.read);
  bytes = λ s. f.bytes (shape.parts s).0 ++ held_tag.bytes (shape.parts s).1;
  sound = shape_reads shape.make shape.parts shape.back shape.there (Then f.is held_tag.is) (then_at f.read held_tag.read)
      (then_reads f.is held_tag.is f.read held_tag.read f.sound held_tag.sound);
}
