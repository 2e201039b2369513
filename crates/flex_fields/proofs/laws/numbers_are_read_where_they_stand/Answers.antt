use Rattle.flex_fields.specs.Sound.Readers.{uvarint_reads, varint_reads, varlong_reads}
use Rattle.flex_fields.specs.Sound.Counted.{tags_reads}
use Rattle.flex_fields.proofs.laws.numbers_are_read_where_they_stand.Goals as goal

pub returns : goal.returns
returns c = record { uvarint = uvarint_reads; varint = varint_reads; varlong = varlong_reads; tags = tags_reads }
