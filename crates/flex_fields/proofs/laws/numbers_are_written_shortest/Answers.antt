use Rattle.flex_fields.proofs.Shortest.{uvarint_short, varint_short, varlong_short}
use Rattle.flex_fields.proofs.laws.numbers_are_written_shortest.Goals as goal

pub returns : goal.returns
returns c = record { uvarint = uvarint_short; varint = varint_short; varlong = varlong_short }
