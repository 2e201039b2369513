use Rattle.share_client.specs.Records.{from_offset}
use Rattle.share_client.proofs.reader.Reader.find.Goals as goal

pub value_at-requires-clause-left : goal.value_at-requires-clause-left
value_at-requires-clause-left c = let r = c.requires in (from_offset c.args.offset r.0, c.sought-reader.ensures.sought r.0 r.1)
