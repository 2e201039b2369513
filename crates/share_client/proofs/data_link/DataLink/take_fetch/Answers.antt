use Rattle.std.proofs.Common.{[]}
use Rattle.std.specs.Prelude.{flat_map}
use Rattle.share_client.specs.Grants.{entries_of}
use Rattle.share_client.proofs.Delivering.{tells_sound}
use Rattle.share_client.proofs.data_link.DataLink.take_fetch.Goals as goal

pub read_grants-requires : goal.read_grants-requires
read_grants-requires c = tells_sound [] c.args.most (flat_map entries_of c.in-Ok.reply.responses) c.in-Ok.ensures.1
