use Rattle.std.proofs.Common.{[]}
use Rattle.std.specs.List.{flat_map}
use Rattle.share_client.specs.Grants.{entries_of}
use Rattle.share_client.proofs.Telling.{tells_once}
use Rattle.share_client.proofs.laws.a_reply_tells_one_thing.Goals as goal

pub returns : goal.returns
returns c = λ reply most one other h k. tells_once [] most (flat_map entries_of reply.responses) one other h k
