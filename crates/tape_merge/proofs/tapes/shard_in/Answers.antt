use Rattle.std.proofs.Common.{ap}
use Rattle.tape_merge.specs.Matching.{shard_in}
use Rattle.tape_merge.proofs.tapes.shard_in.Goals as goal

pub returns-in-Some : goal.returns-in-Some
returns-in-Some c = ap (λ o. shard_in o) c.in-Some.ensures.is

pub returns-in-None : goal.returns-in-None
returns-in-None c = ap (λ o. shard_in o) c.in-None.ensures.is
