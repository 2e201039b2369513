use Rattle.share_session.proofs.Kept.{joined_once}
use Rattle.share_session.proofs.law.a_partition_joins_once.Goals as goal

pub returns : goal.returns
returns c = λ list shards h. joined_once list shards h
