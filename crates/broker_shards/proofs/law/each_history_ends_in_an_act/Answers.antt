use Rattle.broker_shards.proofs.Legal.{last_acts}
use Rattle.broker_shards.proofs.law.each_history_ends_in_an_act.Goals as goal

pub returns : goal.returns
returns g c = λ first before last legal. last_acts g.S.Shard.acts first legal.0 before last legal.1
