use Rattle.topic_conf.proofs.Shards.{shard_below, shard_of_one, each_shard}
use Rattle.topic_conf.proofs.laws.each_shard_is_of_one_partition.Goals as goal

pub returns-clause-below : goal.returns-clause-below
returns-clause-below c = shard_below

pub returns-clause-one : goal.returns-clause-one
returns-clause-one c = shard_of_one

pub returns-clause-each : goal.returns-clause-each
returns-clause-each c = λ topics shard list few. each_shard topics shard list.apart few
