use Rattle.topic_conf.proofs.Partitions.{shard_by_id, shard_by_name, named_as_by_id, none_above, hosted}
use Rattle.topic_conf.proofs.laws.each_shard_has_its_partition.Goals as goal

pub returns-clause-by_id : goal.returns-clause-by_id
returns-clause-by_id c = shard_by_id

pub returns-clause-by_name : goal.returns-clause-by_name
returns-clause-by_name c = shard_by_name

pub returns-clause-same : goal.returns-clause-same
returns-clause-same c = named_as_by_id

pub returns-clause-none : goal.returns-clause-none
returns-clause-none c = none_above

pub returns-clause-hosted : goal.returns-clause-hosted
returns-clause-hosted c = hosted
