use Rattle.share_calls.proofs.Places.{of_shard}
use Rattle.share_calls.proofs.law.each_shard_is_told_by_its_partition.Goals as goal

pub returns : goal.returns
returns c = of_shard
