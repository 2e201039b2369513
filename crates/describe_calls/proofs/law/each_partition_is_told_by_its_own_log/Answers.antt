use Rattle.describe_calls.proofs.OffsetsOwn.{tells_ends}
use Rattle.describe_calls.proofs.law.each_partition_is_told_by_its_own_log.Goals as goal

pub returns : goal.returns
returns c = tells_ends
