use Rattle.describe_calls.proofs.TablesOwn.{tells_table}
use Rattle.describe_calls.proofs.law.each_table_is_told_by_its_own_shard.Goals as goal

pub returns : goal.returns
returns c = tells_table
