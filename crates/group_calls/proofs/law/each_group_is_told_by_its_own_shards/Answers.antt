use Rattle.group_calls.proofs.MembersOwn.{tells_group}
use Rattle.group_calls.proofs.law.each_group_is_told_by_its_own_shards.Goals as goal

pub returns : goal.returns
returns c = tells_group
