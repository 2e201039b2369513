use Rattle.share_calls.proofs.AckTalked.{tells_by_ack}
use Rattle.share_calls.proofs.law.each_acknowledged_partition_is_told_by_its_own_visit.Goals as goal

pub returns : goal.returns
returns c = tells_by_ack
