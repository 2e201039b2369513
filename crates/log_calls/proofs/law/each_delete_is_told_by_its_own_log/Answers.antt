use Rattle.log_calls.proofs.DeleteTalked.{tells_start}
use Rattle.log_calls.proofs.law.each_delete_is_told_by_its_own_log.Goals as goal

pub returns : goal.returns
returns c = tells_start
