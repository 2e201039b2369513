use Rattle.log_calls.proofs.ProduceTalked.{tells_by_log}
use Rattle.log_calls.proofs.law.each_batch_is_told_by_its_own_log.Goals as goal

pub returns : goal.returns
returns c = tells_by_log
