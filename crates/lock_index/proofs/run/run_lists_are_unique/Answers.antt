use Rattle.lock_index.proofs.OneList.{one_run_list}
use Rattle.lock_index.proofs.run.run_lists_are_unique.Goals as goal

pub returns : goal.returns
returns c = one_run_list
