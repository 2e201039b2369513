use Rattle.broker_model.proofs.PartLocks.{exclusive_alone}
use Rattle.broker_model.proofs.histories_keep_locks_exclusive.Goals as goal

pub returns : goal.returns
returns c = λ h first last steps history. exclusive_alone h first last steps history
