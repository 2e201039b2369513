use Rattle.broker_model.proofs.Ungranted.{run_ungranted}
use Rattle.broker_model.proofs.nothing_deleted_is_granted.Goals as goal

pub returns : goal.returns
returns c = λ conf first last steps run. run_ungranted conf first last steps run
