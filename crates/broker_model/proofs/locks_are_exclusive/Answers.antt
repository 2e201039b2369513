use Rattle.broker_model.proofs.Exclusive.{exclusive}
use Rattle.broker_model.proofs.locks_are_exclusive.Goals as goal

pub returns : goal.returns
returns c = λ conf first last steps run. exclusive conf first last steps run
