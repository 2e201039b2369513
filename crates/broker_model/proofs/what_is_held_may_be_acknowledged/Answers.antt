use Rattle.broker_model.proofs.Taken.{all_taken}
use Rattle.broker_model.proofs.what_is_held_may_be_acknowledged.Goals as goal

pub returns : goal.returns
returns c = λ conf first last steps run. all_taken conf first last steps run
