use Rattle.broker_model.proofs.Telling.{all_tell}
use Rattle.broker_model.proofs.store_faults_are_told.Goals as goal

pub returns : goal.returns
returns c = λ conf first last steps run. all_tell conf first last steps run
