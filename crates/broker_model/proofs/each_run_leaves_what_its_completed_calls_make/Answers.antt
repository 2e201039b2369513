use Rattle.broker_model.proofs.Completions.{completed}
use Rattle.broker_model.proofs.each_run_leaves_what_its_completed_calls_make.Goals as goal

pub returns : goal.returns
returns c = λ conf first last steps run none. completed conf first last steps run none
