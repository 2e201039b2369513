use Rattle.broker_model.proofs.Holds.{holds}
use Rattle.broker_model.proofs.each_run_has_its_losses_and_counts.Goals as goal

pub returns : goal.returns
returns c = λ conf first last steps run. holds conf first last steps run
