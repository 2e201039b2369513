use Rattle.broker_model.proofs.Closing.{acknowledgements_kept}
use Rattle.broker_model.proofs.each_acknowledgement_is_kept.Goals as goal

pub returns : goal.returns
returns c = λ conf first last steps run. acknowledgements_kept conf first last steps run
