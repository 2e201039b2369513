use Rattle.broker_model.proofs.Touches.{touches}
use Rattle.broker_model.proofs.a_step_touches_its_own.Goals as goal

pub returns : goal.returns
returns c = λ conf. touches conf
