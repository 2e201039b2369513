use Rattle.broker_model.proofs.Keepings.{keeps}
use Rattle.broker_model.proofs.each_answered_batch_is_kept.Goals as goal

pub returns : goal.returns
returns c = keeps
