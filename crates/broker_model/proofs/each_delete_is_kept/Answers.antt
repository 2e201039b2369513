use Rattle.broker_model.proofs.Deletions.{keeps_deletes}
use Rattle.broker_model.proofs.each_delete_is_kept.Goals as goal

pub returns : goal.returns
returns c = keeps_deletes
