use Rattle.broker_model.proofs.Ungranted.{ungranted}
use Rattle.broker_model.proofs.histories_grant_nothing_deleted.Goals as goal

pub returns : goal.returns
returns c = λ h first last steps history above. ungranted h first last steps history above
