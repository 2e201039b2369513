use Rattle.broker_model.proofs.OneRun.{one_run}
use Rattle.broker_model.proofs.runs_without_choices_are_one.Goals as goal

pub returns : goal.returns
returns c = λ conf events. one_run conf events
