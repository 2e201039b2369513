use Rattle.share_model.proofs.OneList.{one_list}
use Rattle.share_model.proofs.run.canonical_runs_are_unique.Goals as goal

pub returns : goal.returns
returns c = one_list
