use Rattle.share_part.proofs.Staying.{few_within}
use Rattle.share_part.proofs.laws.rows_of_slots_have_few_runs.Goals as goal

pub returns : goal.returns
returns c = few_within
