use Rattle.share_part.proofs.Offered.{taken_is_offered}
use Rattle.share_part.proofs.laws.a_fetch_takes_what_is_offered.Goals as goal

pub returns : goal.returns
returns c = taken_is_offered
