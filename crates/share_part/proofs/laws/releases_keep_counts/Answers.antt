use Rattle.share_part.proofs.Counting.{at_limit, below_limit}
use Rattle.share_part.proofs.laws.releases_keep_counts.Goals as goal

pub returns-clause-below : goal.returns-clause-below
returns-clause-below c = below_limit

pub returns-clause-at : goal.returns-clause-at
returns-clause-at c = at_limit
