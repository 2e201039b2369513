use Rattle.share_members.proofs.Searched.{nothing_rises}
use Rattle.share_members.proofs.plan.topics_of.Goals as goal

pub returns-in-None-clause-rising : goal.returns-in-None-clause-rising
returns-in-None-clause-rising c = nothing_rises
