use Rattle.share_session.proofs.Kept.{visited_once}
use Rattle.share_session.proofs.law.each_partition_is_visited_once.Goals as goal

pub returns : goal.returns
returns c = λ caller epoch wanted forgotten list. visited_once caller wanted forgotten epoch list
