use Rattle.share_calls.proofs.FetchTalked.{tells_by_visit}
use Rattle.share_calls.proofs.law.each_fetched_partition_is_told_by_its_own_visit.Goals as goal

pub returns : goal.returns
returns c = tells_by_visit
