use Rattle.share_members.proofs.Evenly.{evenly}
use Rattle.share_members.proofs.law.partitions_are_shared_evenly.Goals as goal

pub returns : goal.returns
returns c = evenly
