use Rattle.share_top.proofs.LoadCompletes.{one_reading}
use Rattle.share_top.proofs.load.segments_are_read_one_way.Goals as goal

pub returns : goal.returns
returns c = one_reading
