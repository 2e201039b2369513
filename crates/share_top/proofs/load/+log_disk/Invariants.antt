use Rattle.std.proofs.Common.{length}
use Rattle.share_top.proofs.load.+log_disk.Given as goal

abbrev pub decreases-log_disk : goal.decreases-log_disk
decreases-log_disk l = length l.topics.now
