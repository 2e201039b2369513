use Rattle.share_part.proofs.Leavings.{left_of}
use Rattle.share_part.proofs.crash.a_crash_leaves_the_shard.Goals as goal

pub returns : goal.returns
returns g c = λ parts shard log first second k at_log at_first at_second. left_of g.D.Disk.seen g.W.Window.held parts log first second at_log at_first at_second shard k
