use Rattle.std.proofs.Common.{◌≤◌, ◌+◌, ◌++◌, vec_len}
use Rattle.share_part.specs.Collecting.{left_by}
use Rattle.share_part.proofs.Walking.{IsWalking}
use Rattle.share_part.proofs.walk.collect.Given as goal

abbrev pub invariant-loop-left : goal.invariant-loop-left
invariant-loop-left g l = (vec_len l.collector.grants + l.left ≤ 2000)
    × IsWalking l.log.batches (record { start = l.start; rows = l.changed ++ l.rows.list; held = left_by l.changed (g.W.Window.held l.window) }) l.fn.limits l.collector l.left l.from
    × (l.log.start ≤ l.from)

abbrev pub decreases-loop-left : goal.decreases-loop-left
decreases-loop-left g l = l.left
