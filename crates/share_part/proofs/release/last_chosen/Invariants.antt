use Rattle.std.proofs.Common.{◌≤◌, ◌<◌, ◌-◌, ◌^◌}
use Rattle.share_part.specs.Releasing.{AreChosen}
use Rattle.share_part.specs.Settling.{is_chosen}
use Rattle.share_part.proofs.release.last_chosen.Given as goal

abbrev pub invariant-loop-run : goal.invariant-loop-run
invariant-loop-run g l = (l.fn.first ≤ l.last) × (l.last < 2 ^ 62) × AreChosen (is_chosen l.whose) (g.W.Window.held l.window) l.fn.first l.last

abbrev pub decreases-loop-run : goal.decreases-loop-run
decreases-loop-run g l = 2 ^ 64 - l.last
