use Rattle.std.proofs.Common.{◌≤◌, ◌-◌, ◌^◌}
use Rattle.share_part.specs.Releasing.{AreLeft}
use Rattle.share_part.specs.Settling.{is_chosen}
use Rattle.share_part.proofs.release.next_chosen.Given as goal

abbrev pub invariant-loop-run : goal.invariant-loop-run
invariant-loop-run g l = (l.fn.from ≤ l.from) × AreLeft (is_chosen l.whose) (g.W.Window.held l.window) l.fn.from l.from

abbrev pub decreases-loop-run : goal.decreases-loop-run
decreases-loop-run g l = 2 ^ 64 - l.from
