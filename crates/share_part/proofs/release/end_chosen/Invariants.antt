use Rattle.std.proofs.Common.{◌≡◌, ◌-◌, ◌^◌, length}
use Rattle.share_part.specs.Settling.{is_chosen}
use Rattle.share_part.proofs.Letting.{AreEnded}
use Rattle.lock_index.specs.Windows.{IsRising}
use Rattle.share_part.proofs.release.end_chosen.Given as goal

abbrev pub invariant-loop-first : goal.invariant-loop-first
invariant-loop-first g l = (l.before ≡ length (g.W.Window.held l.fn.window)) × IsRising (g.W.Window.held l.fn.window)
    × AreEnded (is_chosen l.whose) (g.W.Window.held l.fn.window) (g.W.Window.held l.window) l.from

abbrev pub decreases-loop-first : goal.decreases-loop-first
decreases-loop-first g l = 2 ^ 64 - l.from
