use Rattle.std.proofs.Common.{◌≤◌, ◌-◌, ◌^◌}
use Rattle.offset_runs.specs.Changes.{room_of}
use Rattle.share_part.specs.Acting.{AreRowsTo, HasSpareFrom}
use Rattle.share_part.specs.Settling.{is_chosen, releasing}
use Rattle.share_part.proofs.settle.release_all.Given as goal

abbrev pub invariant-loop-run : goal.invariant-loop-run
invariant-loop-run g l = record {
  rows : AreRowsTo l.limit (releasing (is_chosen l.whose) (g.W.Window.held l.window)) (g.W.Window.held l.window) l.from l.rows.list;
  spare : HasSpareFrom (g.W.Window.held l.window) l.from l.rows.spare;
  room : room_of l.fn.rows ≤ room_of l.rows;
}

abbrev pub decreases-loop-run : goal.decreases-loop-run
decreases-loop-run g l = 2 ^ 64 - l.from
