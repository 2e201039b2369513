use Rattle.std.proofs.Common.{◌≤◌, ◌+◌, ◌-◌}
use Rattle.offset_runs.specs.Changes.{room_of}
use Rattle.share_part.specs.Acting.{AreDoneTo, HasSpareFrom, IsSaid}
use Rattle.share_part.specs.Settling.{Acts}
use Rattle.share_part.proofs.settle.act_on_piece.Given as goal

abbrev pub invariant-loop-from : goal.invariant-loop-from
invariant-loop-from g l = record {
  begun : l.piece.first ≤ l.from;
  within : l.from ≤ l.piece.last + 1;
  done : (acts : Acts) → AreDoneTo l.limit l.member acts (g.W.Window.held l.window) l.piece.first l.fn.rows.list → IsSaid l.piece acts
      → AreDoneTo l.limit l.member acts (g.W.Window.held l.window) l.from l.rows.list;
  spare : HasSpareFrom (g.W.Window.held l.window) l.from l.rows.spare;
  room : room_of l.fn.rows ≤ room_of l.rows;
}

abbrev pub decreases-loop-from : goal.decreases-loop-from
decreases-loop-from g l = (l.piece.last + 1) - l.from
