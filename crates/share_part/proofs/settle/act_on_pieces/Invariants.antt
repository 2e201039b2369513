use Rattle.std.proofs.Common.{◌≤◌, length}
use Rattle.ack_ranges.specs.Pieces.{piece_at}
use Rattle.offset_runs.specs.Changes.{room_of}
use Rattle.share_part.proofs.Doing.{AreLeft, HasSpareAhead}
use Rattle.share_part.proofs.settle.act_on_pieces.Given as goal

abbrev pub invariant-loop-piece : goal.invariant-loop-piece
invariant-loop-piece g l = record {
  left : AreLeft l.limit l.member (piece_at l.fn.pieces) (g.W.Window.held l.window) l.rows.list l.pieces;
  spare : HasSpareAhead (g.W.Window.held l.window) l.pieces l.rows.spare;
  room : room_of l.fn.rows ≤ room_of l.rows;
}

abbrev pub decreases-loop-piece : goal.decreases-loop-piece
decreases-loop-piece g l = length l.pieces
