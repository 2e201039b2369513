use Rattle.std.proofs.Common.{◌≡◌, ◌≤◌, length}
use Rattle.ack_ranges.specs.Pieces.{piece_at}
use Rattle.share_part.specs.Settling.{held_after}
use Rattle.share_part.proofs.ending.end_pieces.Given as goal

abbrev pub invariant-loop-piece : goal.invariant-loop-piece
invariant-loop-piece g l = (held_after (piece_at l.pieces) (g.W.Window.held l.window) ≡ held_after (piece_at l.fn.pieces) (g.W.Window.held l.fn.window))
    × (g.W.Window.spare l.fn.window ≤ g.W.Window.spare l.window)

abbrev pub decreases-loop-piece : goal.decreases-loop-piece
decreases-loop-piece g l = length l.pieces
