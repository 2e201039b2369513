use Rattle.std.proofs.Common.{◌≡◌, length}
use Rattle.share_part.specs.Named.{pieces_from}
use Rattle.share_part.proofs.named.first_from.Given as goal

abbrev pub invariant-loop-piece : goal.invariant-loop-piece
invariant-loop-piece l = pieces_from l.start l.fn.pieces ≡ pieces_from l.start l.pieces

abbrev pub decreases-loop-piece : goal.decreases-loop-piece
decreases-loop-piece l = length l.pieces
