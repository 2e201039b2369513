use Rattle.std.proofs.Common.{arith, ◌∙◌, sym, ap, List}
use Rattle.ack_ranges.specs.Pieces.{piece_at}
use Rattle.ack_ranges.specs.declared.piece.Piece.{Piece}
use Rattle.share_part.specs.Settling.{held_after}
use Rattle.share_part.proofs.Parting.{left_behind, none_left}
use Rattle.share_part.proofs.ending.end_pieces.Goals as goal

pub loop-piece-preserved : goal.loop-piece-preserved
loop-piece-preserved g c = (
  ap (held_after (piece_at c.next_piece.new.self)) c.end_hold_counted.ensures.held
      ∙ left_behind c.in-Some.piece c.next_piece.new.self (g.W.Window.held c.loop-piece.window)
      ∙ ap (λ (ps : List Piece). held_after (piece_at ps) (g.W.Window.held c.loop-piece.window)) (sym c.in-Some.ensures.some)
      ∙ c.loop-piece.invariant.0,
  omega (arith, c.loop-piece.invariant.1, c.end_hold_counted.ensures.spare),
)

pub returns-clause-held : goal.returns-clause-held
returns-clause-held g c = sym (none_left (g.W.Window.held c.loop-piece.window))
    ∙ ap (λ (ps : List Piece). held_after (piece_at ps) (g.W.Window.held c.loop-piece.window)) (sym c.in_default.ensures.none)
    ∙ c.loop-piece.invariant.0

pub returns-clause-spare : goal.returns-clause-spare
returns-clause-spare g c = c.loop-piece.invariant.1
