use Rattle.std.proofs.Common.{◌∙◌, ◌+◌, sym, arith}
use Rattle.ack_ranges.specs.Pieces.{piece_at}
use Rattle.share_part.proofs.Doing.{all_done, is_none_of, left_first, left_more, missing_ends, none_missing, reached, said, spare_ahead, spare_behind, spare_first}
use Rattle.share_part.proofs.settle.act_on_pieces.Goals as goal

pub loop-piece-init : goal.loop-piece-init
loop-piece-init g c = record {
  left = left_first c.args.limit c.args.member.now (g.W.Window.held c.args.window.now) c.args.rows.now.list c.args.pieces c.requires.pieces c.requires.none;
  spare = spare_first (g.W.Window.held c.args.window.now) c.args.pieces c.args.rows.now.spare c.requires.spare;
  room = omega arith;
}

pub act_on_piece-missing-requires-clause-spare : goal.act_on_piece-missing-requires-clause-spare
act_on_piece-missing-requires-clause-spare g c = spare_ahead (g.W.Window.held c.args.window.now) c.loop-piece.pieces c.loop-piece.rows.spare c.in-Some.piece c.next_piece.new.self
    c.in-Some.ensures.some c.loop-piece.invariant.spare

pub returns-then-is_some-clause-done : goal.returns-then-is_some-clause-done
returns-then-is_some-clause-done g c = missing_ends c.args.limit c.args.member.now (piece_at c.args.pieces) (g.W.Window.held c.args.window.now) (c.in-Some.piece.last + 1) c.act_on_piece-missing.new.rows.list c.act_on_piece-missing.result
    (sym c.is_some.ensures ∙ c.if-is_some.true)
    (c.act_on_piece-missing.ensures.done (piece_at c.args.pieces)
    (reached c.args.limit c.args.member.now (piece_at c.args.pieces) (g.W.Window.held c.args.window.now) c.loop-piece.rows.list c.loop-piece.pieces c.loop-piece.invariant.left c.in-Some.piece c.next_piece.new.self c.in-Some.ensures.some)
    (said c.args.limit c.args.member.now (piece_at c.args.pieces) (g.W.Window.held c.args.window.now) c.loop-piece.rows.list c.loop-piece.pieces c.loop-piece.invariant.left c.in-Some.piece c.next_piece.new.self c.in-Some.ensures.some))

pub loop-piece-preserved : goal.loop-piece-preserved
loop-piece-preserved g c =
    let room = c.loop-piece.invariant.room in
    record {
      left = left_more c.args.limit c.args.member.now (piece_at c.args.pieces) (g.W.Window.held c.args.window.now) c.loop-piece.rows.list c.loop-piece.pieces c.loop-piece.invariant.left c.in-Some.piece c.next_piece.new.self c.in-Some.ensures.some
          c.act_on_piece-missing.new.rows.list
          (none_missing c.args.limit c.args.member.now (piece_at c.args.pieces) (g.W.Window.held c.args.window.now) (c.in-Some.piece.last + 1) c.act_on_piece-missing.new.rows.list c.act_on_piece-missing.result
          (sym c.is_some.ensures ∙ c.if-is_some.false)
          (c.act_on_piece-missing.ensures.done (piece_at c.args.pieces)
          (reached c.args.limit c.args.member.now (piece_at c.args.pieces) (g.W.Window.held c.args.window.now) c.loop-piece.rows.list c.loop-piece.pieces c.loop-piece.invariant.left c.in-Some.piece c.next_piece.new.self c.in-Some.ensures.some)
          (said c.args.limit c.args.member.now (piece_at c.args.pieces) (g.W.Window.held c.args.window.now) c.loop-piece.rows.list c.loop-piece.pieces c.loop-piece.invariant.left c.in-Some.piece c.next_piece.new.self c.in-Some.ensures.some)));
      spare = spare_behind c.args.limit c.args.member.now (piece_at c.args.pieces) (g.W.Window.held c.args.window.now) c.loop-piece.rows.list c.loop-piece.pieces c.loop-piece.invariant.left c.in-Some.piece c.next_piece.new.self c.in-Some.ensures.some
          c.act_on_piece-missing.new.rows.spare
          (c.act_on_piece-missing.ensures.spare (is_none_of c.act_on_piece-missing.result (sym c.is_some.ensures ∙ c.if-is_some.false)));
      room = omega (arith, room, c.act_on_piece-missing.ensures.room);
    }

pub returns-then-is_some-clause-room : goal.returns-then-is_some-clause-room
returns-then-is_some-clause-room g c = let room = c.loop-piece.invariant.room in omega (arith, room, c.act_on_piece-missing.ensures.room)

pub returns-clause-done : goal.returns-clause-done
returns-clause-done g c = all_done c.args.limit c.args.member.now (piece_at c.args.pieces) (g.W.Window.held c.args.window.now) c.loop-piece.rows.list c.loop-piece.pieces c.loop-piece.invariant.left
    c.in_default.ensures.none

pub returns-clause-room : goal.returns-clause-room
returns-clause-room g c = c.loop-piece.invariant.room
