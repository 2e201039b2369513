use Rattle.std.proofs.Common.{◌∙◌, sym, ap}
use Rattle.share_part.specs.Named.{pieces_from}
use Rattle.share_part.proofs.Naming.{below_cut, front_is, none_front}
use Rattle.share_part.proofs.named.first_from.Goals as goal

pub returns-then-is_some-clause-pieces : goal.returns-then-is_some-clause-pieces
returns-then-is_some-clause-pieces c =
    c.loop-piece.invariant ∙ ap (pieces_from c.args.start) c.in-Some.ensures.some
    ∙ front_is c.args.start c.in-Some.piece c.next_piece.new.self c.cut_piece-cut.result c.cut_piece-cut.ensures (sym c.is_some.ensures ∙ c.if-is_some.true)

pub returns-then-is_some-clause-below : goal.returns-then-is_some-clause-below
returns-then-is_some-clause-below c = below_cut c.args.start c.in-Some.piece c.cut_piece-cut.result c.cut_piece-cut.ensures c.in-Some.ensures.below

pub loop-piece-preserved : goal.loop-piece-preserved
loop-piece-preserved c =
    c.loop-piece.invariant ∙ ap (pieces_from c.args.start) c.in-Some.ensures.some
    ∙ none_front c.args.start c.in-Some.piece c.next_piece.new.self c.cut_piece-cut.result c.cut_piece-cut.ensures (sym c.is_some.ensures ∙ c.if-is_some.false)

pub returns-clause-pieces : goal.returns-clause-pieces
returns-clause-pieces c = c.loop-piece.invariant ∙ ap (pieces_from c.args.start) c.in_default.ensures.none ∙ sym c.in_default.ensures.end
