use Rattle.std.proofs.Common.{◌∙◌, List, ap, sym}
use Rattle.ack_ranges.specs.Walking.{join_to, joined}
use Rattle.ack_ranges.specs.declared.piece.Piece.{Piece}
use Rattle.ack_ranges.proofs.Joins.{join_apart, join_touch}
use Rattle.ack_ranges.proofs.walk.join_spans.Goals as goal

pub returns-then-not-touches-clause-joined : goal.returns-then-not-touches-clause-joined
returns-then-not-touches-clause-joined c =
    c.loop-span.invariant.joins ∙ ap (λ (l : List Piece). join_to c.loop-span.piece (joined l)) c.in-Some.ensures.some
    ∙ join_apart c.loop-span.piece c.in-Some.span (joined c.next_span.new.self) (sym c.touches.ensures ∙ c.if-not-touches.true)

pub loop-span-preserved : goal.loop-span-preserved
loop-span-preserved c = record {
  joins = c.loop-span.invariant.joins ∙ ap (λ (l : List Piece). join_to c.loop-span.piece (joined l)) c.in-Some.ensures.some
      ∙ join_touch c.loop-span.piece c.in-Some.span (joined c.next_span.new.self) (sym c.touches.ensures ∙ c.if-not-touches.false);
  below = c.in-Some.ensures.below;
}
