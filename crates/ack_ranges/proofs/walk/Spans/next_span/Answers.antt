use Rattle.std.proofs.Common.{◌∙◌, ◌∷◌, ◌+◌, List, length, ap, sym, arith}
use Rattle.share_model.specs.declared.ack.AckBatch.{AckBatch}
use Rattle.ack_ranges.specs.Walking.{spans_left}
use Rattle.ack_ranges.proofs.Spans.{read_on, read_last}
use Rattle.ack_ranges.proofs.walk.Spans.next_span.Goals as goal

pub returns-then-self-count-clause-some : goal.returns-then-self-count-clause-some
returns-then-self-count-clause-some c =
    let place = c.self.inside.place in
    let span = c.span_at-span.result in
    let whole = c.in-Some.ensures.cases in
    sym c.self.view_is ∙ ap (λ (l : List AckBatch). spans_left place l) whole.0
    ∙ read_on c.in-Some.batch.now c.in-Some.rest.now place span c.span_at-span.ensures.span
    ∙ ap (λ (l : List AckBatch). span ∷ spans_left (place + 1) l) (sym whole.0)

pub returns-clause-some : goal.returns-clause-some
returns-clause-some c =
    let place = c.self.inside.place in
    sym c.self.view_is ∙ ap (λ (l : List AckBatch). spans_left place l) c.in-Some.ensures.cases.0
    ∙ read_last c.in-Some.batch.now c.in-Some.rest.now place c.span_at-span.result c.span_at-span.ensures.span (omega (arith, ap length c.as_slice-count.ensures))
