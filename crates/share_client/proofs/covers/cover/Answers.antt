use Rattle.std.proofs.Common.{List, subst, sym}
use Rattle.share_client.specs.declared.batches.Span.{Span}
use Rattle.share_client.specs.Spans.{IsCovered}
use Rattle.share_client.proofs.Covering.{Looked, look_fails, look_finds, look_goes_on}
use Rattle.share_client.proofs.covers.cover.Goals as goal

pub returns-then-need-span-clause-none : goal.returns-then-need-span-clause-none
returns-then-need-span-clause-none c =
    look_fails c.args.first c.args.last c.args.spans.now c.loop-span.need c.in-Some.span.now c.in-Some.others.now
    (subst (λ (l : List Span). Looked c.args.first c.args.last c.args.spans.now c.loop-span.need l) c.in-Some.ensures.cases.0 c.loop-span.invariant) c.if-need-span.true

pub returns-then-last-span-clause-some : goal.returns-then-last-span-clause-some
returns-then-last-span-clause-some c =
    subst (λ (l : List Span). IsCovered c.args.first c.args.last c.args.spans.now l) (sym c.in-Some.ensures.cases.0)
    (look_finds c.args.first c.args.last c.args.spans.now c.loop-span.need c.in-Some.span.now c.in-Some.others.now
    (subst (λ (l : List Span). Looked c.args.first c.args.last c.args.spans.now c.loop-span.need l) c.in-Some.ensures.cases.0 c.loop-span.invariant)
    c.if-need-span.false c.if-last-span.true)

pub loop-span-preserved : goal.loop-span-preserved
loop-span-preserved c =
    look_goes_on c.args.first c.args.last c.args.spans.now c.loop-span.need c.in-Some.span.now c.in-Some.others.now
    (subst (λ (l : List Span). Looked c.args.first c.args.last c.args.spans.now c.loop-span.need l) c.in-Some.ensures.cases.0 c.loop-span.invariant)
    c.further-need.result c.if-need-span.false c.if-last-span.false c.further-need.ensures.from c.further-need.ensures.behind c.further-need.ensures.least
