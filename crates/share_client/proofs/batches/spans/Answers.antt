use Rattle.std.proofs.Common.{◌+◌, List, subst, sym}
use Rattle.share_client.specs.declared.batches.Span.{Span}
use Rattle.share_client.specs.declared.fault.ClientFault.{ClientFault}
use Rattle.share_client.specs.Spans.{IsBrokenAt}
use Rattle.share_client.proofs.Walking.{Walked, empty_of, some_of, walk_breaks, walk_ends, walk_goes_on}
use Rattle.share_client.proofs.batches.spans.Goals as goal

pub returns-in_default-clause-err : goal.returns-in_default-clause-err
returns-in_default-clause-err c =
    subst (λ (f : ClientFault). IsBrokenAt c.args.place c.args.records.now f) (sym c.strange_behind.ensures)
    (walk_breaks c.args.records.now c.loop-rest.next c.loop-rest.rest.now c.loop-rest.spans.items c.loop-rest.invariant c.args.place
    (some_of c.loop-rest.rest.now c.loop-rest-test.ensures) c.in_default.ensures.none)

pub loop-rest-preserved : goal.loop-rest-preserved
loop-rest-preserved c =
    subst (λ (l : List Span). Walked c.args.records.now (c.in-Some.span.last + 1) c.in-Some.behind.now l) (sym c.in-Ok.ensures.items)
    (walk_goes_on c.args.records.now c.loop-rest.next c.loop-rest.rest.now c.loop-rest.spans.items c.loop-rest.invariant c.in-Some.span c.in-Some.behind.now c.in-Some.ensures.some)

pub returns-clause-ok : goal.returns-clause-ok
returns-clause-ok c =
    walk_ends c.args.records.now c.loop-rest.next c.loop-rest.rest.now c.loop-rest.spans.items c.loop-rest.invariant
    (empty_of c.loop-rest.rest.now c.loop-rest-test.ensures)
