use Rattle.std.proofs.Common.{◌+◌, ◌-◌, List, Err, arith, subst, sym}
use Rattle.msgs_share.specs.declared.share_fetch_reply.AcquiredRecords.{AcquiredRecords}
use Rattle.share_client.specs.declared.fault.ClientFault.{ClientFault}
use Rattle.share_client.specs.declared.located.Located.{Located}
use Rattle.share_client.specs.Grants.{AreGrants}
use Rattle.share_client.specs.Spans.{IsToldAt}
use Rattle.share_client.proofs.Covering.{Going, going_fails, going_on}
use Rattle.share_client.proofs.covers.grants.Goals as goal

pub returns-in_default-grant : goal.returns-in_default-grant
returns-in_default-grant c =
    subst (λ (f : ClientFault). IsToldAt (AreGrants c.args.spans.now 0 c.args.left c.args.acquired.now) (Err f)) (sym c.strange.ensures)
    (going_fails c.args.spans.now c.args.left c.args.acquired.now c.loop-located.next c.loop-located.left c.loop-located.batches.now c.in-Some.located.now c.in-Some.others.now
    (subst (λ (l : List (Located AcquiredRecords)). Going c.args.spans.now c.args.left c.args.acquired.now c.loop-located.next c.loop-located.left c.loop-located.batches.now l)
    c.in-Some.ensures.cases.0 c.loop-located.invariant) c.in_default-grant.ensures.none)

pub loop-located-preserved : goal.loop-located-preserved
loop-located-preserved c =
    let given = c.in-Some-grant.ensures.some in
    going_on c.args.spans.now c.args.left c.args.acquired.now c.loop-located.next c.loop-located.left c.loop-located.batches.now c.in-Some.located.now c.in-Some.others.now
    (subst (λ (l : List (Located AcquiredRecords)). Going c.args.spans.now c.args.left c.args.acquired.now c.loop-located.next c.loop-located.left c.loop-located.batches.now l)
    c.in-Some.ensures.cases.0 c.loop-located.invariant) c.in-Some-grant.run' c.in-Some-grant.behind.now
    (c.loop-located.left - (c.in-Some-grant.run'.last - c.in-Some-grant.run'.first + 1)) given (omega (arith, given.grants.few, given.grants.order))
