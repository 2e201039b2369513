use Rattle.std.proofs.Common.{◌<◌, sym, subst}
use Rattle.tape_merge.specs.Readiness.{IsReadyIf}
use Rattle.tape_merge.proofs.Readies.{ready_more, ready_none}
use Rattle.tape_merge.proofs.ready.first_ready.Goals as goal

pub loop-link-init : goal.loop-link-init
loop-link-init c =
    subst (λ keys. IsReadyIf (λ k. k < 0) c.args.tapes.now c.args.links.now c.args.counts.now keys) (sym c.new-ready.ensures.empty)
    (ready_none c.args.tapes.now c.args.links.now c.args.counts.now)

pub loop-link-preserved : goal.loop-link-preserved
loop-link-preserved c =
    ready_more c.args.tapes.now c.args.links.now c.args.counts.now c.loop-link.link c.loop-link.ready.keys c.look.new.ready.keys c.loop-link.invariant c.in_ok-look.ensures
