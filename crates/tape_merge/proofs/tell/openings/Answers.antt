use Rattle.std.proofs.Common.{◌++◌, ap, arith}
use Rattle.tape_merge.specs.Telling.{openings}
use Rattle.tape_merge.proofs.Tellings.{all_opened}
use Rattle.tape_merge.proofs.tell.openings.Goals as goal

pub loop-id-init : goal.loop-id-init
loop-id-init c = ap (λ x. x ++ openings 0 c.args.links.now) c.new-events.ensures.items

pub loop-id-preserved : goal.loop-id-preserved
loop-id-preserved c = c.in_ok-open_link.ensures (openings 0 c.args.links.now) c.loop-id.invariant

pub returns : goal.returns
returns c = all_opened c.args.links.now c.loop-id.id c.loop-id.events.items (openings 0 c.args.links.now) (omega arith) c.loop-id.invariant
