use Rattle.std.proofs.Common.{arith}
use Rattle.tape_merge.proofs.Seeing.{all_named_more}
use Rattle.tape_merge.proofs.matching.unnamed.Goals as goal

pub loop-link-init : goal.loop-link-init
loop-link-init c = λ link step lt some. absurd (omega (arith, lt))

pub loop-link-preserved : goal.loop-link-preserved
loop-link-preserved c = all_named_more c.args.links.now c.args.named.now.keys c.loop-link.link c.loop-link.invariant c.in_default.ensures.none
