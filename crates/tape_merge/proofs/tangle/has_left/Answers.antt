use Rattle.tape_merge.proofs.Waits.{left_if_none, left_if_some}
use Rattle.tape_merge.proofs.tangle.has_left.Goals as goal

pub returns-in-Some : goal.returns-in-Some
returns-in-Some c = left_if_some c.args.links.now c.args.counts.now c.args.link c.in-Some._step.now c.in-Some.ensures.is

pub returns-in-None : goal.returns-in-None
returns-in-None c = left_if_none c.args.links.now c.args.counts.now c.args.link c.in-None.ensures.is
