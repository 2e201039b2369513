use Rattle.tape_merge.proofs.Seeing.{seen_first}
use Rattle.tape_merge.proofs.matching.see_all.Goals as goal

pub loop-tape-init : goal.loop-tape-init
loop-tape-init c = seen_first c.args.tapes.now c.args.links.now c.new.result.keys c.new.ensures.empty

pub loop-tape-preserved : goal.loop-tape-preserved
loop-tape-preserved c = c.in_ok-see_tape.ensures c.loop-tape.invariant
