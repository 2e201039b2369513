use Rattle.share_part.proofs.Described.{begins_tally, tallies_on, tally_done}
use Rattle.share_part.proofs.describing.acknowledged.Goals as goal

pub loop-run-init : goal.loop-run-init
loop-run-init c = begins_tally c.args.runs.now c.args.start c.args.end c.requires.runs
