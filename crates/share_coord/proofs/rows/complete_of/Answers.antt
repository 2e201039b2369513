use Rattle.share_coord.proofs.Spans.{stored_ends}
use Rattle.share_coord.proofs.rows.complete_of.Goals as goal

pub complete-requires : goal.complete-requires
complete-requires c = stored_ends c.args.runs.now.list c.requires.1
