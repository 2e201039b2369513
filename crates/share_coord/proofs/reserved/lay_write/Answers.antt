use Rattle.share_coord.proofs.Spans.{written_stored}
use Rattle.share_coord.proofs.reserved.lay_write.Goals as goal

pub complete_after-complete-requires-clause-over : goal.complete_after-complete-requires-clause-over
complete_after-complete-requires-clause-over c = written_stored c.args.runs.now c.write_each.new.rows.list c.requires.runs c.write_each.ensures.written
