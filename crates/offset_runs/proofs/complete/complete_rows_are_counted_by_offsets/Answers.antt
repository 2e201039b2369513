use Rattle.offset_runs.proofs.Tallies.{counted_by_rows}
use Rattle.offset_runs.proofs.complete.complete_rows_are_counted_by_offsets.Goals as goal

pub returns : goal.returns
returns c = counted_by_rows
