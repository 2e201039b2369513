use Rattle.std.proofs.Common.{drop}
use Rattle.share_part.specs.Judging.{RowsMayStand}
use Rattle.share_part.proofs.judge.rows_may_stand.Given as goal

abbrev pub invariant-loop-run : goal.invariant-loop-run
invariant-loop-run g l = RowsMayStand l.log.batches l.start (drop l.run-index l.runs) → RowsMayStand l.log.batches l.start l.runs
