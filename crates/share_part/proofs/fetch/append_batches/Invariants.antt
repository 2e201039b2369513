use Rattle.edge_io.specs.Disk.{IsTold}
use Rattle.share_part.specs.Once.{ReadsBatches}
use Rattle.share_part.proofs.Appending.{HasAppended}
use Rattle.share_part.proofs.fetch.append_batches.Given as goal

abbrev pub invariant-loop-number : goal.invariant-loop-number
invariant-loop-number g l = ReadsBatches g.D.Disk.seen ⊥ l.fn.log l.log
    × HasAppended (IsTold (g.D.Disk.seen l.fn.log.journal.disk).content) l.fn.log.batches l.numbers l.number-index l.fn.out l.out
