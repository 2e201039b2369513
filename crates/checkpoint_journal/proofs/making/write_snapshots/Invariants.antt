use Rattle.std.proofs.Common.{◌-◌}
use Rattle.checkpoint_journal.proofs.Writing.{Handing}
use Rattle.checkpoint_journal.proofs.making.write_snapshots.Given as goal

abbrev pub invariant-loop : goal.invariant-loop
invariant-loop g l = Handing g.D.Disk.seen l.fn.idle l.idle (g.S.Snapshots.rest l.fn.snapshots) (g.S.Snapshots.rest l.snapshots) (l.count - l.counter)
