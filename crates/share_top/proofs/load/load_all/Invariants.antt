use Rattle.std.proofs.Common.{◌≤◌, ◌+◌, ◌-◌}
use Rattle.edge_io.specs.Armed.{RunsOn}
use Rattle.session_script.specs.Script.{longest}
use Rattle.share_top.specs.Loads.{HasLoaded}
use Rattle.share_top.proofs.load.load_all.Given as goal

abbrev pub invariant-batches : goal.invariant-batches
invariant-batches g l = record {
  loaded : HasLoaded g.D.Disk.seen l.fn.log l.log (g.I.Source.left l.fn.input) (g.I.Source.left l.input) l.reader;
  within : l.reader.place ≤ longest;
  read : g.I.Source.faults l.fn.input ≤ g.I.Source.faults l.input;
  runs : RunsOn g.D.Disk.seen l.fn.log.journal.disk l.log.journal.disk;
}

abbrev pub decreases-batches : goal.decreases-batches
decreases-batches g l = longest + 1 - l.reader.place
