use Rattle.std.proofs.Common.{◌≤◌, ◌-◌, [], length}
use Rattle.session_script.specs.Reading.{Takes}
use Rattle.share_top.proofs.segment.SegmentReader.fill_to.Given as goal

abbrev pub invariant-pieces : goal.invariant-pieces
invariant-pieces g l = record {
  taken : Takes l.fn.self l.self (g.S.Source.left l.fn.source) (g.S.Source.left l.source) [];
  later : g.S.Source.faults l.fn.source ≤ g.S.Source.faults l.source;
}

abbrev pub decreases-pieces : goal.decreases-pieces
decreases-pieces g l = l.count - length l.self.pending
