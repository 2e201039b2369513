use Rattle.std.proofs.Common.{◌≤◌, ◌-◌, ◌+◌, [], length}
use Rattle.session_script.specs.Reading.{Takes}
use Rattle.session_script.specs.Script.{longest_line}
use Rattle.session_script.proofs.reader.ScriptReader.line.Given as goal

abbrev pub invariant-pieces : goal.invariant-pieces
invariant-pieces g l = record {
  taken : Takes l.fn.self l.self (g.S.Source.left l.fn.source) (g.S.Source.left l.source) [];
  later : g.S.Source.faults l.fn.source ≤ g.S.Source.faults l.source;
}

abbrev pub decreases-pieces : goal.decreases-pieces
decreases-pieces g l = longest_line + 1 - length l.self.pending
