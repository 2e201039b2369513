use Rattle.std.proofs.Common.{◌≡◌, ◌++◌, length}
use Rattle.text_pieces.proofs.Going.{IsSoFar}
use Rattle.state_text.specs.Texts.{run_lines}
use Rattle.state_text.proofs.write.write_runs.Given as goal

abbrev pub invariant-loop-run : goal.invariant-loop-run
invariant-loop-run g l = record {
  so_far : IsSoFar (g.O.Sink.held l.fn.output) (g.O.Sink.held l.output) l.text (run_lines l.rest) (l.fn.text ++ run_lines l.fn.runs);
  counted : g.O.Sink.faults l.output ≡ g.O.Sink.faults l.fn.output;
}

abbrev pub decreases-loop-run : goal.decreases-loop-run
decreases-loop-run g l = length l.rest
