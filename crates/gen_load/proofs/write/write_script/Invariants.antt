use Rattle.std.proofs.Common.{◌≡◌, ◌*◌}
use Rattle.text_pieces.proofs.Going.{IsSoFar}
use Rattle.gen_load.specs.Bounds.{AreFew}
use Rattle.gen_load.specs.Scripts.{script_of}
use Rattle.gen_load.proofs.Writing.{lines_left}
use Rattle.gen_load.proofs.write.write_script.Given as goal

abbrev pub invariant-loop-done : goal.invariant-loop-done
invariant-loop-done g l = record {
  so_far : IsSoFar (g.O.Sink.held l.fn.output) (g.O.Sink.held l.output) l.script.text (lines_left l.fn.n l.done l.script.counts) (script_of l.fn.n);
  few : AreFew (8 * l.done) l.script.counts;
  counted : g.O.Sink.faults l.output ≡ g.O.Sink.faults l.fn.output;
}
