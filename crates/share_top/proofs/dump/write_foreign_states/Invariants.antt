use Rattle.std.proofs.Common.{◌≡◌, []}
use Rattle.text_pieces.proofs.Going.{IsSoFar}
use Rattle.share_top.specs.Dumping.{foreign_texts}
use Rattle.share_top.proofs.dump.write_foreign_states.Given as goal

abbrev pub invariant-loop-key : goal.invariant-loop-key
invariant-loop-key g l = record {
  so_far : IsSoFar (g.O.Sink.held l.fn.output) (g.O.Sink.held l.output) [] (foreign_texts l.states) (foreign_texts l.fn.states);
  counted : g.O.Sink.faults l.output ≡ g.O.Sink.faults l.fn.output;
}
