use Rattle.std.proofs.Common.{◌≤◌, vec_len}
use Rattle.edge_io.specs.Streams.{Gains}
use Rattle.edge_io.proofs.copying.read_to_end.Given as goal

abbrev pub invariant-loop : goal.invariant-loop
invariant-loop g l = record {
  read : Gains (g.S.Source.left l.fn.source) (g.S.Source.left l.source) l.fn.out.items l.out.items;
  long : l.counter ≤ vec_len l.out;
  later : g.S.Source.faults l.fn.source ≤ g.S.Source.faults l.source;
}
