use Rattle.std.proofs.Common.{◌≡◌, [], length}
use Rattle.std.specs.List.{flat_map}
use Rattle.text_pieces.proofs.Going.{IsSoFar}
use Rattle.broker_hosts.specs.Hosts.{AreOpenParts}
use Rattle.share_top.specs.Slots.{slot_text}
use Rattle.share_top.proofs.dump.write_parts.Given as goal

abbrev pub invariant-loop-slot : goal.invariant-loop-slot
invariant-loop-slot g l = record {
  so_far : IsSoFar (g.O.Sink.held l.fn.output) (g.O.Sink.held l.output) [] (flat_map slot_text l.rest) (flat_map slot_text l.fn.slots);
  counted : g.O.Sink.faults l.output ≡ g.O.Sink.faults l.fn.output;
  are_open : AreOpenParts l.rest;
}

abbrev pub decreases-loop-slot : goal.decreases-loop-slot
decreases-loop-slot g l = length l.rest
