use Rattle.std.proofs.Common.{◌<◌, ◌+◌, ◌^◌, length}
use Rattle.gate_journal.proofs.Handing.{Walk}
use Rattle.gate_journal.proofs.visit.hand_over.Given as goal

abbrev pub invariant-loop-gate : goal.invariant-loop-gate
invariant-loop-gate g l = record {
  walk : Walk l.place l.bytes l.rest (g.V.FrameVisit.seen l.fn.visit) (g.V.FrameVisit.seen l.visit) l.used l.count;
  fits : l.place + length l.bytes < 2 ^ 64;
}

abbrev pub decreases-loop-gate : goal.decreases-loop-gate
decreases-loop-gate g l = length l.rest
