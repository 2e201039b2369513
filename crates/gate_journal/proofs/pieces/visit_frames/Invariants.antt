use Rattle.std.proofs.Common.{◌≡◌, ◌⊎◌, ◌∷◌, ◌<◌, ◌+◌, ◌-◌, List, ℕ, length, vec_len}
use Rattle.gate_journal.specs.Frames.{IsBroken}
use Rattle.gate_journal.specs.Visits.{LooksFor}
use Rattle.gate_journal.proofs.InPieces.{Front}
use Rattle.gate_journal.proofs.pieces.visit_frames.Given as goal

abbrev pub invariant-loop-place : goal.invariant-loop-place
invariant-loop-place g l = record {
  front : Front (g.D.Disk.seen l.fn.disk).content (g.D.Disk.seen l.fn.disk).size (g.V.FrameVisit.seen l.fn.visit) (g.V.FrameVisit.seen l.visit) l.held.items l.place l.count;
  waits : (l.place + length l.held.items ≡ 0) ⊎ ((behind : List ℕ) × (l.held.items ≡ 1 ∷ behind) × IsBroken behind);
  looks : LooksFor g.D.Disk.seen l.fn.disk l.disk ⊥;
  long : 1 < l.size;
  size_is : l.size ≡ (g.D.Disk.seen l.fn.disk).size;
}

abbrev pub decreases-loop-place : goal.decreases-loop-place
decreases-loop-place g l = l.size - (l.place + vec_len l.held)
