use Rattle.std.proofs.Common.{◌≡◌, ◌++◌, ◌<◌, ◌^◌, length}
use Rattle.std.specs.List.{AllByRecursion}
use Rattle.gate_journal.specs.Frames.{blocks, IsFrame}
use Rattle.gate_journal.proofs.text.read_text.Given as goal

abbrev pub invariant-loop-gate : goal.invariant-loop-gate
invariant-loop-gate l = record {
  read : l.bytes ≡ blocks l.frames.items ++ l.rest;
  fit : AllByRecursion IsFrame l.frames.items;
  at : l.place ≡ length (blocks l.frames.items);
  more : 0 < length l.rest;
  long : 1 < length l.bytes;
  few : length l.bytes < 2 ^ 64;
}

abbrev pub decreases-loop-gate : goal.decreases-loop-gate
decreases-loop-gate l = length l.rest
