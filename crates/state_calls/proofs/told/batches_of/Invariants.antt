use Rattle.std.proofs.Common.{◌≡◌, map, take}
use Rattle.std.specs.Vec.{vec_len}
use Rattle.state_calls.specs.Told.{batch_of}
use Rattle.state_calls.proofs.told.batches_of.Given as goal

abbrev pub invariant-loop-run : goal.invariant-loop-run
invariant-loop-run l = record {
  batches : l.batches.items ≡ map batch_of (take l.run-index l.runs);
  count : vec_len l.batches ≡ l.run-index;
}
