use Rattle.std.proofs.Common.{◌≡◌, map, take}
use Rattle.std.specs.Vec.{vec_len}
use Rattle.state_calls.specs.Told.{batch_in}
use Rattle.state_calls.proofs.told.batches_in.Given as goal

abbrev pub invariant-loop-batch : goal.invariant-loop-batch
invariant-loop-batch l = record {
  list : l.list.items ≡ map batch_in (take l.batch-index l.batches);
  count : vec_len l.list ≡ l.batch-index;
}
