use Rattle.std.proofs.Common.{◌≡◌, take}
use Rattle.std.specs.Vec.{vec_len}
use Rattle.share_model.proofs.ack.AckList.copied.Given as goal

abbrev pub invariant-loop-batch : goal.invariant-loop-batch
invariant-loop-batch l = record { list : l.copy.items ≡ take l.batch-index l.batches; count : vec_len l.copy ≡ l.batch-index }
