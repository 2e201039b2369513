use Rattle.std.proofs.Common.{◌≡◌, ◌+◌, ◌^◌, map, take}
use Rattle.share_model.specs.Acks.{types_in}
use Rattle.share_session.specs.Requests.{ack_batch}
use Rattle.share_session.proofs.wanted.acks_of.Given as goal

abbrev pub invariant-loop-batch : goal.invariant-loop-batch
invariant-loop-batch l = record {
  list : l.list.items ≡ map ack_batch (take l.batch-index l.batches);
  room : types_in l.list.items + l.room + 1 ≡ 2 ^ 32;
}
