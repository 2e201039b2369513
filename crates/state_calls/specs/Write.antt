-- WriteShareGroupState (KIP-932). A hosted partition is refused with 42, which is this project's own.
-- For example partition 0 with the batch 0, 4, 2, 1 asks a Write of its key with that batch.
use Rattle.std.specs.Prelude.{map}
use Rattle.share_model.specs.declared.foreign.ForeignOp.TheVariants.{Write as ForeignWrite}
use Rattle.share_model.specs.ErrorCodes.{INVALID_REQUEST}
use Rattle.msgs_state.specs.declared.write_request.WritePartition.{WritePartition}
use Rattle.msgs_state.specs.declared.state_reply.PartitionResult.{PartitionResult}
use Rattle.state_calls.specs.declared.write.Writing.{Writing}
use Rattle.state_calls.specs.declared.hosting.Hosting.TheVariants.{Refuses}
use Rattle.state_calls.specs.States.{StateMeans}
use Rattle.state_calls.specs.Told.{batch_in, code_row}

abbrev pub write_means : StateMeans WritePartition Writing PartitionResult
write_means = record {
  wish = λ p. (
    p.partition,
    record { state_epoch = p.state_epoch; leader_epoch = p.leader_epoch; start = p.start_offset; batches = p.state_batches },
  );
  hosted = Refuses INVALID_REQUEST;
  op = λ key wish. ForeignWrite key wish.state_epoch wish.leader_epoch wish.start (map batch_in wish.batches);
  row = λ partition answer. code_row partition answer.code;
}
