-- The reply to ReadShareGroupState of version 0 (KIP-932, ReadShareGroupStateResponse.json).
-- For example one with state epoch 3 and start 7 for partition 0 and no batches has 41 bytes.
use Rattle.std.specs.Prelude.{ℕ, ℤ, List, Option, refl}
use Rattle.flex_fields.specs.Formats.{Format, Shape, structure, array, ◌▹◌, null_string, int16, int32, int64}
use Rattle.msgs_state.specs.declared.read_reply.ReadPartitionResult.{ReadPartitionResult}
use Rattle.msgs_state.specs.declared.state_message.StateReply.{StateReply}
use Rattle.msgs_state.specs.StateMessage.{state_reply}
use Rattle.msgs_state.specs.declared.state_batch.StateBatch.{StateBatch}
use Rattle.msgs_state.specs.StateBatch.{state_batch}

abbrev pub read_partition_result_shape : Shape ReadPartitionResult (ℤ × (ℤ × (Option (List ℕ) × (ℤ × (ℤ × List StateBatch)))))
read_partition_result_shape = record {
  make = λ x. record {
    partition = x.0;
    error_code = x.1.0;
    error_message = x.1.1.0;
    state_epoch = x.1.1.1.0;
    start_offset = x.1.1.1.1.0;
    state_batches = x.1.1.1.1.1;
  };
  parts = λ s. (s.partition, (s.error_code, (s.error_message, (s.state_epoch, (s.start_offset, s.state_batches)))));
  back = λ _. refl;
  there = λ _. refl;
}

unfoldable pub read_partition_result : Format ReadPartitionResult
read_partition_result = structure read_partition_result_shape (int32 ▹ int16 ▹ null_string ▹ int32 ▹ int64 ▹ array state_batch)

abbrev pub read_share_group_state_reply : Format (StateReply ReadPartitionResult)
read_share_group_state_reply = state_reply read_partition_result
