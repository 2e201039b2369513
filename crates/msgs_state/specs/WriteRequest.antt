-- The WriteShareGroupState request of version 0 (KIP-932, WriteShareGroupStateRequest.json).
-- For example that of group `g1` for partition 0 with state epoch 3, leader epoch 0, start -1 and one batch has 65 bytes.
use Rattle.std.specs.Prelude.{ℤ, List, refl}
use Rattle.flex_fields.specs.Formats.{Format, Shape, structure, array, ◌▹◌, int32, int64}
use Rattle.msgs_state.specs.declared.write_request.WritePartition.{WritePartition}
use Rattle.msgs_state.specs.declared.state_batch.StateBatch.{StateBatch}
use Rattle.msgs_state.specs.declared.state_message.StateRequest.{StateRequest}
use Rattle.msgs_state.specs.StateBatch.{state_batch}
use Rattle.msgs_state.specs.StateMessage.{state_request}

abbrev pub write_partition_shape : Shape WritePartition (ℤ × (ℤ × (ℤ × (ℤ × List StateBatch))))
write_partition_shape = record {
  make = λ x. record {
    partition = x.0;
    state_epoch = x.1.0;
    leader_epoch = x.1.1.0;
    start_offset = x.1.1.1.0;
    state_batches = x.1.1.1.1;
  };
  parts = λ s. (s.partition, (s.state_epoch, (s.leader_epoch, (s.start_offset, s.state_batches))));
  back = λ _. refl;
  there = λ _. refl;
}

unfoldable pub write_partition : Format WritePartition
write_partition = structure write_partition_shape (int32 ▹ int32 ▹ int32 ▹ int64 ▹ array state_batch)

abbrev pub write_share_group_state_request : Format (StateRequest WritePartition)
write_share_group_state_request = state_request write_partition
