-- The InitializeShareGroupState request of version 0 (KIP-932, InitializeShareGroupStateRequest.json).
-- For example that of group `g1` for partition 0 with state epoch 3 and start 7 has 40 bytes.
use Rattle.std.specs.Prelude.{ℤ, refl}
use Rattle.flex_fields.specs.Formats.{Format, Shape, structure, ◌▹◌, int32, int64}
use Rattle.msgs_state.specs.declared.initialize_request.InitializePartition.{InitializePartition}
use Rattle.msgs_state.specs.declared.state_message.StateRequest.{StateRequest}
use Rattle.msgs_state.specs.StateMessage.{state_request}

abbrev pub initialize_partition_shape : Shape InitializePartition (ℤ × (ℤ × ℤ))
initialize_partition_shape = record {
  make = λ x. record { partition = x.0; state_epoch = x.1.0; start_offset = x.1.1 };
  parts = λ s. (s.partition, (s.state_epoch, s.start_offset));
  back = λ _. refl;
  there = λ _. refl;
}

unfoldable pub initialize_partition : Format InitializePartition
initialize_partition = structure initialize_partition_shape (int32 ▹ int32 ▹ int64)

abbrev pub initialize_share_group_state_request : Format (StateRequest InitializePartition)
initialize_share_group_state_request = state_request initialize_partition
