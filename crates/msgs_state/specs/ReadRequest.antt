-- The ReadShareGroupState request of version 0 (KIP-932, ReadShareGroupStateRequest.json).
-- For example that of group `g1` for partition 0 has 32 bytes.
use Rattle.std.specs.Prelude.{ℤ, refl}
use Rattle.flex_fields.specs.Formats.{Format, Shape, structure, ◌▹◌, int32}
use Rattle.msgs_state.specs.declared.read_request.ReadPartition.{ReadPartition}
use Rattle.msgs_state.specs.declared.state_message.StateRequest.{StateRequest}
use Rattle.msgs_state.specs.StateMessage.{state_request}

abbrev pub read_partition_shape : Shape ReadPartition (ℤ × ℤ)
read_partition_shape = record {
  make = λ x. record { partition = x.0; leader_epoch = x.1 };
  parts = λ s. (s.partition, s.leader_epoch);
  back = λ _. refl;
  there = λ _. refl;
}

unfoldable pub read_partition : Format ReadPartition
read_partition = structure read_partition_shape (int32 ▹ int32)

abbrev pub read_share_group_state_request : Format (StateRequest ReadPartition)
read_share_group_state_request = state_request read_partition
