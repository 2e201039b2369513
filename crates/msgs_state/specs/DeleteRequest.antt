-- The DeleteShareGroupState request of version 0 (KIP-932, DeleteShareGroupStateRequest.json).
-- For example that of group `g1` for partition 0 has 28 bytes.
use Rattle.std.specs.Prelude.{ℤ, refl}
use Rattle.flex_fields.specs.Formats.{Format, Shape, structure, int32}
use Rattle.msgs_state.specs.declared.delete_request.DeletePartition.{DeletePartition}
use Rattle.msgs_state.specs.declared.state_message.StateRequest.{StateRequest}
use Rattle.msgs_state.specs.StateMessage.{state_request}

abbrev pub delete_partition_shape : Shape DeletePartition ℤ
delete_partition_shape = record { make = λ x. record { partition = x }; parts = λ s. s.partition; back = λ _. refl; there = λ _. refl }

unfoldable pub delete_partition : Format DeletePartition
delete_partition = structure delete_partition_shape int32

abbrev pub delete_share_group_state_request : Format (StateRequest DeletePartition)
delete_share_group_state_request = state_request delete_partition
