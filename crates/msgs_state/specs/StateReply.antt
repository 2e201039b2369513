-- The reply to InitializeShareGroupState, WriteShareGroupState and DeleteShareGroupState of version 0 (KIP-932,
-- InitializeShareGroupStateResponse.json and its two likes).
-- For example one with code 0 for partition 0 has 28 bytes.
use Rattle.std.specs.Prelude.{ℕ, ℤ, List, Option, refl}
use Rattle.flex_fields.specs.Formats.{Format, Shape, structure, ◌▹◌, null_string, int16, int32}
use Rattle.msgs_state.specs.declared.state_reply.PartitionResult.{PartitionResult}
use Rattle.msgs_state.specs.declared.state_message.StateReply.{StateReply}
use Rattle.msgs_state.specs.StateMessage.{state_reply}

abbrev pub partition_result_shape : Shape PartitionResult (ℤ × (ℤ × Option (List ℕ)))
partition_result_shape = record {
  make = λ x. record { partition = x.0; error_code = x.1.0; error_message = x.1.1 };
  parts = λ s. (s.partition, (s.error_code, s.error_message));
  back = λ _. refl;
  there = λ _. refl;
}

unfoldable pub partition_result : Format PartitionResult
partition_result = structure partition_result_shape (int32 ▹ int16 ▹ null_string)

abbrev pub share_group_state_reply : Format (StateReply PartitionResult)
share_group_state_reply = state_reply partition_result
