-- The ListOffsets request of version 10 (Kafka's message schemas, ListOffsetsRequest).
-- For example one that asks for the end of the partition 0 of `t`, which is the timestamp -1, and waits for 30 seconds is
-- `ffffffff 00 02 0274 02 00000000 ffffffff ffffffffffffffff 00 00 00007530 00`.
use Rattle.std.specs.Prelude.{ℤ, List, refl}
use Rattle.flex_fields.specs.Formats.{Format, Shape, structure, array, ◌▹◌, int8, int32, int64}
use Rattle.msgs_admin.specs.declared.list_offsets_request.ListOffsetsPartition.{ListOffsetsPartition}
use Rattle.msgs_admin.specs.declared.list_offsets_request.ListOffsetsRequest.{ListOffsetsRequest}
use Rattle.msgs_admin.specs.declared.named_topic.NamedTopic.{NamedTopic}
use Rattle.msgs_admin.specs.NamedTopic.{named_topic}

abbrev pub list_offsets_partition_shape : Shape ListOffsetsPartition (ℤ × (ℤ × ℤ))
list_offsets_partition_shape = record {
  make = λ x. record { partition_index = x.0; current_leader_epoch = x.1.0; timestamp = x.1.1 };
  parts = λ s. (s.partition_index, (s.current_leader_epoch, s.timestamp));
  back = λ _. refl;
  there = λ _. refl;
}

unfoldable pub list_offsets_partition : Format ListOffsetsPartition
list_offsets_partition = structure list_offsets_partition_shape (int32 ▹ int32 ▹ int64)

abbrev pub list_offsets_request_shape : Shape ListOffsetsRequest (ℤ × (ℤ × (List (NamedTopic ListOffsetsPartition) × ℤ)))
list_offsets_request_shape = record {
  make = λ x. record { replica_id = x.0; isolation_level = x.1.0; topics = x.1.1.0; timeout_ms = x.1.1.1 };
  parts = λ s. (s.replica_id, (s.isolation_level, (s.topics, s.timeout_ms)));
  back = λ _. refl;
  there = λ _. refl;
}

unfoldable pub list_offsets_request : Format ListOffsetsRequest
list_offsets_request = structure list_offsets_request_shape (int32 ▹ int8 ▹ array (named_topic list_offsets_partition) ▹ int32)
