-- The reply to ListOffsets of version 10 (Kafka's message schemas, ListOffsetsResponse).
-- For example one in which the partition 0 of `t` ends at 5 is
-- `00000000 02 0274 02 00000000 0000 ffffffffffffffff 0000000000000005 00000000 00 00 00`.
use Rattle.std.specs.Prelude.{ℤ, List, refl}
use Rattle.flex_fields.specs.Formats.{Format, Shape, structure, array, ◌▹◌, int16, int32, int64}
use Rattle.msgs_admin.specs.declared.list_offsets_reply.FoundOffset.{FoundOffset}
use Rattle.msgs_admin.specs.declared.list_offsets_reply.ListOffsetsReply.{ListOffsetsReply}
use Rattle.msgs_admin.specs.declared.named_topic.NamedTopic.{NamedTopic}
use Rattle.msgs_admin.specs.NamedTopic.{named_topic}

abbrev pub found_offset_shape : Shape FoundOffset (ℤ × (ℤ × (ℤ × (ℤ × ℤ))))
found_offset_shape = record {
  make = λ x. record {
    partition_index = x.0;
    error_code = x.1.0;
    timestamp = x.1.1.0;
    offset = x.1.1.1.0;
    leader_epoch = x.1.1.1.1;
  };
  parts = λ s. (s.partition_index, (s.error_code, (s.timestamp, (s.offset, s.leader_epoch))));
  back = λ _. refl;
  there = λ _. refl;
}

unfoldable pub found_offset : Format FoundOffset
found_offset = structure found_offset_shape (int32 ▹ int16 ▹ int64 ▹ int64 ▹ int32)

abbrev pub list_offsets_reply_shape : Shape ListOffsetsReply (ℤ × List (NamedTopic FoundOffset))
list_offsets_reply_shape = record {
  make = λ x. record { throttle_time_ms = x.0; topics = x.1 };
  parts = λ s. (s.throttle_time_ms, s.topics);
  back = λ _. refl;
  there = λ _. refl;
}

unfoldable pub list_offsets_reply : Format ListOffsetsReply
list_offsets_reply = structure list_offsets_reply_shape (int32 ▹ array (named_topic found_offset))
