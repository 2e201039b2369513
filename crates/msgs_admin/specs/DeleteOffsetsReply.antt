-- The reply to DeleteShareGroupOffsets of version 0 (KIP-932, DeleteShareGroupOffsetsResponse.json).
-- For example one in which the topic `t` is forgotten is `00000000 0000 00 02 0274 {16*22} 0000 00 00 00`.
use Rattle.std.specs.Prelude.{ℕ, ℤ, List, Option, refl}
use Rattle.flex_fields.specs.Formats.{Format, Shape, structure, array, ◌▹◌, uuid, string, null_string, int16, int32}
use Rattle.msgs_admin.specs.declared.delete_offsets_reply.DeleteOffsetsReply.{DeleteOffsetsReply}
use Rattle.msgs_admin.specs.declared.delete_offsets_reply.DeletedTopic.{DeletedTopic}

abbrev pub deleted_topic_shape : Shape DeletedTopic (List ℕ × (List ℕ × (ℤ × Option (List ℕ))))
deleted_topic_shape = record {
  make = λ x. record { topic_name = x.0; topic_id = x.1.0; error_code = x.1.1.0; error_message = x.1.1.1 };
  parts = λ s. (s.topic_name, (s.topic_id, (s.error_code, s.error_message)));
  back = λ _. refl;
  there = λ _. refl;
}

unfoldable pub deleted_topic : Format DeletedTopic
deleted_topic = structure deleted_topic_shape (string ▹ uuid ▹ int16 ▹ null_string)

abbrev pub delete_offsets_reply_shape : Shape DeleteOffsetsReply (ℤ × (ℤ × (Option (List ℕ) × List DeletedTopic)))
delete_offsets_reply_shape = record {
  make = λ x. record { throttle_time_ms = x.0; error_code = x.1.0; error_message = x.1.1.0; responses = x.1.1.1 };
  parts = λ s. (s.throttle_time_ms, (s.error_code, (s.error_message, s.responses)));
  back = λ _. refl;
  there = λ _. refl;
}

unfoldable pub delete_offsets_reply : Format DeleteOffsetsReply
delete_offsets_reply = structure delete_offsets_reply_shape (int32 ▹ int16 ▹ null_string ▹ array deleted_topic)
