-- The reply to Produce of the versions 3 to 9 (ProduceResponse.json): the offset of each batch, or an error.
-- For example one that tells offset 3 for partition 0 of topic `t` has 43 bytes in version 9 (layer_rows, `its reply with an
-- offset`).
use Rattle.std.specs.Prelude.{ℕ, ℤ, negsuc, List, [], Option, None, refl}
use Rattle.flex_fields.specs.declared.version.Version.{Version}
use Rattle.flex_fields.specs.Formats.{Shape, int16, int32, int64}
use Rattle.flex_fields.specs.Versions.{Schema, structure_of, always, since, simply, text, null_text, array_of, ◌▷◌}
use Rattle.msgs_base.specs.declared.produce_reply.ProduceRecordError.{ProduceRecordError}
use Rattle.msgs_base.specs.declared.produce_reply.ProducePartitionReply.{ProducePartitionReply}
use Rattle.msgs_base.specs.declared.produce_reply.ProduceTopicReply.{ProduceTopicReply}
use Rattle.msgs_base.specs.declared.produce_reply.ProduceReply.{ProduceReply}

abbrev pub produce_record_error_shape : Shape ProduceRecordError (ℤ × Option (List ℕ))
produce_record_error_shape = record {
  make = λ x. record { batch_index = x.0; batch_index_error_message = x.1 };
  parts = λ s. (s.batch_index, s.batch_index_error_message);
  back = λ _. refl;
  there = λ _. refl;
}

unfoldable pub produce_record_error : Version → Schema ProduceRecordError
produce_record_error v = structure_of v produce_record_error_shape (
    always (simply int32)
    ▷ always (null_text v)
    ) refl

abbrev pub produce_partition_reply_shape : Shape ProducePartitionReply (ℤ × (ℤ × (ℤ × (ℤ × (ℤ × (List ProduceRecordError × Option (List ℕ)))))))
produce_partition_reply_shape = record {
  make = λ x. record {
    index = x.0;
    error_code = x.1.0;
    base_offset = x.1.1.0;
    log_append_time_ms = x.1.1.1.0;
    log_start_offset = x.1.1.1.1.0;
    record_errors = x.1.1.1.1.1.0;
    error_message = x.1.1.1.1.1.1;
  };
  parts = λ s. (s.index, (s.error_code, (s.base_offset, (s.log_append_time_ms, (s.log_start_offset, (s.record_errors, s.error_message))))));
  back = λ _. refl;
  there = λ _. refl;
}

unfoldable pub produce_partition_reply : Version → Schema ProducePartitionReply
produce_partition_reply v = structure_of v produce_partition_reply_shape (
    always (simply int32)
    ▷ always (simply int16)
    ▷ always (simply int64)
    ▷ always (simply int64)
    ▷ since 5 v (negsuc 0) (simply int64)
    ▷ since 8 v [] (array_of v (produce_record_error v))
    ▷ since 8 v None (null_text v)
    ) refl

abbrev pub produce_topic_reply_shape : Shape ProduceTopicReply (List ℕ × List ProducePartitionReply)
produce_topic_reply_shape = record {
  make = λ x. record { name = x.0; partition_responses = x.1 };
  parts = λ s. (s.name, s.partition_responses);
  back = λ _. refl;
  there = λ _. refl;
}

unfoldable pub produce_topic_reply : Version → Schema ProduceTopicReply
produce_topic_reply v = structure_of v produce_topic_reply_shape (
    always (text v)
    ▷ always (array_of v (produce_partition_reply v))
    ) refl

abbrev pub produce_reply_shape : Shape ProduceReply (List ProduceTopicReply × ℤ)
produce_reply_shape = record {
  make = λ x. record { responses = x.0; throttle_time_ms = x.1 };
  parts = λ s. (s.responses, s.throttle_time_ms);
  back = λ _. refl;
  there = λ _. refl;
}

unfoldable pub produce_reply : Version → Schema ProduceReply
produce_reply v = structure_of v produce_reply_shape (
    always (array_of v (produce_topic_reply v))
    ▷ always (simply int32)
    ) refl
