-- The reply to DeleteRecords of version 2 (DeleteRecordsResponse.json): where the log of each partition starts now, its
-- low watermark, or an error.
-- For example one that tells 2 for partition 0 of topic `t` has 25 bytes (layer_rows, `its reply with a low
-- watermark`).
use Rattle.std.specs.Prelude.{ℕ, ℤ, List, refl}
use Rattle.flex_fields.specs.Formats.{Format, Shape, structure, array, ◌▹◌, string, int16, int32, int64}
use Rattle.msgs_base.specs.declared.delete_records_reply.DeleteRecordsPartitionResult.{DeleteRecordsPartitionResult}
use Rattle.msgs_base.specs.declared.delete_records_reply.DeleteRecordsTopicResult.{DeleteRecordsTopicResult}
use Rattle.msgs_base.specs.declared.delete_records_reply.DeleteRecordsReply.{DeleteRecordsReply}

abbrev pub delete_records_partition_result_shape : Shape DeleteRecordsPartitionResult (ℤ × (ℤ × ℤ))
delete_records_partition_result_shape = record {
  make = λ x. record { partition_index = x.0; low_watermark = x.1.0; error_code = x.1.1 };
  parts = λ s. (s.partition_index, (s.low_watermark, s.error_code));
  back = λ _. refl;
  there = λ _. refl;
}

unfoldable pub delete_records_partition_result : Format DeleteRecordsPartitionResult
delete_records_partition_result = structure delete_records_partition_result_shape (int32 ▹ int64 ▹ int16)

abbrev pub delete_records_topic_result_shape : Shape DeleteRecordsTopicResult (List ℕ × List DeleteRecordsPartitionResult)
delete_records_topic_result_shape = record {
  make = λ x. record { name = x.0; partitions = x.1 };
  parts = λ s. (s.name, s.partitions);
  back = λ _. refl;
  there = λ _. refl;
}

unfoldable pub delete_records_topic_result : Format DeleteRecordsTopicResult
delete_records_topic_result = structure delete_records_topic_result_shape (string ▹ array delete_records_partition_result)

abbrev pub delete_records_reply_shape : Shape DeleteRecordsReply (ℤ × List DeleteRecordsTopicResult)
delete_records_reply_shape = record {
  make = λ x. record { throttle_time_ms = x.0; topics = x.1 };
  parts = λ s. (s.throttle_time_ms, s.topics);
  back = λ _. refl;
  there = λ _. refl;
}

unfoldable pub delete_records_reply : Format DeleteRecordsReply
delete_records_reply = structure delete_records_reply_shape (int32 ▹ array delete_records_topic_result)
