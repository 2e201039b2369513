-- The DeleteRecords request of version 2 (DeleteRecordsRequest.json): for each topic, by its name, the offsets below
-- which the records of its partitions are deleted; -1 stands for the end of a log.
-- For example that of topic `t` with offset 2 for partition 0 has 23 bytes (layer_rows, `DeleteRecords of one
-- partition`).
use Rattle.std.specs.Prelude.{ℕ, ℤ, List, refl}
use Rattle.flex_fields.specs.Formats.{Format, Shape, structure, array, ◌▹◌, string, int32, int64}
use Rattle.msgs_base.specs.declared.delete_records_request.DeleteRecordsPartition.{DeleteRecordsPartition}
use Rattle.msgs_base.specs.declared.delete_records_request.DeleteRecordsTopic.{DeleteRecordsTopic}
use Rattle.msgs_base.specs.declared.delete_records_request.DeleteRecordsRequest.{DeleteRecordsRequest}

abbrev pub delete_records_partition_shape : Shape DeleteRecordsPartition (ℤ × ℤ)
delete_records_partition_shape = record {
  make = λ x. record { partition_index = x.0; offset = x.1 };
  parts = λ s. (s.partition_index, s.offset);
  back = λ _. refl;
  there = λ _. refl;
}

unfoldable pub delete_records_partition : Format DeleteRecordsPartition
delete_records_partition = structure delete_records_partition_shape (int32 ▹ int64)

abbrev pub delete_records_topic_shape : Shape DeleteRecordsTopic (List ℕ × List DeleteRecordsPartition)
delete_records_topic_shape = record {
  make = λ x. record { name = x.0; partitions = x.1 };
  parts = λ s. (s.name, s.partitions);
  back = λ _. refl;
  there = λ _. refl;
}

unfoldable pub delete_records_topic : Format DeleteRecordsTopic
delete_records_topic = structure delete_records_topic_shape (string ▹ array delete_records_partition)

abbrev pub delete_records_request_shape : Shape DeleteRecordsRequest (List DeleteRecordsTopic × ℤ)
delete_records_request_shape = record {
  make = λ x. record { topics = x.0; timeout_ms = x.1 };
  parts = λ s. (s.topics, s.timeout_ms);
  back = λ _. refl;
  there = λ _. refl;
}

unfoldable pub delete_records_request : Format DeleteRecordsRequest
delete_records_request = structure delete_records_request_shape (array delete_records_topic ▹ int32)
