-- The Produce request of the versions 3 to 9 (ProduceRequest.json): for each topic, by its name, the record batches that its
-- partitions get.
-- For example that of topic `t` with three bytes for partition 0 has 22 bytes in version 9 (layer_rows, `Produce of one
-- partition`).
use Rattle.std.specs.Prelude.{ℕ, ℤ, List, Option, refl}
use Rattle.flex_fields.specs.declared.version.Version.{Version}
use Rattle.flex_fields.specs.Formats.{Shape, int16, int32}
use Rattle.flex_fields.specs.Versions.{Schema, structure_of, always, simply, text, null_text, null_octets, array_of, ◌▷◌}
use Rattle.msgs_base.specs.declared.produce_request.ProducePartition.{ProducePartition}
use Rattle.msgs_base.specs.declared.produce_request.ProduceTopic.{ProduceTopic}
use Rattle.msgs_base.specs.declared.produce_request.ProduceRequest.{ProduceRequest}

abbrev pub produce_partition_shape : Shape ProducePartition (ℤ × Option (List ℕ))
produce_partition_shape = record {
  make = λ x. record { index = x.0; records = x.1 };
  parts = λ s. (s.index, s.records);
  back = λ _. refl;
  there = λ _. refl;
}

unfoldable pub produce_partition : Version → Schema ProducePartition
produce_partition v = structure_of v produce_partition_shape (
    always (simply int32)
    ▷ always (null_octets v)
    ) refl

abbrev pub produce_topic_shape : Shape ProduceTopic (List ℕ × List ProducePartition)
produce_topic_shape = record {
  make = λ x. record { name = x.0; partition_data = x.1 };
  parts = λ s. (s.name, s.partition_data);
  back = λ _. refl;
  there = λ _. refl;
}

unfoldable pub produce_topic : Version → Schema ProduceTopic
produce_topic v = structure_of v produce_topic_shape (
    always (text v)
    ▷ always (array_of v (produce_partition v))
    ) refl

abbrev pub produce_request_shape : Shape ProduceRequest (Option (List ℕ) × (ℤ × (ℤ × List ProduceTopic)))
produce_request_shape = record {
  make = λ x. record { transactional_id = x.0; acks = x.1.0; timeout_ms = x.1.1.0; topic_data = x.1.1.1 };
  parts = λ s. (s.transactional_id, (s.acks, (s.timeout_ms, s.topic_data)));
  back = λ _. refl;
  there = λ _. refl;
}

unfoldable pub produce_request : Version → Schema ProduceRequest
produce_request v = structure_of v produce_request_shape (
    always (null_text v)
    ▷ always (simply int16)
    ▷ always (simply int32)
    ▷ always (array_of v (produce_topic v))
    ) refl
