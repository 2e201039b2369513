-- The reply to Metadata of the versions 0 to 12 (MetadataResponse.json).
-- For example one tells one broker, at port 9092, and one topic with one partition.
use Rattle.std.specs.Prelude.{ℕ, ℤ, pos, negsuc, Bool, false, List, [], Option, None, refl}
use Rattle.flex_fields.specs.declared.version.Version.{Version}
use Rattle.flex_fields.specs.Formats.{Shape, uuid, boolean, int16, int32}
use Rattle.flex_fields.specs.Versions.{Schema, structure_of, always, since, between, simply, text, null_text, array_of, ◌▷◌}
use Rattle.uuid.specs.Parts.{zero_bytes}
use Rattle.msgs_base.specs.Nullable.{null_text_since}
use Rattle.msgs_base.specs.declared.metadata_reply.MetadataBroker.{MetadataBroker}
use Rattle.msgs_base.specs.declared.metadata_reply.MetadataPartition.{MetadataPartition}
use Rattle.msgs_base.specs.declared.metadata_reply.MetadataTopic.{MetadataTopic}
use Rattle.msgs_base.specs.declared.metadata_reply.MetadataReply.{MetadataReply}

-- -2147483648, for operations that aren't told
abbrev no_operations : ℤ
no_operations = negsuc 2147483647

abbrev pub metadata_broker_shape : Shape MetadataBroker (ℤ × (List ℕ × (ℤ × Option (List ℕ))))
metadata_broker_shape = record {
  make = λ x. record { node_id = x.0; host = x.1.0; port = x.1.1.0; rack = x.1.1.1 };
  parts = λ s. (s.node_id, (s.host, (s.port, s.rack)));
  back = λ _. refl;
  there = λ _. refl;
}

unfoldable pub metadata_broker : Version → Schema MetadataBroker
metadata_broker v = structure_of v metadata_broker_shape (
    always (simply int32)
    ▷ always (text v)
    ▷ always (simply int32)
    ▷ since 1 v None (null_text v)
    ) refl

abbrev pub metadata_partition_shape : Shape MetadataPartition (ℤ × (ℤ × (ℤ × (ℤ × (List ℤ × (List ℤ × List ℤ))))))
metadata_partition_shape = record {
  make = λ x. record {
    error_code = x.0;
    partition_index = x.1.0;
    leader_id = x.1.1.0;
    leader_epoch = x.1.1.1.0;
    replica_nodes = x.1.1.1.1.0;
    isr_nodes = x.1.1.1.1.1.0;
    offline_replicas = x.1.1.1.1.1.1;
  };
  parts = λ s. (s.error_code, (s.partition_index, (s.leader_id, (s.leader_epoch, (s.replica_nodes, (s.isr_nodes, s.offline_replicas))))));
  back = λ _. refl;
  there = λ _. refl;
}

unfoldable pub metadata_partition : Version → Schema MetadataPartition
metadata_partition v = structure_of v metadata_partition_shape (
    always (simply int16)
    ▷ always (simply int32)
    ▷ always (simply int32)
    ▷ since 7 v (negsuc 0) (simply int32)
    ▷ always (array_of v (simply int32))
    ▷ always (array_of v (simply int32))
    ▷ since 5 v [] (array_of v (simply int32))
    ) refl

abbrev pub metadata_topic_shape : Shape MetadataTopic (ℤ × (Option (List ℕ) × (List ℕ × (Bool × (List MetadataPartition × ℤ)))))
metadata_topic_shape = record {
  make = λ x. record {
    error_code = x.0;
    name = x.1.0;
    topic_id = x.1.1.0;
    is_internal = x.1.1.1.0;
    partitions = x.1.1.1.1.0;
    topic_authorized_operations = x.1.1.1.1.1;
  };
  parts = λ s. (s.error_code, (s.name, (s.topic_id, (s.is_internal, (s.partitions, s.topic_authorized_operations)))));
  back = λ _. refl;
  there = λ _. refl;
}

unfoldable pub metadata_topic : Version → Schema MetadataTopic
metadata_topic v = structure_of v metadata_topic_shape (
    always (simply int16)
    ▷ always (null_text_since 12 v)
    ▷ since 10 v zero_bytes (simply uuid)
    ▷ since 1 v false (simply boolean)
    ▷ always (array_of v (metadata_partition v))
    ▷ since 8 v no_operations (simply int32)
    ) refl

abbrev pub metadata_reply_shape : Shape MetadataReply (ℤ × (List MetadataBroker × (Option (List ℕ) × (ℤ × (List MetadataTopic × ℤ)))))
metadata_reply_shape = record {
  make = λ x. record {
    throttle_time_ms = x.0;
    brokers = x.1.0;
    cluster_id = x.1.1.0;
    controller_id = x.1.1.1.0;
    topics = x.1.1.1.1.0;
    cluster_authorized_operations = x.1.1.1.1.1;
  };
  parts = λ s. (s.throttle_time_ms, (s.brokers, (s.cluster_id, (s.controller_id, (s.topics, s.cluster_authorized_operations)))));
  back = λ _. refl;
  there = λ _. refl;
}

unfoldable pub metadata_reply : Version → Schema MetadataReply
metadata_reply v = structure_of v metadata_reply_shape (
    since 3 v (pos 0) (simply int32)
    ▷ always (array_of v (metadata_broker v))
    ▷ since 2 v None (null_text v)
    ▷ since 1 v (negsuc 0) (simply int32)
    ▷ always (array_of v (metadata_topic v))
    ▷ between 8 10 v no_operations (simply int32)
    ) refl
