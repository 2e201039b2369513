-- The reply to ShareFetch of version 1 (KIP-932, ShareFetchResponse.json).
-- For example one with no error, the lock duration 30000 and no responses is `00000000 0000 00 00007530 01 01 00`.
use Rattle.std.specs.Prelude.{ℕ, ℤ, List, Option, refl}
use Rattle.flex_fields.specs.Formats.{Format, Shape, structure, array, ◌▹◌, null_string, null_byte_string, int16, int32, int64}
use Rattle.msgs_share.specs.declared.share_fetch_reply.AcquiredRecords.{AcquiredRecords}
use Rattle.msgs_share.specs.declared.nodes.CurrentLeader.{CurrentLeader}
use Rattle.msgs_share.specs.declared.share_fetch_reply.FetchedPartition.{FetchedPartition}
use Rattle.msgs_share.specs.declared.nodes.NodeEndpoint.{NodeEndpoint}
use Rattle.msgs_share.specs.declared.share_fetch_reply.ShareFetchReply.{ShareFetchReply}
use Rattle.msgs_share.specs.declared.share_topic.ShareTopic.{ShareTopic}
use Rattle.msgs_share.specs.Nodes.{current_leader, node_endpoint}
use Rattle.msgs_share.specs.ShareTopic.{share_topic}

abbrev pub acquired_records_shape : Shape AcquiredRecords (ℤ × (ℤ × ℤ))
acquired_records_shape = record {
  make = λ x. record { first_offset = x.0; last_offset = x.1.0; delivery_count = x.1.1 };
  parts = λ s. (s.first_offset, (s.last_offset, s.delivery_count));
  back = λ _. refl;
  there = λ _. refl;
}

unfoldable pub acquired_records : Format AcquiredRecords
acquired_records = structure acquired_records_shape (int64 ▹ int64 ▹ int16)

abbrev pub fetched_partition_shape : Shape FetchedPartition (ℤ × (ℤ × (Option (List ℕ) × (ℤ × (Option (List ℕ) × (CurrentLeader × (Option (List ℕ) × List AcquiredRecords)))))))
fetched_partition_shape = record {
  make = λ x. record {
    partition_index = x.0;
    error_code = x.1.0;
    error_message = x.1.1.0;
    acknowledge_error_code = x.1.1.1.0;
    acknowledge_error_message = x.1.1.1.1.0;
    current_leader = x.1.1.1.1.1.0;
    records = x.1.1.1.1.1.1.0;
    acquired_records = x.1.1.1.1.1.1.1;
  };
  parts = λ s. (s.partition_index, (s.error_code, (s.error_message, (s.acknowledge_error_code, (s.acknowledge_error_message, (s.current_leader, (s.records, s.acquired_records)))))));
  back = λ _. refl;
  there = λ _. refl;
}

unfoldable pub fetched_partition : Format FetchedPartition
fetched_partition = structure fetched_partition_shape (int32 ▹ int16 ▹ null_string ▹ int16 ▹ null_string ▹ current_leader ▹ null_byte_string ▹ array acquired_records)

abbrev pub share_fetch_reply_shape : Shape ShareFetchReply (ℤ × (ℤ × (Option (List ℕ) × (ℤ × (List (ShareTopic FetchedPartition) × List NodeEndpoint)))))
share_fetch_reply_shape = record {
  make = λ x. record {
    throttle_time_ms = x.0;
    error_code = x.1.0;
    error_message = x.1.1.0;
    acquisition_lock_timeout_ms = x.1.1.1.0;
    responses = x.1.1.1.1.0;
    node_endpoints = x.1.1.1.1.1;
  };
  parts = λ s. (s.throttle_time_ms, (s.error_code, (s.error_message, (s.acquisition_lock_timeout_ms, (s.responses, s.node_endpoints)))));
  back = λ _. refl;
  there = λ _. refl;
}

unfoldable pub share_fetch_reply : Format ShareFetchReply
share_fetch_reply = structure share_fetch_reply_shape (int32 ▹ int16 ▹ null_string ▹ int32 ▹ array (share_topic fetched_partition) ▹ array node_endpoint)
