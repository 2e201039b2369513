-- Reading a reply to ShareFetch with the places of what stands in it (ShareFetchResponse.json of version 1): the same fields in the
-- same order as the reader of the message has them, and beside each partition, each element of its acquired records and the bytes of
-- its batches the place of the first byte.
-- For example in a reply whose first partition stands at 34 the batches of 85 bytes behind its leader begin at 54.
use Rattle.std.specs.Prelude.{ℕ, ℤ, List, map, take, Option, Result, Ok}
use Rattle.std.specs.Option.{option_map}
use Rattle.flex_fields.specs.declared.fault.WireFault.{WireFault}
use Rattle.flex_fields.specs.declared.fault.WireFault.TheVariants.{Short}
use Rattle.flex_fields.specs.Formats.{int16, int32, null_string, uuid}
use Rattle.flex_fields.specs.Reading.{At, ◌>>=◌, array_at, as_at, len_at, nullable_at, past, tagged_at, then_at}
use Rattle.msgs_share.specs.declared.nodes.CurrentLeader.{CurrentLeader}
use Rattle.msgs_share.specs.declared.nodes.NodeEndpoint.{NodeEndpoint}
use Rattle.msgs_share.specs.declared.share_fetch_reply.AcquiredRecords.{AcquiredRecords}
use Rattle.msgs_share.specs.declared.share_fetch_reply.FetchedPartition.{FetchedPartition}
use Rattle.msgs_share.specs.declared.share_fetch_reply.ShareFetchReply.{ShareFetchReply}
use Rattle.msgs_share.specs.declared.share_topic.ShareTopic.{ShareTopic}
use Rattle.msgs_share.specs.Nodes.{current_leader, node_endpoint}
use Rattle.msgs_share.specs.ShareFetchReply.{acquired_records}
use Rattle.share_client.specs.declared.fetched.LocatedFetch.{LocatedFetch}
use Rattle.share_client.specs.declared.fetched.LocatedPartition.{LocatedPartition}
use Rattle.share_client.specs.declared.located.Located.{Located}
use Rattle.share_client.specs.declared.located.LocatedRecords.{LocatedRecords}

-- what the reader reads, and the place of its first byte
abbrev pub located_at : {A : Type 0} → (At → Result (A × At) WireFault) → At → Result (Located A × At) WireFault
located_at read at = as_at (λ x. record { place = at.place; item = x }) read at

-- a length and that many bytes, with the place of the first byte behind the length
unfoldable pub located_bytes_at : At → Result (Located (List ℕ) × At) WireFault
located_bytes_at at = do
  n ← len_at (Short at.place) at
  Ok (record { place = n.1.place; item = take n.0 n.1.left }, past n.0 n.1)

unfoldable pub located_records_at : At → Result (LocatedRecords × At) WireFault
located_records_at at = as_at (λ x. record { records = x }) (nullable_at located_bytes_at) at

abbrev pub PartitionFields : Type 0
PartitionFields = ℤ × (ℤ × (Option (List ℕ) × (ℤ × (Option (List ℕ) × (CurrentLeader × (LocatedRecords × List (Located AcquiredRecords)))))))

abbrev pub partition_of : PartitionFields → LocatedPartition
partition_of x = record {
  partition_index = x.0;
  error_code = x.1.0;
  error_message = x.1.1.0;
  acknowledge_error_code = x.1.1.1.0;
  acknowledge_error_message = x.1.1.1.1.0;
  current_leader = x.1.1.1.1.1.0;
  records = x.1.1.1.1.1.1.0.records;
  acquired_records = x.1.1.1.1.1.1.1;
}

unfoldable pub partition_at : At → Result (LocatedPartition × At) WireFault
partition_at at = as_at partition_of (tagged_at (then_at int32.read (then_at int16.read (then_at null_string.read (then_at int16.read
    (then_at null_string.read (then_at current_leader.read (then_at located_records_at (array_at (located_at acquired_records.read)))))))))) at

unfoldable pub topic_at : At → Result (ShareTopic (Located LocatedPartition) × At) WireFault
topic_at at = as_at (λ x. record { topic_id = x.0; partitions = x.1 }) (tagged_at (then_at uuid.read (array_at (located_at partition_at)))) at

abbrev pub FetchFields : Type 0
FetchFields = ℤ × (ℤ × (Option (List ℕ) × (ℤ × (List (ShareTopic (Located LocatedPartition)) × List NodeEndpoint))))

abbrev pub fetch_of : FetchFields → LocatedFetch
fetch_of x = record {
  throttle_time_ms = x.0;
  error_code = x.1.0;
  error_message = x.1.1.0;
  acquisition_lock_timeout_ms = x.1.1.1.0;
  responses = x.1.1.1.1.0;
  node_endpoints = x.1.1.1.1.1;
}

-- the reply to ShareFetch, with places
unfoldable pub located_fetch_at : At → Result (LocatedFetch × At) WireFault
located_fetch_at at = as_at fetch_of (tagged_at (then_at int32.read (then_at int16.read (then_at null_string.read (then_at int32.read
    (then_at (array_at topic_at) (array_at node_endpoint.read))))))) at

-- ---- without places

abbrev pub bare_partition : LocatedPartition → FetchedPartition
bare_partition p = record {
  partition_index = p.partition_index;
  error_code = p.error_code;
  error_message = p.error_message;
  acknowledge_error_code = p.acknowledge_error_code;
  acknowledge_error_message = p.acknowledge_error_message;
  current_leader = p.current_leader;
  records = option_map (λ x. x.item) p.records;
  acquired_records = map (λ x. x.item) p.acquired_records;
}

abbrev pub bare_topic : ShareTopic (Located LocatedPartition) → ShareTopic FetchedPartition
bare_topic t = record { topic_id = t.topic_id; partitions = map (λ x. bare_partition x.item) t.partitions }

-- the reply without places
abbrev pub bare_fetch : LocatedFetch → ShareFetchReply
bare_fetch f = record {
  throttle_time_ms = f.throttle_time_ms;
  error_code = f.error_code;
  error_message = f.error_message;
  acquisition_lock_timeout_ms = f.acquisition_lock_timeout_ms;
  responses = map bare_topic f.responses;
  node_endpoints = f.node_endpoints;
}
