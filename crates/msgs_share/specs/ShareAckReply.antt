-- The reply to ShareAcknowledge of version 1 (KIP-932, ShareAcknowledgeResponse.json).
-- For example one with error 122 and no responses is `00000000 007a 00 01 01 00`.
use Rattle.std.specs.Prelude.{ℕ, ℤ, List, Option, refl}
use Rattle.flex_fields.specs.Formats.{Format, Shape, structure, array, ◌▹◌, null_string, int16, int32}
use Rattle.msgs_share.specs.declared.share_ack_reply.AcknowledgedPartition.{AcknowledgedPartition}
use Rattle.msgs_share.specs.declared.nodes.CurrentLeader.{CurrentLeader}
use Rattle.msgs_share.specs.declared.nodes.NodeEndpoint.{NodeEndpoint}
use Rattle.msgs_share.specs.declared.share_ack_reply.ShareAckReply.{ShareAckReply}
use Rattle.msgs_share.specs.declared.share_topic.ShareTopic.{ShareTopic}
use Rattle.msgs_share.specs.Nodes.{current_leader, node_endpoint}
use Rattle.msgs_share.specs.ShareTopic.{share_topic}

abbrev pub acknowledged_partition_shape : Shape AcknowledgedPartition (ℤ × (ℤ × (Option (List ℕ) × CurrentLeader)))
acknowledged_partition_shape = record {
  make = λ x. record { partition_index = x.0; error_code = x.1.0; error_message = x.1.1.0; current_leader = x.1.1.1 };
  parts = λ s. (s.partition_index, (s.error_code, (s.error_message, s.current_leader)));
  back = λ _. refl;
  there = λ _. refl;
}

unfoldable pub acknowledged_partition : Format AcknowledgedPartition
acknowledged_partition = structure acknowledged_partition_shape (int32 ▹ int16 ▹ null_string ▹ current_leader)

abbrev pub share_ack_reply_shape : Shape ShareAckReply (ℤ × (ℤ × (Option (List ℕ) × (List (ShareTopic AcknowledgedPartition) × List NodeEndpoint))))
share_ack_reply_shape = record {
  make = λ x. record {
    throttle_time_ms = x.0;
    error_code = x.1.0;
    error_message = x.1.1.0;
    responses = x.1.1.1.0;
    node_endpoints = x.1.1.1.1;
  };
  parts = λ s. (s.throttle_time_ms, (s.error_code, (s.error_message, (s.responses, s.node_endpoints))));
  back = λ _. refl;
  there = λ _. refl;
}

unfoldable pub share_ack_reply : Format ShareAckReply
share_ack_reply = structure share_ack_reply_shape (int32 ▹ int16 ▹ null_string ▹ array (share_topic acknowledged_partition) ▹ array node_endpoint)
