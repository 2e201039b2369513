-- The ShareAcknowledge request of version 1 (KIP-932, ShareAcknowledgeRequest.json).
-- For example one of group `g` and member `a` with epoch 1 and no topics is `02 67 02 61 00000001 01 00`.
use Rattle.std.specs.Prelude.{ℕ, ℤ, List, Option, refl}
use Rattle.flex_fields.specs.Formats.{Format, Shape, structure, array, ◌▹◌, null_string, int32}
use Rattle.msgs_share.specs.declared.share_ack_request.ShareAckRequest.{ShareAckRequest}
use Rattle.msgs_share.specs.declared.share_topic.SharePartition.{SharePartition}
use Rattle.msgs_share.specs.declared.share_topic.ShareTopic.{ShareTopic}
use Rattle.msgs_share.specs.ShareTopic.{share_partition, share_topic}

abbrev pub share_ack_request_shape : Shape ShareAckRequest (Option (List ℕ) × (Option (List ℕ) × (ℤ × List (ShareTopic SharePartition))))
share_ack_request_shape = record {
  make = λ x. record { group_id = x.0; member_id = x.1.0; share_session_epoch = x.1.1.0; topics = x.1.1.1 };
  parts = λ s. (s.group_id, (s.member_id, (s.share_session_epoch, s.topics)));
  back = λ _. refl;
  there = λ _. refl;
}

unfoldable pub share_ack_request : Format ShareAckRequest
share_ack_request = structure share_ack_request_shape (null_string ▹ null_string ▹ int32 ▹ array (share_topic share_partition))
