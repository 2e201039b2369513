-- The ShareFetch request of version 1 (KIP-932, ShareFetchRequest.json).
-- For example one of no group and no member with epoch 0, all limits 0 and no topics is
-- `00 00 00000000 00000000 00000000 00000000 00000000 00000000 01 01 00`.
use Rattle.std.specs.Prelude.{ℕ, ℤ, List, Option, refl}
use Rattle.flex_fields.specs.Formats.{Format, Shape, structure, array, ◌▹◌, null_string, int32}
use Rattle.msgs_share.specs.declared.share_fetch_request.ShareFetchRequest.{ShareFetchRequest}
use Rattle.msgs_share.specs.declared.share_topic.SharePartition.{SharePartition}
use Rattle.msgs_share.specs.declared.share_topic.ShareTopic.{ShareTopic}
use Rattle.msgs_share.specs.ShareTopic.{share_partition, share_topic}

abbrev pub Fields : Type 0
Fields = Option (List ℕ) × (Option (List ℕ) × (ℤ × (ℤ × (ℤ × (ℤ × (ℤ × (ℤ × (List (ShareTopic SharePartition) × List (ShareTopic ℤ)))))))))

abbrev pub share_fetch_request_shape : Shape ShareFetchRequest Fields
share_fetch_request_shape = record {
  make = λ x. record {
    group_id = x.0;
    member_id = x.1.0;
    share_session_epoch = x.1.1.0;
    max_wait_ms = x.1.1.1.0;
    min_bytes = x.1.1.1.1.0;
    max_bytes = x.1.1.1.1.1.0;
    max_records = x.1.1.1.1.1.1.0;
    batch_size = x.1.1.1.1.1.1.1.0;
    topics = x.1.1.1.1.1.1.1.1.0;
    forgotten_topics_data = x.1.1.1.1.1.1.1.1.1;
  };
  parts = λ s. (s.group_id, (s.member_id, (s.share_session_epoch, (s.max_wait_ms, (s.min_bytes, (s.max_bytes, (s.max_records, (s.batch_size, (s.topics, s.forgotten_topics_data)))))))));
  back = λ _. refl;
  there = λ _. refl;
}

unfoldable pub share_fetch_request_fields : Format Fields
share_fetch_request_fields = null_string ▹ null_string ▹ int32 ▹ int32 ▹ int32 ▹ int32 ▹ int32 ▹ int32 ▹ array (share_topic share_partition) ▹ array (share_topic int32)

unfoldable pub share_fetch_request : Format ShareFetchRequest
share_fetch_request = structure share_fetch_request_shape share_fetch_request_fields
