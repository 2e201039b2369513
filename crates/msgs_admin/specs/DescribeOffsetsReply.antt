-- The reply to DescribeShareGroupOffsets of version 1 (KIP-932 with KIP-1226, DescribeShareGroupOffsetsResponse.json).
-- For example one in which the group `g` has come to 5 in the partition 0 of `t`, with 3 records behind it, is
-- `00000000 02 0267 02 0274 {16*22} 02 00000000 0000000000000005 00000000 0000000000000003 0000 00 00 00 0000 00 00 00`.
use Rattle.std.specs.Prelude.{ℕ, ℤ, List, Option, refl}
use Rattle.flex_fields.specs.Formats.{Format, Shape, structure, array, ◌▹◌, uuid, string, null_string, int16, int32}
use Rattle.msgs_admin.specs.declared.describe_offsets_reply.DescribeOffsetsReply.{DescribeOffsetsReply}
use Rattle.msgs_admin.specs.declared.describe_offsets_reply.DescribedOffsets.{DescribedOffsets}
use Rattle.msgs_admin.specs.declared.described_partition.DescribedPartition.{DescribedPartition}
use Rattle.msgs_admin.specs.declared.describe_offsets_reply.DescribedTopic.{DescribedTopic}
use Rattle.msgs_admin.specs.DescribedPartition.{described_partition}

abbrev pub described_topic_shape : Shape DescribedTopic (List ℕ × (List ℕ × List DescribedPartition))
described_topic_shape = record {
  make = λ x. record { topic_name = x.0; topic_id = x.1.0; partitions = x.1.1 };
  parts = λ s. (s.topic_name, (s.topic_id, s.partitions));
  back = λ _. refl;
  there = λ _. refl;
}

unfoldable pub described_topic : Format DescribedTopic
described_topic = structure described_topic_shape (string ▹ uuid ▹ array described_partition)

abbrev pub described_offsets_shape : Shape DescribedOffsets (List ℕ × (List DescribedTopic × (ℤ × Option (List ℕ))))
described_offsets_shape = record {
  make = λ x. record { group_id = x.0; topics = x.1.0; error_code = x.1.1.0; error_message = x.1.1.1 };
  parts = λ s. (s.group_id, (s.topics, (s.error_code, s.error_message)));
  back = λ _. refl;
  there = λ _. refl;
}

unfoldable pub described_offsets : Format DescribedOffsets
described_offsets = structure described_offsets_shape (string ▹ array described_topic ▹ int16 ▹ null_string)

abbrev pub describe_offsets_reply_shape : Shape DescribeOffsetsReply (ℤ × List DescribedOffsets)
describe_offsets_reply_shape = record {
  make = λ x. record { throttle_time_ms = x.0; groups = x.1 };
  parts = λ s. (s.throttle_time_ms, s.groups);
  back = λ _. refl;
  there = λ _. refl;
}

unfoldable pub describe_offsets_reply : Format DescribeOffsetsReply
describe_offsets_reply = structure describe_offsets_reply_shape (int32 ▹ array described_offsets)
