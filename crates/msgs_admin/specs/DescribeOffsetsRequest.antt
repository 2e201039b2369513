-- The DescribeShareGroupOffsets request of version 1 (KIP-932, DescribeShareGroupOffsetsRequest.json).
-- For example one of all topics of the group `g`, which is null in place of topics, is `02 0267 00 00 00`.
use Rattle.std.specs.Prelude.{ℕ, ℤ, List, Option, refl}
use Rattle.flex_fields.specs.Formats.{Format, Shape, structure, array, null_array, ◌▹◌, string, int32}
use Rattle.msgs_admin.specs.declared.describe_offsets_request.AskedGroup.{AskedGroup}
use Rattle.msgs_admin.specs.declared.describe_offsets_request.DescribeOffsetsRequest.{DescribeOffsetsRequest}
use Rattle.msgs_admin.specs.declared.named_topic.NamedTopic.{NamedTopic}
use Rattle.msgs_admin.specs.NamedTopic.{named_topic}

abbrev pub asked_group_shape : Shape AskedGroup (List ℕ × Option (List (NamedTopic ℤ)))
asked_group_shape = record {
  make = λ x. record { group_id = x.0; topics = x.1 };
  parts = λ s. (s.group_id, s.topics);
  back = λ _. refl;
  there = λ _. refl;
}

unfoldable pub asked_group : Format AskedGroup
asked_group = structure asked_group_shape (string ▹ null_array (named_topic int32))

abbrev pub describe_offsets_request_shape : Shape DescribeOffsetsRequest (List AskedGroup)
describe_offsets_request_shape = record {
  make = λ x. record { groups = x };
  parts = λ s. s.groups;
  back = λ _. refl;
  there = λ _. refl;
}

unfoldable pub describe_offsets_request : Format DescribeOffsetsRequest
describe_offsets_request = structure describe_offsets_request_shape (array asked_group)
