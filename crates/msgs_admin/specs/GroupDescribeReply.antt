-- The reply to ShareGroupDescribe of version 1 (KIP-932, ShareGroupDescribeResponse.json).
-- For example one in which the group `g` isn't there, which has the code 69 and the state `Dead`, is
-- `00000000 02 0045 00 0267 05 44656164 00000000 00000000 01 01 80000000 00 00`.
use Rattle.std.specs.Prelude.{ℕ, ℤ, List, Option, refl}
use Rattle.flex_fields.specs.Formats.{Format, Shape, structure, array, ◌▹◌, uuid, string, null_string, int16, int32}
use Rattle.msgs_admin.specs.declared.group_describe_reply.DescribedGroup.{DescribedGroup}
use Rattle.msgs_admin.specs.declared.group_describe_reply.GroupDescribeReply.{GroupDescribeReply}
use Rattle.msgs_admin.specs.declared.group_describe_reply.GroupMember.{GroupMember}
use Rattle.msgs_admin.specs.declared.group_describe_reply.MemberAssignment.{MemberAssignment}
use Rattle.msgs_admin.specs.declared.group_describe_reply.MemberTopic.{MemberTopic}

abbrev pub member_topic_shape : Shape MemberTopic (List ℕ × (List ℕ × List ℤ))
member_topic_shape = record {
  make = λ x. record { topic_id = x.0; topic_name = x.1.0; partitions = x.1.1 };
  parts = λ s. (s.topic_id, (s.topic_name, s.partitions));
  back = λ _. refl;
  there = λ _. refl;
}

unfoldable pub member_topic : Format MemberTopic
member_topic = structure member_topic_shape (uuid ▹ string ▹ array int32)

abbrev pub member_assignment_shape : Shape MemberAssignment (List MemberTopic)
member_assignment_shape = record {
  make = λ x. record { topic_partitions = x };
  parts = λ s. s.topic_partitions;
  back = λ _. refl;
  there = λ _. refl;
}

unfoldable pub member_assignment : Format MemberAssignment
member_assignment = structure member_assignment_shape (array member_topic)

abbrev pub group_member_shape : Shape GroupMember (List ℕ × (Option (List ℕ) × (ℤ × (List ℕ × (List ℕ × (List (List ℕ) × MemberAssignment))))))
group_member_shape = record {
  make = λ x. record {
    member_id = x.0;
    rack_id = x.1.0;
    member_epoch = x.1.1.0;
    client_id = x.1.1.1.0;
    client_host = x.1.1.1.1.0;
    subscribed_topic_names = x.1.1.1.1.1.0;
    assignment = x.1.1.1.1.1.1;
  };
  parts = λ s. (s.member_id, (s.rack_id, (s.member_epoch, (s.client_id, (s.client_host, (s.subscribed_topic_names, s.assignment))))));
  back = λ _. refl;
  there = λ _. refl;
}

unfoldable pub group_member : Format GroupMember
group_member = structure group_member_shape (string ▹ null_string ▹ int32 ▹ string ▹ string ▹ array string ▹ member_assignment)

abbrev pub described_group_shape : Shape DescribedGroup (ℤ × (Option (List ℕ) × (List ℕ × (List ℕ × (ℤ × (ℤ × (List ℕ × (List GroupMember × ℤ))))))))
described_group_shape = record {
  make = λ x. record {
    error_code = x.0;
    error_message = x.1.0;
    group_id = x.1.1.0;
    group_state = x.1.1.1.0;
    group_epoch = x.1.1.1.1.0;
    assignment_epoch = x.1.1.1.1.1.0;
    assignor_name = x.1.1.1.1.1.1.0;
    members = x.1.1.1.1.1.1.1.0;
    authorized_operations = x.1.1.1.1.1.1.1.1;
  };
  parts = λ s. (s.error_code, (s.error_message, (s.group_id, (s.group_state, (s.group_epoch, (s.assignment_epoch, (s.assignor_name, (s.members, s.authorized_operations))))))));
  back = λ _. refl;
  there = λ _. refl;
}

unfoldable pub described_group : Format DescribedGroup
described_group = structure described_group_shape (int16 ▹ null_string ▹ string ▹ string ▹ int32 ▹ int32 ▹ string ▹ array group_member ▹ int32)

abbrev pub group_describe_reply_shape : Shape GroupDescribeReply (ℤ × List DescribedGroup)
group_describe_reply_shape = record {
  make = λ x. record { throttle_time_ms = x.0; groups = x.1 };
  parts = λ s. (s.throttle_time_ms, s.groups);
  back = λ _. refl;
  there = λ _. refl;
}

unfoldable pub group_describe_reply : Format GroupDescribeReply
group_describe_reply = structure group_describe_reply_shape (int32 ▹ array described_group)
