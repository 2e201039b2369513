-- ShareGroupDescribe in hand (KIP-932 and Kafka's message schemas, ShareGroupDescribeRequest and ShareGroupDescribeResponse, version
-- 1): a group that has members is Stable and told with them, one that is there without members is Empty, and one that isn't there is
-- Dead, with code 69. Client ids, hosts and racks aren't kept, no assignor is named, and no authorized operations are told, which
-- -2147483648 stands for.
-- For example of `g`, in epoch 3 with one member, and `h`, which nobody knows, the first is Stable with the member, and the second is
-- Dead with code 69 (layer_rows, `a group with its member, and one that is not there`).
use Rattle.std.specs.Prelude.{ℕ, ℤ, pos, negsuc, Bool, Option, Some, None, List, [], ◌∷◌, map, codes, take, drop, slice_get, if◌then◌else◌}
use Rattle.share_model.specs.declared.fault.Code.{Code}
use Rattle.share_model.specs.ErrorCodes.{NONE}
use Rattle.msgs_admin.specs.declared.group_describe_reply.DescribedGroup.{DescribedGroup}
use Rattle.msgs_admin.specs.declared.group_describe_reply.GroupMember.{GroupMember}
use Rattle.msgs_admin.specs.declared.group_describe_reply.MemberTopic.{MemberTopic}
use Rattle.msgs_admin.specs.GroupDescribeReply.{group_describe_reply}
use Rattle.log_calls.specs.Shapes.{NamedShapeParts}
use Rattle.describe_calls.specs.declared.looks.GroupRow.{GroupRow}
use Rattle.describe_calls.specs.declared.looks.GroupRow.TheVariants.{Members, Table}
use Rattle.describe_calls.specs.declared.summary.AssignedPartitions.{AssignedPartitions}
use Rattle.describe_calls.specs.declared.summary.GroupSummary.{GroupSummary}
use Rattle.describe_calls.specs.declared.summary.MemberSummary.{MemberSummary}
use Rattle.describe_calls.specs.Groups.{GROUP_ID_NOT_FOUND, is_there}

-- who is in the group, which the first row tells
abbrev pub row_members : Option GroupRow → Option GroupSummary
row_members None = None
row_members (Some (Members members)) = members
row_members (Some (Table table)) = None

abbrev pub members_in : List GroupRow → Option GroupSummary
members_in rows = row_members (slice_get rows 0)

-- ---- what the reply says of a group

abbrev pub assigned_row : AssignedPartitions → MemberTopic
assigned_row assigned = record { topic_id = assigned.id; topic_name = assigned.topic; partitions = assigned.partitions }

abbrev pub member_row : MemberSummary → GroupMember
member_row member = record {
  member_id = member.id;
  rack_id = None;
  member_epoch = member.epoch;
  client_id = [];
  client_host = [];
  subscribed_topic_names = member.topics;
  assignment = record { topic_partitions = map assigned_row member.assigned };
}

abbrev pub stable_group : List ℕ → GroupSummary → DescribedGroup
stable_group id group = record {
  error_code = NONE.0;
  error_message = None;
  group_id = id;
  group_state = codes "Stable";
  group_epoch = group.epoch;
  assignment_epoch = group.epoch;
  assignor_name = [];
  members = map member_row group.members;
  authorized_operations = negsuc 2147483647;
}

abbrev pub bare_group : List ℕ → List ℕ → Code → DescribedGroup
bare_group id state code = record {
  error_code = code.0;
  error_message = None;
  group_id = id;
  group_state = state;
  group_epoch = pos 0;
  assignment_epoch = pos 0;
  assignor_name = [];
  members = [];
  authorized_operations = negsuc 2147483647;
}

abbrev pub group_by : List ℕ → Option GroupSummary → Bool → DescribedGroup
group_by id (Some group) there = stable_group id group
group_by id None there = if there then bare_group id (codes "Empty") NONE else bare_group id (codes "Dead") GROUP_ID_NOT_FOUND

-- by its rows
abbrev pub described_group : List ℕ → List GroupRow → DescribedGroup
described_group id rows = group_by id (members_in rows) (is_there rows)

-- ---- the reply

-- the groups of the request, in order, each by its own rows
abbrev pub groups_by_rows : List NamedShapeParts → List GroupRow → List DescribedGroup
groups_by_rows [] rows = []
groups_by_rows (one ∷ shape) rows = described_group one.name (take one.count rows) ∷ groups_by_rows shape (drop one.count rows)

abbrev pub members_reply : List DescribedGroup → List ℕ
members_reply groups = group_describe_reply.bytes (record { throttle_time_ms = pos 0; groups = groups })
