-- The reply to ListGroups of version 5 (Kafka's message schemas, ListGroupsResponse).
-- For example one that lists the group `g` is `00000000 0000 02 0267 06 7368617265 07 537461626c65 06 7368617265 00 00`.
use Rattle.std.specs.Prelude.{ℕ, ℤ, List, refl}
use Rattle.flex_fields.specs.Formats.{Format, Shape, structure, array, ◌▹◌, string, int16, int32}
use Rattle.msgs_admin.specs.declared.list_groups_reply.ListGroupsReply.{ListGroupsReply}
use Rattle.msgs_admin.specs.declared.list_groups_reply.ListedGroup.{ListedGroup}

abbrev pub listed_group_shape : Shape ListedGroup (List ℕ × (List ℕ × (List ℕ × List ℕ)))
listed_group_shape = record {
  make = λ x. record { group_id = x.0; protocol_type = x.1.0; group_state = x.1.1.0; group_type = x.1.1.1 };
  parts = λ s. (s.group_id, (s.protocol_type, (s.group_state, s.group_type)));
  back = λ _. refl;
  there = λ _. refl;
}

unfoldable pub listed_group : Format ListedGroup
listed_group = structure listed_group_shape (string ▹ string ▹ string ▹ string)

abbrev pub list_groups_reply_shape : Shape ListGroupsReply (ℤ × (ℤ × List ListedGroup))
list_groups_reply_shape = record {
  make = λ x. record { throttle_time_ms = x.0; error_code = x.1.0; groups = x.1.1 };
  parts = λ s. (s.throttle_time_ms, (s.error_code, s.groups));
  back = λ _. refl;
  there = λ _. refl;
}

unfoldable pub list_groups_reply : Format ListGroupsReply
list_groups_reply = structure list_groups_reply_shape (int32 ▹ int16 ▹ array listed_group)
