-- The reply to ShareGroupHeartbeat of version 1 (KIP-932, ShareGroupHeartbeatResponse.json).
-- For example one with error 110, no member and no assignment is `00000000 006e 00 00 00000000 00000000 ff 00`.
use Rattle.std.specs.Prelude.{ℕ, ℤ, List, Option, refl}
use Rattle.flex_fields.specs.Formats.{Format, Shape, structure, array, ◌▹◌, uuid, null_string, int16, int32}
use Rattle.msgs_group.specs.declared.heartbeat_reply.AssignedTopic.{AssignedTopic}
use Rattle.msgs_group.specs.declared.heartbeat_reply.Assignment.{Assignment}
use Rattle.msgs_group.specs.declared.heartbeat_reply.HeartbeatReply.{HeartbeatReply}
use Rattle.msgs_group.specs.Optional.{IsOptional, optional_at, optional_bytes}
use Rattle.msgs_group.specs.OptionalRead.{optional_reads}

abbrev pub optional : {A : Type 0} → Format A → Format (Option A)
optional f = record {
  is = IsOptional f.is;
  read = optional_at f.read;
  bytes = optional_bytes f.bytes;
  sound = optional_reads f.is f.read f.sound;
}

abbrev pub assigned_topic_shape : Shape AssignedTopic (List ℕ × List ℤ)
assigned_topic_shape = record {
  make = λ x. record { topic_id = x.0; partitions = x.1 };
  parts = λ s. (s.topic_id, s.partitions);
  back = λ _. refl;
  there = λ _. refl;
}

unfoldable pub assigned_topic : Format AssignedTopic
assigned_topic = structure assigned_topic_shape (uuid ▹ array int32)

abbrev pub assignment_shape : Shape Assignment (List AssignedTopic)
assignment_shape = record {
  make = λ x. record { topic_partitions = x };
  parts = λ s. s.topic_partitions;
  back = λ _. refl;
  there = λ _. refl;
}

unfoldable pub assignment : Format Assignment
assignment = structure assignment_shape (array assigned_topic)

abbrev pub heartbeat_reply_shape : Shape HeartbeatReply (ℤ × (ℤ × (Option (List ℕ) × (Option (List ℕ) × (ℤ × (ℤ × Option Assignment))))))
heartbeat_reply_shape = record {
  make = λ x. record {
    throttle_time_ms = x.0;
    error_code = x.1.0;
    error_message = x.1.1.0;
    member_id = x.1.1.1.0;
    member_epoch = x.1.1.1.1.0;
    heartbeat_interval_ms = x.1.1.1.1.1.0;
    assignment = x.1.1.1.1.1.1;
  };
  parts = λ s. (s.throttle_time_ms, (s.error_code, (s.error_message, (s.member_id, (s.member_epoch, (s.heartbeat_interval_ms, s.assignment))))));
  back = λ _. refl;
  there = λ _. refl;
}

unfoldable pub heartbeat_reply : Format HeartbeatReply
heartbeat_reply = structure heartbeat_reply_shape (int32 ▹ int16 ▹ null_string ▹ null_string ▹ int32 ▹ int32 ▹ optional assignment)
