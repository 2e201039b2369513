-- The ShareGroupHeartbeat request of version 1 (KIP-932, ShareGroupHeartbeatRequest.json).
-- For example one of group `g` and member `a` that stays in epoch 1 is `02 67 02 61 00000001 00 00 00`.
use Rattle.std.specs.Prelude.{ℕ, ℤ, List, Option, refl}
use Rattle.flex_fields.specs.Formats.{Format, Shape, structure, null_array, ◌▹◌, string, null_string, int32}
use Rattle.msgs_group.specs.declared.heartbeat_request.HeartbeatRequest.{HeartbeatRequest}

abbrev pub heartbeat_request_shape : Shape HeartbeatRequest (List ℕ × (List ℕ × (ℤ × (Option (List ℕ) × Option (List (List ℕ))))))
heartbeat_request_shape = record {
  make = λ x. record {
    group_id = x.0;
    member_id = x.1.0;
    member_epoch = x.1.1.0;
    rack_id = x.1.1.1.0;
    subscribed_topic_names = x.1.1.1.1;
  };
  parts = λ s. (s.group_id, (s.member_id, (s.member_epoch, (s.rack_id, s.subscribed_topic_names))));
  back = λ _. refl;
  there = λ _. refl;
}

unfoldable pub heartbeat_request : Format HeartbeatRequest
heartbeat_request = structure heartbeat_request_shape (string ▹ string ▹ int32 ▹ null_string ▹ null_array string)
