-- The reply to FindCoordinator of version 4 (KIP-699, FindCoordinatorResponse.json).
-- For example one that tells node 1, at port 9092, for `g1` with a host of one letter has 23 bytes.
use Rattle.std.specs.Prelude.{ℕ, ℤ, List, Option, refl}
use Rattle.flex_fields.specs.Formats.{Format, Shape, structure, array, ◌▹◌, string, null_string, int16, int32}
use Rattle.msgs_base.specs.declared.find_coordinator_reply.Coordinator.{Coordinator}
use Rattle.msgs_base.specs.declared.find_coordinator_reply.FindCoordinatorReply.{FindCoordinatorReply}

abbrev pub coordinator_shape : Shape Coordinator (List ℕ × (ℤ × (List ℕ × (ℤ × (ℤ × Option (List ℕ))))))
coordinator_shape = record {
  make = λ x. record { key = x.0; node_id = x.1.0; host = x.1.1.0; port = x.1.1.1.0; error_code = x.1.1.1.1.0; error_message = x.1.1.1.1.1 };
  parts = λ s. (s.key, (s.node_id, (s.host, (s.port, (s.error_code, s.error_message)))));
  back = λ _. refl;
  there = λ _. refl;
}

unfoldable pub coordinator : Format Coordinator
coordinator = structure coordinator_shape (string ▹ int32 ▹ string ▹ int32 ▹ int16 ▹ null_string)

abbrev pub find_coordinator_reply_shape : Shape FindCoordinatorReply (ℤ × List Coordinator)
find_coordinator_reply_shape = record {
  make = λ x. record { throttle_time_ms = x.0; coordinators = x.1 };
  parts = λ s. (s.throttle_time_ms, s.coordinators);
  back = λ _. refl;
  there = λ _. refl;
}

unfoldable pub find_coordinator_reply : Format FindCoordinatorReply
find_coordinator_reply = structure find_coordinator_reply_shape (int32 ▹ array coordinator)
