-- The reply to FindCoordinator where all keys have one coordinator (KIP-699, FindCoordinatorResponse.json).
-- For example for the keys `g1` and `g2` it tells one node, host and port of both.
use Rattle.std.specs.Prelude.{ℕ, pos, List, map, None}
use Rattle.msgs_base.specs.declared.coordinator_of_all.CoordinatorOfAll.{CoordinatorOfAll}
use Rattle.msgs_base.specs.declared.find_coordinator_reply.Coordinator.{Coordinator}
use Rattle.msgs_base.specs.declared.find_coordinator_reply.FindCoordinatorReply.{FindCoordinatorReply}

abbrev pub with_key : CoordinatorOfAll → List ℕ → Coordinator
with_key told key =
    record { key = key; node_id = told.node_id; host = told.host; port = told.port; error_code = told.error_code; error_message = None }

abbrev pub all_have : CoordinatorOfAll → List (List ℕ) → FindCoordinatorReply
all_have told keys = record { throttle_time_ms = pos 0; coordinators = map (with_key told) keys }
