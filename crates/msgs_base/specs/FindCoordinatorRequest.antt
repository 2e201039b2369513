-- The FindCoordinator request of version 4 (KIP-699, FindCoordinatorRequest.json).
-- For example `00 02 03 67 31 00` asks for the coordinator of group `g1`.
use Rattle.std.specs.Prelude.{ℕ, ℤ, List, refl}
use Rattle.flex_fields.specs.Formats.{Format, Shape, structure, array, ◌▹◌, string, int8}
use Rattle.msgs_base.specs.declared.find_coordinator_request.FindCoordinatorRequest.{FindCoordinatorRequest}

abbrev pub find_coordinator_request_shape : Shape FindCoordinatorRequest (ℤ × List (List ℕ))
find_coordinator_request_shape = record {
  make = λ x. record { key_type = x.0; coordinator_keys = x.1 };
  parts = λ s. (s.key_type, s.coordinator_keys);
  back = λ _. refl;
  there = λ _. refl;
}

unfoldable pub find_coordinator_request : Format FindCoordinatorRequest
find_coordinator_request = structure find_coordinator_request_shape (int8 ▹ array string)
