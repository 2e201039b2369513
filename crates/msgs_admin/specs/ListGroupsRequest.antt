-- The ListGroups request of version 5 (Kafka's message schemas, ListGroupsRequest).
-- For example one that asks for groups of any state and of the type `share` is `01 02 06 7368617265 00`.
use Rattle.std.specs.Prelude.{ℕ, List, refl}
use Rattle.flex_fields.specs.Formats.{Format, Shape, structure, array, ◌▹◌, string}
use Rattle.msgs_admin.specs.declared.list_groups_request.ListGroupsRequest.{ListGroupsRequest}

abbrev pub list_groups_request_shape : Shape ListGroupsRequest (List (List ℕ) × List (List ℕ))
list_groups_request_shape = record {
  make = λ x. record { states_filter = x.0; types_filter = x.1 };
  parts = λ s. (s.states_filter, s.types_filter);
  back = λ _. refl;
  there = λ _. refl;
}

unfoldable pub list_groups_request : Format ListGroupsRequest
list_groups_request = structure list_groups_request_shape (array string ▹ array string)
