-- The ShareGroupDescribe request of version 1 (KIP-932, ShareGroupDescribeRequest.json).
-- For example one of the group `g` is `02 0267 00 00`.
use Rattle.std.specs.Prelude.{ℕ, Bool, List, refl}
use Rattle.flex_fields.specs.Formats.{Format, Shape, structure, array, ◌▹◌, string, boolean}
use Rattle.msgs_admin.specs.declared.group_describe_request.GroupDescribeRequest.{GroupDescribeRequest}

abbrev pub group_describe_request_shape : Shape GroupDescribeRequest (List (List ℕ) × Bool)
group_describe_request_shape = record {
  make = λ x. record { group_ids = x.0; include_authorized_operations = x.1 };
  parts = λ s. (s.group_ids, s.include_authorized_operations);
  back = λ _. refl;
  there = λ _. refl;
}

unfoldable pub group_describe_request : Format GroupDescribeRequest
group_describe_request = structure group_describe_request_shape (array string ▹ boolean)
