use Rattle.flex_fields.proofs.Puts.{structure_put}
use Rattle.msgs_admin.specs.DescribeOffsetsRequest.{asked_group_shape, asked_group}
use Rattle.msgs_admin.proofs.describe_offsets_request.AskedGroupWire.put.Goals as goal

pub returns-clause-ok : goal.returns-clause-ok
unfolding asked_group
returns-clause-ok c = structure_put asked_group_shape _ _ _ _ c.put_structure.result c.put_structure.ensures.ok
