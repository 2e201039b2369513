use Rattle.flex_fields.proofs.Puts.{structure_put}
use Rattle.msgs_admin.specs.DescribeOffsetsRequest.{describe_offsets_request_shape, describe_offsets_request}
use Rattle.msgs_admin.proofs.describe_offsets_request.DescribeOffsetsRequestWire.put.Goals as goal

pub returns-clause-ok : goal.returns-clause-ok
unfolding describe_offsets_request
returns-clause-ok c = structure_put describe_offsets_request_shape _ _ _ _ c.put_structure.result c.put_structure.ensures.ok
