use Rattle.flex_fields.proofs.Puts.{structure_put}
use Rattle.msgs_admin.specs.ListGroupsRequest.{list_groups_request_shape, list_groups_request}
use Rattle.msgs_admin.proofs.list_groups_request.ListGroupsRequestWire.put.Goals as goal

pub returns-clause-ok : goal.returns-clause-ok
unfolding list_groups_request
returns-clause-ok c = structure_put list_groups_request_shape _ _ _ _ c.put_structure.result c.put_structure.ensures.ok
