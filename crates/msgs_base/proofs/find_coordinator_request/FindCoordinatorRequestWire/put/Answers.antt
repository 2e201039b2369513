use Rattle.flex_fields.proofs.Puts.{structure_put}
use Rattle.msgs_base.specs.FindCoordinatorRequest.{find_coordinator_request_shape, find_coordinator_request}
use Rattle.msgs_base.proofs.find_coordinator_request.FindCoordinatorRequestWire.put.Goals as goal

pub returns-clause-ok : goal.returns-clause-ok
unfolding find_coordinator_request
returns-clause-ok c = structure_put find_coordinator_request_shape _ _ _ _ c.put_structure.result c.put_structure.ensures.ok
