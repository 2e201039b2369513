use Rattle.flex_fields.proofs.Puts.{structure_put}
use Rattle.msgs_group.specs.HeartbeatRequest.{heartbeat_request_shape, heartbeat_request}
use Rattle.msgs_group.proofs.heartbeat_request.HeartbeatRequestWire.put.Goals as goal

pub returns-clause-ok : goal.returns-clause-ok
unfolding heartbeat_request
returns-clause-ok c = structure_put heartbeat_request_shape _ _ _ _ c.put_structure.result c.put_structure.ensures.ok
