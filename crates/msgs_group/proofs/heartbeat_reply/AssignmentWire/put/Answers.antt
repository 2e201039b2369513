use Rattle.flex_fields.proofs.Puts.{structure_put}
use Rattle.msgs_group.specs.HeartbeatReply.{assignment_shape, assignment}
use Rattle.msgs_group.proofs.heartbeat_reply.AssignmentWire.put.Goals as goal

pub returns-clause-ok : goal.returns-clause-ok
unfolding assignment
returns-clause-ok c = structure_put assignment_shape _ _ _ _ c.put_structure.result c.put_structure.ensures.ok
