use Rattle.flex_fields.proofs.Puts.{structure_put}
use Rattle.msgs_group.specs.HeartbeatReply.{assigned_topic_shape, assigned_topic}
use Rattle.msgs_group.proofs.heartbeat_reply.AssignedTopicWire.put.Goals as goal

pub returns-clause-ok : goal.returns-clause-ok
unfolding assigned_topic
returns-clause-ok c = structure_put assigned_topic_shape _ _ _ _ c.put_structure.result c.put_structure.ensures.ok
