use Rattle.flex_fields.proofs.Puts.{structure_put}
use Rattle.msgs_group.specs.HeartbeatReply.{heartbeat_reply_shape, heartbeat_reply}
use Rattle.msgs_group.proofs.heartbeat_reply.HeartbeatReplyWire.put.Goals as goal

pub returns-clause-ok : goal.returns-clause-ok
unfolding heartbeat_reply
returns-clause-ok c = structure_put heartbeat_reply_shape _ _ _ _ c.put_fields.result c.put_fields.ensures.ok
