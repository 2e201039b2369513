use Rattle.flex_fields.proofs.Puts.{structure_put}
use Rattle.msgs_base.specs.FindCoordinatorReply.{find_coordinator_reply_shape, find_coordinator_reply}
use Rattle.msgs_base.proofs.find_coordinator_reply.FindCoordinatorReplyWire.put.Goals as goal

pub returns-clause-ok : goal.returns-clause-ok
unfolding find_coordinator_reply
returns-clause-ok c = structure_put find_coordinator_reply_shape _ _ _ _ c.put_structure.result c.put_structure.ensures.ok
