use Rattle.flex_fields.proofs.Puts.{structure_put}
use Rattle.msgs_base.specs.FindCoordinatorReply.{coordinator_shape, coordinator}
use Rattle.msgs_base.proofs.find_coordinator_reply.CoordinatorWire.put.Goals as goal

pub returns-clause-ok : goal.returns-clause-ok
unfolding coordinator
returns-clause-ok c = structure_put coordinator_shape _ _ _ _ c.put_structure.result c.put_structure.ensures.ok
