use Rattle.flex_fields.proofs.Puts.{structure_put}
use Rattle.msgs_share.specs.Nodes.{current_leader_shape, current_leader}
use Rattle.msgs_share.proofs.nodes.CurrentLeaderWire.put.Goals as goal

pub returns-clause-ok : goal.returns-clause-ok
unfolding current_leader
returns-clause-ok c = structure_put current_leader_shape _ _ _ _ c.put_structure.result c.put_structure.ensures.ok
