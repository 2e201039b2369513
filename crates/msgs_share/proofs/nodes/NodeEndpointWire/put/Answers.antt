use Rattle.flex_fields.proofs.Puts.{structure_put}
use Rattle.msgs_share.specs.Nodes.{node_endpoint_shape, node_endpoint}
use Rattle.msgs_share.proofs.nodes.NodeEndpointWire.put.Goals as goal

pub returns-clause-ok : goal.returns-clause-ok
unfolding node_endpoint
returns-clause-ok c = structure_put node_endpoint_shape _ _ _ _ c.put_structure.result c.put_structure.ensures.ok
