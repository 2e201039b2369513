use Rattle.flex_fields.proofs.Puts.{structure_put}
use Rattle.msgs_state.specs.DeleteRequest.{delete_partition_shape, delete_partition}
use Rattle.msgs_state.proofs.delete_request.DeletePartitionWire.put.Goals as goal

pub returns-clause-ok : goal.returns-clause-ok
unfolding delete_partition
returns-clause-ok c = structure_put delete_partition_shape _ _ _ _ c.put_structure.result c.put_structure.ensures.ok
