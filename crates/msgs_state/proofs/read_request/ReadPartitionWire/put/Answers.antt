use Rattle.flex_fields.proofs.Puts.{structure_put}
use Rattle.msgs_state.specs.ReadRequest.{read_partition_shape, read_partition}
use Rattle.msgs_state.proofs.read_request.ReadPartitionWire.put.Goals as goal

pub returns-clause-ok : goal.returns-clause-ok
unfolding read_partition
returns-clause-ok c = structure_put read_partition_shape _ _ _ _ c.put_structure.result c.put_structure.ensures.ok
