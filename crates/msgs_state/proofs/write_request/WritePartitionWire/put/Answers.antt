use Rattle.flex_fields.proofs.Puts.{structure_put}
use Rattle.msgs_state.specs.WriteRequest.{write_partition_shape, write_partition}
use Rattle.msgs_state.proofs.write_request.WritePartitionWire.put.Goals as goal

pub returns-clause-ok : goal.returns-clause-ok
unfolding write_partition
returns-clause-ok c = structure_put write_partition_shape _ _ _ _ c.put_structure.result c.put_structure.ensures.ok
