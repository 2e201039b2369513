use Rattle.flex_fields.proofs.Puts.{structure_put}
use Rattle.msgs_state.specs.InitializeRequest.{initialize_partition_shape, initialize_partition}
use Rattle.msgs_state.proofs.initialize_request.InitializePartitionWire.put.Goals as goal

pub returns-clause-ok : goal.returns-clause-ok
unfolding initialize_partition
returns-clause-ok c = structure_put initialize_partition_shape _ _ _ _ c.put_structure.result c.put_structure.ensures.ok
