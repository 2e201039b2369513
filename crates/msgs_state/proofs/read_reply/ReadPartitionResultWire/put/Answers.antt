use Rattle.flex_fields.proofs.Puts.{structure_put}
use Rattle.msgs_state.specs.ReadReply.{read_partition_result_shape, read_partition_result}
use Rattle.msgs_state.proofs.read_reply.ReadPartitionResultWire.put.Goals as goal

pub returns-clause-ok : goal.returns-clause-ok
unfolding read_partition_result
returns-clause-ok c = structure_put read_partition_result_shape _ _ _ _ c.put_structure.result c.put_structure.ensures.ok
