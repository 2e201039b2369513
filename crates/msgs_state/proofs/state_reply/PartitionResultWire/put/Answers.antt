use Rattle.flex_fields.proofs.Puts.{structure_put}
use Rattle.msgs_state.specs.StateReply.{partition_result_shape, partition_result}
use Rattle.msgs_state.proofs.state_reply.PartitionResultWire.put.Goals as goal

pub returns-clause-ok : goal.returns-clause-ok
unfolding partition_result
returns-clause-ok c = structure_put partition_result_shape _ _ _ _ c.put_structure.result c.put_structure.ensures.ok
