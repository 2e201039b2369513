use Rattle.flex_fields.proofs.Puts.{structure_put}
use Rattle.msgs_state.specs.StateBatch.{state_batch_shape, state_batch}
use Rattle.msgs_state.proofs.state_batch.StateBatchWire.put.Goals as goal

pub returns-clause-ok : goal.returns-clause-ok
unfolding state_batch
returns-clause-ok c = structure_put state_batch_shape _ _ _ _ c.put_structure.result c.put_structure.ensures.ok
