use Rattle.flex_fields.proofs.Puts.{structure_put}
use Rattle.msgs_state.specs.StateMessage.{state_request_shape, state_request}
use Rattle.msgs_state.proofs.state_message.StateRequestWire.put.Goals as goal

pub returns-clause-ok : goal.returns-clause-ok
unfolding state_request
returns-clause-ok g c = structure_put state_request_shape _ _ _ _ c.put_structure.result c.put_structure.ensures.ok
