use Rattle.flex_fields.proofs.Puts.{structure_put}
use Rattle.msgs_state.specs.StateMessage.{state_reply_shape, state_reply}
use Rattle.msgs_state.proofs.state_message.StateReplyWire.put.Goals as goal

pub returns-clause-ok : goal.returns-clause-ok
unfolding state_reply
returns-clause-ok g c = structure_put state_reply_shape _ _ _ _ c.put_structure.result c.put_structure.ensures.ok
