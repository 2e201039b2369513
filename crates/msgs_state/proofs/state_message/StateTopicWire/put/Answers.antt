use Rattle.flex_fields.proofs.Puts.{structure_put}
use Rattle.msgs_state.specs.StateMessage.{state_topic_shape, state_topic}
use Rattle.msgs_state.proofs.state_message.StateTopicWire.put.Goals as goal

pub returns-clause-ok : goal.returns-clause-ok
unfolding state_topic
returns-clause-ok g c = structure_put state_topic_shape _ _ _ _ c.put_structure.result c.put_structure.ensures.ok
