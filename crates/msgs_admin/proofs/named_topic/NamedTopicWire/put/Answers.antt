use Rattle.flex_fields.proofs.Puts.{structure_put}
use Rattle.msgs_admin.specs.NamedTopic.{named_topic_shape, named_topic}
use Rattle.msgs_admin.proofs.named_topic.NamedTopicWire.put.Goals as goal

pub returns-clause-ok : goal.returns-clause-ok
unfolding named_topic
returns-clause-ok g c = structure_put named_topic_shape _ _ _ _ c.put_structure.result c.put_structure.ensures.ok
