use Rattle.flex_fields.proofs.Puts.{structure_put}
use Rattle.msgs_share.specs.ShareTopic.{share_topic_shape, share_topic}
use Rattle.msgs_share.proofs.share_topic.ShareTopicWire.put.Goals as goal

pub returns-clause-ok : goal.returns-clause-ok
unfolding share_topic
returns-clause-ok g c = structure_put share_topic_shape _ _ _ _ c.put_structure.result c.put_structure.ensures.ok
