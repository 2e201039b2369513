use Rattle.flex_fields.proofs.Puts.{structure_put}
use Rattle.msgs_admin.specs.DeleteOffsetsReply.{deleted_topic_shape, deleted_topic}
use Rattle.msgs_admin.proofs.delete_offsets_reply.DeletedTopicWire.put.Goals as goal

pub returns-clause-ok : goal.returns-clause-ok
unfolding deleted_topic
returns-clause-ok c = structure_put deleted_topic_shape _ _ _ _ c.put_structure.result c.put_structure.ensures.ok
