use Rattle.flex_fields.proofs.Puts.{structure_put}
use Rattle.msgs_admin.specs.DeleteOffsetsRequest.{topic_to_delete_shape, topic_to_delete}
use Rattle.msgs_admin.proofs.delete_offsets_request.TopicToDeleteWire.put.Goals as goal

pub returns-clause-ok : goal.returns-clause-ok
unfolding topic_to_delete
returns-clause-ok c = structure_put topic_to_delete_shape _ _ _ _ c.put_structure.result c.put_structure.ensures.ok
