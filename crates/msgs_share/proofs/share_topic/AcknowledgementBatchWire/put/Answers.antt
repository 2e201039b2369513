use Rattle.flex_fields.proofs.Puts.{structure_put}
use Rattle.msgs_share.specs.ShareTopic.{acknowledgement_batch_shape, acknowledgement_batch}
use Rattle.msgs_share.proofs.share_topic.AcknowledgementBatchWire.put.Goals as goal

pub returns-clause-ok : goal.returns-clause-ok
unfolding acknowledgement_batch
returns-clause-ok c = structure_put acknowledgement_batch_shape _ _ _ _ c.put_structure.result c.put_structure.ensures.ok
