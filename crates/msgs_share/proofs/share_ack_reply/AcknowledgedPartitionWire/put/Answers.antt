use Rattle.flex_fields.proofs.Puts.{structure_put}
use Rattle.msgs_share.specs.ShareAckReply.{acknowledged_partition_shape, acknowledged_partition}
use Rattle.msgs_share.proofs.share_ack_reply.AcknowledgedPartitionWire.put.Goals as goal

pub returns-clause-ok : goal.returns-clause-ok
unfolding acknowledged_partition
returns-clause-ok c = structure_put acknowledged_partition_shape _ _ _ _ c.put_structure.result c.put_structure.ensures.ok
