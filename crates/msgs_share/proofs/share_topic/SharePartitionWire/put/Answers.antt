use Rattle.flex_fields.proofs.Puts.{structure_put}
use Rattle.msgs_share.specs.ShareTopic.{share_partition_shape, share_partition}
use Rattle.msgs_share.proofs.share_topic.SharePartitionWire.put.Goals as goal

pub returns-clause-ok : goal.returns-clause-ok
unfolding share_partition
returns-clause-ok c = structure_put share_partition_shape _ _ _ _ c.put_structure.result c.put_structure.ensures.ok
