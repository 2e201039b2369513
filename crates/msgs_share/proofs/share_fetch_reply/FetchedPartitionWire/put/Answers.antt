use Rattle.flex_fields.proofs.Puts.{structure_put}
use Rattle.msgs_share.specs.ShareFetchReply.{fetched_partition_shape, fetched_partition}
use Rattle.msgs_share.proofs.share_fetch_reply.FetchedPartitionWire.put.Goals as goal

pub returns-clause-ok : goal.returns-clause-ok
unfolding fetched_partition
returns-clause-ok c = structure_put fetched_partition_shape _ _ _ _ c.put_fields.result c.put_fields.ensures.ok
