use Rattle.flex_fields.proofs.Puts.{structure_put}
use Rattle.msgs_share.specs.ShareFetchReply.{acquired_records_shape, acquired_records}
use Rattle.msgs_share.proofs.share_fetch_reply.AcquiredRecordsWire.put.Goals as goal

pub returns-clause-ok : goal.returns-clause-ok
unfolding acquired_records
returns-clause-ok c = structure_put acquired_records_shape _ _ _ _ c.put_structure.result c.put_structure.ensures.ok
