use Rattle.flex_fields.proofs.Puts.{structure_put}
use Rattle.msgs_share.specs.ShareFetchRequest.{share_fetch_request_shape, share_fetch_request_fields, share_fetch_request}
use Rattle.msgs_share.proofs.share_fetch_request.ShareFetchRequestWire.put.Goals as goal

pub returns-clause-ok : goal.returns-clause-ok
unfolding share_fetch_request share_fetch_request_fields
returns-clause-ok c = structure_put share_fetch_request_shape _ _ _ _ c.put_structure.result c.put_structure.ensures.ok
