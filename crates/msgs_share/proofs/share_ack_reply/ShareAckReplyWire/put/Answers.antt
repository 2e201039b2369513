use Rattle.flex_fields.proofs.Puts.{structure_put}
use Rattle.msgs_share.specs.ShareAckReply.{share_ack_reply_shape, share_ack_reply}
use Rattle.msgs_share.proofs.share_ack_reply.ShareAckReplyWire.put.Goals as goal

pub returns-clause-ok : goal.returns-clause-ok
unfolding share_ack_reply
returns-clause-ok c = structure_put share_ack_reply_shape _ _ _ _ c.put_structure.result c.put_structure.ensures.ok
