use Rattle.flex_fields.proofs.Puts.{structure_put}
use Rattle.msgs_admin.specs.DeleteOffsetsReply.{delete_offsets_reply_shape, delete_offsets_reply}
use Rattle.msgs_admin.proofs.delete_offsets_reply.DeleteOffsetsReplyWire.put.Goals as goal

pub returns-clause-ok : goal.returns-clause-ok
unfolding delete_offsets_reply
returns-clause-ok c = structure_put delete_offsets_reply_shape _ _ _ _ c.put_structure.result c.put_structure.ensures.ok
