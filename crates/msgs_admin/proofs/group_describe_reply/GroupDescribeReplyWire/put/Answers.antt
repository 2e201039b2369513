use Rattle.flex_fields.proofs.Puts.{structure_put}
use Rattle.msgs_admin.specs.GroupDescribeReply.{group_describe_reply_shape, group_describe_reply}
use Rattle.msgs_admin.proofs.group_describe_reply.GroupDescribeReplyWire.put.Goals as goal

pub returns-clause-ok : goal.returns-clause-ok
unfolding group_describe_reply
returns-clause-ok c = structure_put group_describe_reply_shape _ _ _ _ c.put_structure.result c.put_structure.ensures.ok
