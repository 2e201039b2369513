use Rattle.flex_fields.proofs.Puts.{structure_put}
use Rattle.msgs_admin.specs.GroupDescribeReply.{group_member_shape, group_member}
use Rattle.msgs_admin.proofs.group_describe_reply.GroupMemberWire.put.Goals as goal

pub returns-clause-ok : goal.returns-clause-ok
unfolding group_member
returns-clause-ok c = structure_put group_member_shape _ _ _ _ c.put_structure.result c.put_structure.ensures.ok
