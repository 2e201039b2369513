use Rattle.flex_fields.proofs.Puts.{structure_put}
use Rattle.msgs_admin.specs.GroupDescribeReply.{member_topic_shape, member_topic}
use Rattle.msgs_admin.proofs.group_describe_reply.MemberTopicWire.put.Goals as goal

pub returns-clause-ok : goal.returns-clause-ok
unfolding member_topic
returns-clause-ok c = structure_put member_topic_shape _ _ _ _ c.put_structure.result c.put_structure.ensures.ok
