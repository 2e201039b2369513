use Rattle.flex_fields.proofs.Puts.{structure_put}
use Rattle.msgs_admin.specs.GroupDescribeReply.{described_group_shape, described_group}
use Rattle.msgs_admin.proofs.group_describe_reply.DescribedGroupWire.put.Goals as goal

pub returns-clause-ok : goal.returns-clause-ok
unfolding described_group
returns-clause-ok c = structure_put described_group_shape _ _ _ _ c.put_structure.result c.put_structure.ensures.ok
