use Rattle.flex_fields.proofs.Puts.{structure_put}
use Rattle.msgs_admin.specs.ListGroupsReply.{listed_group_shape, listed_group}
use Rattle.msgs_admin.proofs.list_groups_reply.ListedGroupWire.put.Goals as goal

pub returns-clause-ok : goal.returns-clause-ok
unfolding listed_group
returns-clause-ok c = structure_put listed_group_shape _ _ _ _ c.put_structure.result c.put_structure.ensures.ok
