use Rattle.flex_fields.proofs.Puts.{structure_put}
use Rattle.msgs_admin.specs.ListOffsetsReply.{found_offset_shape, found_offset}
use Rattle.msgs_admin.proofs.list_offsets_reply.FoundOffsetWire.put.Goals as goal

pub returns-clause-ok : goal.returns-clause-ok
unfolding found_offset
returns-clause-ok c = structure_put found_offset_shape _ _ _ _ c.put_structure.result c.put_structure.ensures.ok
