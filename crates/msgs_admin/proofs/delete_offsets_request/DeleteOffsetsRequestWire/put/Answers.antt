use Rattle.flex_fields.proofs.Puts.{structure_put}
use Rattle.msgs_admin.specs.DeleteOffsetsRequest.{delete_offsets_request_shape, delete_offsets_request}
use Rattle.msgs_admin.proofs.delete_offsets_request.DeleteOffsetsRequestWire.put.Goals as goal

pub returns-clause-ok : goal.returns-clause-ok
unfolding delete_offsets_request
returns-clause-ok c = structure_put delete_offsets_request_shape _ _ _ _ c.put_structure.result c.put_structure.ensures.ok
