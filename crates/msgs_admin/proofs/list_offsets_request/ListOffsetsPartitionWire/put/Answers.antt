use Rattle.flex_fields.proofs.Puts.{structure_put}
use Rattle.msgs_admin.specs.ListOffsetsRequest.{list_offsets_partition_shape, list_offsets_partition}
use Rattle.msgs_admin.proofs.list_offsets_request.ListOffsetsPartitionWire.put.Goals as goal

pub returns-clause-ok : goal.returns-clause-ok
unfolding list_offsets_partition
returns-clause-ok c = structure_put list_offsets_partition_shape _ _ _ _ c.put_structure.result c.put_structure.ensures.ok
