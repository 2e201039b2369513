use Rattle.flex_fields.proofs.Puts.{structure_put}
use Rattle.msgs_base.specs.DeleteRecordsRequest.{delete_records_partition_shape, delete_records_partition}
use Rattle.msgs_base.proofs.delete_records_request.DeleteRecordsPartitionWire.put.Goals as goal

pub returns-clause-ok : goal.returns-clause-ok
unfolding delete_records_partition
returns-clause-ok c = structure_put delete_records_partition_shape _ _ _ _ c.put_structure.result c.put_structure.ensures.ok
