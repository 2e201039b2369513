use Rattle.flex_fields.proofs.Puts.{structure_put}
use Rattle.msgs_base.specs.DeleteRecordsReply.{delete_records_partition_result_shape, delete_records_partition_result}
use Rattle.msgs_base.proofs.delete_records_reply.DeleteRecordsPartitionResultWire.put.Goals as goal

pub returns-clause-ok : goal.returns-clause-ok
unfolding delete_records_partition_result
returns-clause-ok c = structure_put delete_records_partition_result_shape _ _ _ _ c.put_structure.result c.put_structure.ensures.ok
