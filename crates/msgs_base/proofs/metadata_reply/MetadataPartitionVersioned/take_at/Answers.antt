use Rattle.std.proofs.lemmas.Result.{err_from_is_err_and}
use Rattle.msgs_base.specs.MetadataReply.{metadata_partition_shape, metadata_partition}
use Rattle.msgs_base.proofs.Taken.{structure_refused}
use Rattle.msgs_base.proofs.metadata_reply.MetadataPartitionVersioned.take_at.Goals as goal

pub returns-in_err-error_code : goal.returns-in_err-error_code
unfolding metadata_partition
returns-in_err-error_code c =
    let p = err_from_is_err_and c.from_residual.result c.from_residual.ensures.1 in
    rw (p.1, p.2) (structure_refused metadata_partition_shape.make _ c.in_err-error_code.field-0.0
    (rw (c.new-2.ensures.items, c.new.ensures.items) at c.in_err-error_code.ensures))
