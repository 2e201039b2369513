use Rattle.std.specs.Prelude.{refl, [], negsuc}
use Rattle.msgs_base.proofs.Written.{structure_put}
use Rattle.msgs_base.specs.MetadataReply.{metadata_partition_shape, metadata_partition}
use Rattle.msgs_base.proofs.metadata_reply.MetadataPartitionVersioned.put_at.Goals as goal

pub returns-clause-ok : goal.returns-clause-ok
unfolding metadata_partition
returns-clause-ok c =
    structure_put c.args.version metadata_partition_shape _ (tt, (tt, (tt, (negsuc 0, (tt, (tt, [])))))) refl
    _ _ _ c.put_fields_at.result c.put_fields_at.ensures.ok
