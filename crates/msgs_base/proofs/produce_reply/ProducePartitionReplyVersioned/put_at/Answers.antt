use Rattle.std.specs.Prelude.{refl, None, [], negsuc}
use Rattle.msgs_base.proofs.Written.{structure_put}
use Rattle.msgs_base.specs.ProduceReply.{produce_partition_reply_shape, produce_partition_reply}
use Rattle.msgs_base.proofs.produce_reply.ProducePartitionReplyVersioned.put_at.Goals as goal

pub returns-clause-ok : goal.returns-clause-ok
unfolding produce_partition_reply
returns-clause-ok c =
    structure_put c.args.version produce_partition_reply_shape _ (tt, (tt, (tt, (tt, (negsuc 0, ([], None)))))) refl
    _ _ _ c.put_fields_at.result c.put_fields_at.ensures.ok
