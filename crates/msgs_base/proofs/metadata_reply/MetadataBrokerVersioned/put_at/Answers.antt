use Rattle.std.specs.Prelude.{refl, None}
use Rattle.msgs_base.proofs.Written.{structure_put}
use Rattle.msgs_base.specs.MetadataReply.{metadata_broker_shape, metadata_broker}
use Rattle.msgs_base.proofs.metadata_reply.MetadataBrokerVersioned.put_at.Goals as goal

pub returns-clause-ok : goal.returns-clause-ok
unfolding metadata_broker
returns-clause-ok c =
    structure_put c.args.version metadata_broker_shape _ (tt, (tt, (tt, None))) refl
    _ _ _ c.put_fields_at.result c.put_fields_at.ensures.ok
