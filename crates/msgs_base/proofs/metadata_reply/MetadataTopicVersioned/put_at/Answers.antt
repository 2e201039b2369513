use Rattle.std.specs.Prelude.{refl, false, negsuc}
use Rattle.uuid.specs.Parts.{zero_bytes}
use Rattle.msgs_base.proofs.Written.{structure_put}
use Rattle.msgs_base.specs.MetadataReply.{metadata_topic_shape, metadata_topic}
use Rattle.msgs_base.proofs.metadata_reply.MetadataTopicVersioned.put_at.Goals as goal

pub returns-clause-ok : goal.returns-clause-ok
unfolding metadata_topic
returns-clause-ok c =
    structure_put c.args.version metadata_topic_shape _ (tt, (tt, (zero_bytes, (false, (tt, negsuc 2147483647))))) refl
    _ _ _ c.put_fields_at.result c.put_fields_at.ensures.ok
