use Rattle.std.specs.Prelude.{refl}
use Rattle.uuid.specs.Parts.{zero_bytes}
use Rattle.msgs_base.proofs.Written.{structure_put}
use Rattle.msgs_base.specs.MetadataRequest.{metadata_request_topic_shape, metadata_request_topic}
use Rattle.msgs_base.proofs.metadata_request.MetadataRequestTopicVersioned.put_at.Goals as goal

pub returns-clause-ok : goal.returns-clause-ok
unfolding metadata_request_topic
returns-clause-ok c =
    structure_put c.args.version metadata_request_topic_shape _ (zero_bytes, tt) refl
    _ _ _ c.put_fields_at.result c.put_fields_at.ensures.ok
