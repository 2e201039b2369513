use Rattle.std.specs.Prelude.{refl, false, true}
use Rattle.msgs_base.proofs.Written.{structure_put}
use Rattle.msgs_base.specs.MetadataRequest.{metadata_request_shape, metadata_request}
use Rattle.msgs_base.proofs.metadata_request.MetadataRequestVersioned.put_at.Goals as goal

pub returns-clause-ok : goal.returns-clause-ok
unfolding metadata_request
returns-clause-ok c =
    structure_put c.args.version metadata_request_shape _ (tt, (true, (false, false))) refl
    _ _ _ c.put_fields_at.result c.put_fields_at.ensures.ok
