use Rattle.std.specs.Prelude.{refl}
use Rattle.msgs_base.proofs.Written.{structure_put}
use Rattle.msgs_base.specs.ApiVersionsReply.{api_version_shape, api_version}
use Rattle.msgs_base.proofs.api_versions_reply.ApiVersionVersioned.put_at.Goals as goal

pub returns-clause-ok : goal.returns-clause-ok
unfolding api_version
returns-clause-ok c =
    structure_put c.args.version api_version_shape _ (tt, (tt, tt)) refl
    _ _ _ c.put_fields_at.result c.put_fields_at.ensures.ok
