use Rattle.std.specs.Prelude.{refl, pos}
use Rattle.msgs_base.proofs.Written.{structure_put}
use Rattle.msgs_base.specs.ApiVersionsReply.{api_versions_reply_shape, api_versions_reply}
use Rattle.msgs_base.proofs.api_versions_reply.ApiVersionsReplyVersioned.put_at.Goals as goal

pub returns-clause-ok : goal.returns-clause-ok
unfolding api_versions_reply
returns-clause-ok c =
    structure_put c.args.version api_versions_reply_shape _ (tt, (tt, pos 0)) refl
    _ _ _ c.put_fields_at.result c.put_fields_at.ensures.ok
