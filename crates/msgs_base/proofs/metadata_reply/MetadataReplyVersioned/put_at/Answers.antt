use Rattle.std.specs.Prelude.{refl, None, negsuc, pos}
use Rattle.msgs_base.proofs.Written.{structure_put}
use Rattle.msgs_base.specs.MetadataReply.{metadata_reply_shape, metadata_reply}
use Rattle.msgs_base.proofs.metadata_reply.MetadataReplyVersioned.put_at.Goals as goal

pub returns-clause-ok : goal.returns-clause-ok
unfolding metadata_reply
returns-clause-ok c =
    structure_put c.args.version metadata_reply_shape _ (pos 0, (tt, (None, (negsuc 0, (tt, negsuc 2147483647))))) refl
    _ _ _ c.put_fields_at.result c.put_fields_at.ensures.ok
