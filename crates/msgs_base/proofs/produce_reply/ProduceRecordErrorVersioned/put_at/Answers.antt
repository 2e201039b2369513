use Rattle.std.specs.Prelude.{refl}
use Rattle.msgs_base.proofs.Written.{structure_put}
use Rattle.msgs_base.specs.ProduceReply.{produce_record_error_shape, produce_record_error}
use Rattle.msgs_base.proofs.produce_reply.ProduceRecordErrorVersioned.put_at.Goals as goal

pub returns-clause-ok : goal.returns-clause-ok
unfolding produce_record_error
returns-clause-ok c =
    structure_put c.args.version produce_record_error_shape _ (tt, tt) refl
    _ _ _ c.put_fields_at.result c.put_fields_at.ensures.ok
