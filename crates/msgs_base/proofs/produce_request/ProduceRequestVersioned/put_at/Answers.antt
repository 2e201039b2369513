use Rattle.std.specs.Prelude.{refl}
use Rattle.msgs_base.proofs.Written.{structure_put}
use Rattle.msgs_base.specs.ProduceRequest.{produce_request_shape, produce_request}
use Rattle.msgs_base.proofs.produce_request.ProduceRequestVersioned.put_at.Goals as goal

pub returns-clause-ok : goal.returns-clause-ok
unfolding produce_request
returns-clause-ok c =
    structure_put c.args.version produce_request_shape _ (tt, (tt, (tt, tt))) refl
    _ _ _ c.put_fields_at.result c.put_fields_at.ensures.ok
