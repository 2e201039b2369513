use Rattle.msgs_group.proofs.Puts.{some_put}
use Rattle.msgs_group.proofs.optional.put_optional.Goals as goal

pub returns-in_ok-put_i8-in-Some-clause-ok : goal.returns-in_ok-put_i8-in-Some-clause-ok
returns-in_ok-put_i8-in-Some-clause-ok g c =
    some_put g.T.Wire.format _ _ _ _ c.args.value.now c.put.result c.in-Some.is c.in_ok-put_i8-in-Some.ensures.ok c.put.ensures.ok
