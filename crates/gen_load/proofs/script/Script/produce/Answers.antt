use Rattle.std.proofs.Common.{refl}
use Rattle.gen_load.proofs.Adding.{adds_one}
use Rattle.gen_load.specs.Session.Act.{produces}
use Rattle.gen_load.proofs.script.Script.produce.Goals as goal

pub returns : goal.returns
returns c = adds_one _ _ (produces c.args.round)
    (rw (c.as_slice.ensures, c.in_ok-body.ensures.spelled, c.produce_version.ensures, c.head_of-head.ensures, c.in_ok-message.ensures)
    at c.in_ok-put_sent.ensures)
    (rw c.batch_size.ensures refl)
