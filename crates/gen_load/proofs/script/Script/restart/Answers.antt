use Rattle.std.proofs.Common.{refl}
use Rattle.gen_load.proofs.Adding.{adds_one}
use Rattle.gen_load.specs.Session.Act.{restarts}
use Rattle.gen_load.proofs.script.Script.restart.Goals as goal

pub returns : goal.returns
returns c = adds_one _ _ restarts c.in_ok-put_restart.ensures refl
