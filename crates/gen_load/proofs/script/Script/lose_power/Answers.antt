use Rattle.gen_load.proofs.Adding.{adds_no}
use Rattle.gen_load.proofs.script.Script.lose_power.Goals as goal

pub returns-then-round-ne0 : goal.returns-then-round-ne0
returns-then-round-ne0 c = adds_no 250 c.args.round _ _ c.if-round-ne0.true
