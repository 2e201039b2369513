use Rattle.gen_load.proofs.Adding.{expired}
use Rattle.gen_load.proofs.script.Script.expire.Goals as goal

pub returns : goal.returns
returns c = expired _ _ _ c.put_expiry.result c.args.round c.put_expiry.ensures
