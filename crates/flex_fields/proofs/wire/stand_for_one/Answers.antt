use Rattle.flex_fields.proofs.Whole.{one_value}
use Rattle.flex_fields.proofs.wire.stand_for_one.Goals as goal

pub returns : goal.returns
returns g c = one_value g.T.Wire.format
