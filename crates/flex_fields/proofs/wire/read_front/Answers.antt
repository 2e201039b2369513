use Rattle.std.proofs.Common.{arith}
use Rattle.flex_fields.proofs.Whole.{reads_front}
use Rattle.flex_fields.proofs.wire.read_front.Goals as goal

pub returns : goal.returns
returns g c = reads_front g.T.Wire.format c.args.bytes.now c.take_front.result (λ i. omega (arith, c.type_inv.bytes i)) c.take_front.ensures
