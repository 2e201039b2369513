use Rattle.std.proofs.Common.{arith}
use Rattle.flex_fields.proofs.Whole.{reads_whole}
use Rattle.flex_fields.proofs.wire.read_whole.Goals as goal

pub returns : goal.returns
returns g c = reads_whole g.T.Wire.format c.args.bytes.now c.take_all.result (λ i. omega (arith, c.type_inv.bytes i)) c.take_all.ensures
