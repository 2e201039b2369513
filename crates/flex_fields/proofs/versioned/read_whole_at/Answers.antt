use Rattle.std.proofs.Common.{arith}
use Rattle.flex_fields.proofs.Whole.{reads_whole}
use Rattle.flex_fields.proofs.versioned.read_whole_at.Goals as goal

pub returns : goal.returns
returns g c = reads_whole (g.T.Versioned.schema c.args.version).format c.args.bytes.now c.take_all_at.result (λ i. omega (arith, c.type_inv.bytes i)) c.take_all_at.ensures
