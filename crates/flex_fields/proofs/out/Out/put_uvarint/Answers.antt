use Rattle.std.proofs.Common.{arith}
use Rattle.flex_fields.proofs.Written.{uvarint_spells}
use Rattle.flex_fields.proofs.out.Out.put_uvarint.Goals as goal

pub returns-clause-stands : goal.returns-clause-stands
returns-clause-stands c = uvarint_spells c.args.value (omega (arith, c.ranges.value))
