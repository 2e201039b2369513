use Rattle.crc_castagnoli.proofs.Quotient.{one_remainder}
use Rattle.crc_castagnoli.proofs.remainders_are_unique.Goals as goal

pub returns : goal.returns
returns c = one_remainder
