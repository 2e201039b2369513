use Rattle.std.proofs.Common.{arith}
use Rattle.crc_castagnoli.proofs.Bytes.{steps-word}
use Rattle.crc_castagnoli.proofs.word_steps.Goals as goal

pub returns : goal.returns
returns c =
    rw (c.byte_steps.ensures, c.byte_steps-2.ensures, c.byte_steps-3.ensures, c.byte_steps-4.ensures)
    (rw c.to_le_bytes.ensures (steps-word c.args.behind c.args.word (omega arith)))
