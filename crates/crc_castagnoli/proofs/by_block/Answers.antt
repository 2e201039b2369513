use Rattle.std.proofs.Common.{◌≡◌, ℕ, ◌^◌, ◌<◌, length, rules, sym, ◌∙◌, arith}
use Rattle.std.specs.Int.Bits.{bit_xor, xor_lt}
use Rattle.crc_castagnoli.proofs.Bytes.{number-block, remainder_after-number, steps-block}
use Rattle.crc_castagnoli.proofs.by_block.Goals as goal

pub overflow_cast-d : goal.overflow_cast-d
overflow_cast-d c =
    let sum : ℕ = bit_xor c.from_le_bytes.result c.args.left in
    let below : sum < 2 ^ 128 = xor_lt 128 c.from_le_bytes.result c.args.left (omega arith) (omega arith) in
    omega (arith, below)

pub returns : goal.returns
returns c =
    let bytes = c.args.block.now in
    let sixteen : length bytes ≡ 16 = search rules in
    let number = number-block bytes sixteen ∙ sym c.from_le_bytes.ensures in
    rw (c.word_steps-4.ensures, c.word_steps.ensures, c.word_steps-2.ensures, c.word_steps-3.ensures)
    (steps-block (bit_xor c.from_le_bytes.result c.args.left)
    ∙ remainder_after-number c.args.left c.from_le_bytes.result 16 bytes (λ i. search rules) sixteen number)
