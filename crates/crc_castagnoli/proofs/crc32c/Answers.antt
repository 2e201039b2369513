use Rattle.std.proofs.Common.{refl, ap, ◌∙◌, take, arith}
use Rattle.std.specs.Int.Bits.{bit_xor}
use Rattle.crc_castagnoli.specs.Division.{all_ones, crc_of, remainder_after, bits_of}
use Rattle.crc_castagnoli.proofs.Bytes.{remainder_after-split}
use Rattle.crc_castagnoli.proofs.Quotient.{remainder_of}
use Rattle.crc_castagnoli.proofs.crc32c.Goals as goal

pub loop-block-init : goal.loop-block-init
unfolding all_ones
loop-block-init c = refl

pub loop-block-preserved : goal.loop-block-preserved
loop-block-preserved c =
    let rest = c.loop-block.rest.now in
    let left = c.loop-block.left in
    ap (λ x. remainder_after x (bits_of c.in-Some.after.now)) c.by_block-left.ensures
    ∙ ap (λ xs. remainder_after (remainder_after left (bits_of xs)) (bits_of c.in-Some.after.now)) c.in-Some.ensures.cases.0
    ∙ ap (λ xs. remainder_after (remainder_after left (bits_of (take 16 rest))) (bits_of xs)) c.in-Some.ensures.cases.1
    ∙ remainder_after-split left 16 rest
    ∙ c.loop-block.invariant

pub returns-clause-value : goal.returns-clause-value
unfolding crc_of all_ones
returns-clause-value c = ap (λ x. bit_xor x 4294967295) (c.by_words.ensures ∙ c.loop-block.invariant)

pub returns-clause-remainder : goal.returns-clause-remainder
unfolding all_ones
returns-clause-remainder c =
    remainder_of c.args.bytes.now c.by_words.result (c.by_words.ensures ∙ c.loop-block.invariant) (omega arith)
    (λ i. omega (arith, c.type_inv.bytes i))
