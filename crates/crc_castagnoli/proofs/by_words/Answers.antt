use Rattle.std.proofs.Common.{ap, ◌∙◌, take}
use Rattle.crc_castagnoli.specs.Division.{remainder_after, bits_of}
use Rattle.crc_castagnoli.proofs.Bytes.{remainder_after-split}
use Rattle.crc_castagnoli.proofs.by_words.Goals as goal

pub loop-word-preserved : goal.loop-word-preserved
loop-word-preserved c =
    let rest = c.loop-word.rest.now in
    let left = c.loop-word.left in
    let after = c.in-Some.after.now in
    ap (λ x. remainder_after x (bits_of after)) c.by_word-left.ensures
    ∙ ap (λ xs. remainder_after (remainder_after left (bits_of xs)) (bits_of after)) c.in-Some.ensures.cases.0
    ∙ ap (λ xs. remainder_after (remainder_after left (bits_of (take 4 rest))) (bits_of xs)) c.in-Some.ensures.cases.1
    ∙ remainder_after-split left 4 rest
    ∙ c.loop-word.invariant

pub returns : goal.returns
returns c = c.by_byte.ensures ∙ c.loop-word.invariant
