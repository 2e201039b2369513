use Rattle.std.proofs.Common.{◌≡◌, length, rules, sym, ◌∙◌}
use Rattle.crc_castagnoli.proofs.Bytes.{number-word, remainder_after-number}
use Rattle.crc_castagnoli.proofs.by_word.Goals as goal

pub returns : goal.returns
returns c =
    let bytes = c.args.word.now in
    let four : length bytes ≡ 4 = search rules in
    let number = number-word bytes four ∙ sym c.from_le_bytes.ensures in
    c.word_steps.ensures
    ∙ remainder_after-number c.args.left c.from_le_bytes.result 4 bytes (λ i. search rules) four number
