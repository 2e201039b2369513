use Rattle.std.proofs.Common.{◌≡◌, length}
use Rattle.crc_castagnoli.specs.Division.{remainder_after, bits_of}
use Rattle.crc_castagnoli.proofs.by_words.Given as goal

abbrev pub invariant-loop-word : goal.invariant-loop-word
invariant-loop-word l = remainder_after l.left (bits_of l.rest) ≡ remainder_after l.fn.left (bits_of l.fn.bytes)

abbrev pub decreases-loop-word : goal.decreases-loop-word
decreases-loop-word l = length l.rest
