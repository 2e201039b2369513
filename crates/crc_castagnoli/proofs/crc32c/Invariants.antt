use Rattle.std.proofs.Common.{◌≡◌, length}
use Rattle.crc_castagnoli.specs.Division.{all_ones, remainder_after, bits_of}
use Rattle.crc_castagnoli.proofs.crc32c.Given as goal

abbrev pub invariant-loop-block : goal.invariant-loop-block
invariant-loop-block l = remainder_after l.left (bits_of l.rest) ≡ remainder_after all_ones (bits_of l.fn.bytes)

abbrev pub decreases-loop-block : goal.decreases-loop-block
decreases-loop-block l = length l.rest
