use Rattle.std.proofs.Common.{◌≡◌, drop}
use Rattle.crc_castagnoli.specs.Division.{remainder_after, bits_of}
use Rattle.crc_castagnoli.proofs.by_byte.Given as goal

abbrev pub invariant-loop-byte : goal.invariant-loop-byte
invariant-loop-byte l = remainder_after l.left (bits_of (drop l.byte-index l.bytes)) ≡ remainder_after l.fn.left (bits_of l.fn.bytes)
