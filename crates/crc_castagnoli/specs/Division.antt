-- CRC-32C, the cyclic redundancy check with Castagnoli's polynomial (RFC 3720, section 12.1 and appendix B.4; RFC 3385).
--
-- A message is a polynomial over the two-element field: its bits, each byte's lowest bit first, are the coefficients from
-- the highest power down. The check is the remainder of its division by the polynomial, with the first 32 bits of the
-- message inverted, 32 bits of 0 behind it, and each bit of the remainder inverted. A number holds coefficients in the
-- same order, the highest power in its lowest bit, so bit i of a remainder is the coefficient of the power 31 - i.
--
-- Worked example: the nine bytes of the text 123456789 have the check e3069283.
use Rattle.std.specs.Prelude.{◌≡◌, ℕ, zero, suc, ◌+◌, ◌*◌, ◌/◌, ◌%◌, ◌^◌, ◌<◌, ◌==◌, if◌then◌else◌, List, [], ◌∷◌, length, flat_map, bit_xor}
use Rattle.std.specs.List.{AllByRecursion}

-- the polynomial without its highest power: that of the power 31 in bit 0, that of the power 0 in bit 31
unfoldable pub castagnoli : ℕ
castagnoli = 0x82f6_3b78

-- all 32 coefficients are 1
unfoldable pub all_ones : ℕ
all_ones = 0xffff_ffff

-- One step of long division: the coefficient in front goes, and where it was 1, the polynomial is subtracted.
unfoldable pub step : ℕ → ℕ
step n = if n % 2 == 0 then n / 2 else bit_xor (n / 2) castagnoli

-- so many steps, while no bits of the message come in
unfoldable pub steps : ℕ → ℕ → ℕ
steps zero n = n
steps (suc k) n = steps k (step n)

-- the lowest bits of a number, so many of them, the lowest first
unfoldable pub low_bits : ℕ → ℕ → List ℕ
low_bits zero n = []
low_bits (suc k) n = n % 2 ∷ low_bits k (n / 2)

-- What is left once these bits are divided as well, from what the bits before them left.
unfoldable pub remainder_after : ℕ → List ℕ → ℕ
remainder_after left [] = left
remainder_after left (bit ∷ bits) = remainder_after (step (bit_xor left bit)) bits

unfoldable pub bits_of : List ℕ → List ℕ
bits_of bytes = flat_map (low_bits 8) bytes

-- the check of the bytes
unfoldable pub crc_of : List ℕ → ℕ
crc_of bytes = bit_xor (remainder_after all_ones (bits_of bytes)) all_ones

-- The message as one number, its first bit the lowest.
unfoldable pub number_of : List ℕ → ℕ
number_of [] = 0
number_of (byte ∷ bytes) = byte + 256 * number_of bytes

-- The product of a quotient and the whole polynomial: the sum, without carries, of the polynomial at each power that the
-- quotient has, the highest power first.
unfoldable pub times_polynomial : List ℕ → ℕ
times_polynomial [] = 0
times_polynomial (q ∷ quotient) = bit_xor (q * (1 + 2 * castagnoli)) (2 * times_polynomial quotient)

-- What the remainder of a division means: the message, its first 32 bits inverted, is a multiple of the polynomial and,
-- behind it, the remainder. For example the one byte 61 has the remainder 3e2fbccf.
pub record IsRemainder (bytes : List ℕ) (remainder : ℕ) : Type 0 where
  pub below : remainder < 2 ^ 32
  pub quotient : List ℕ
  pub bits : length quotient ≡ 8 * length bytes
  pub coefficients : AllByRecursion (λ q. q < 2) quotient
  pub sum : bit_xor (number_of bytes) all_ones ≡ bit_xor (times_polynomial quotient) (remainder * 2 ^ (8 * length bytes))
