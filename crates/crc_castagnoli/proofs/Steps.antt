-- Steps of the division are linear: the steps of a sum are the sum of the steps.
use Rattle.std.proofs.Common.{◌≡◌, ℕ, zero, suc, ◌*◌, ◌/◌, ◌%◌, inl, inr, refl, sym, ap, ◌∙◌, arith}
use Rattle.std.specs.Int.Bits.{bit_xor, xor_zero_r}
use Rattle.crc_castagnoli.specs.Division.{step, steps, castagnoli}
use Rattle.crc_castagnoli.proofs.Xor.{low_cases, half_xor, low_xor, xor_middle, digits_times}

-- a step without a choice
pub step-sum : (n : ℕ) → step n ≡ bit_xor (n / 2) (n % 2 * castagnoli)
unfolding step castagnoli
step-sum n =
    elim (low_cases n) [
      | inl e ↦ rw e (sym (xor_zero_r (n / 2)))
      | inr e ↦ rw e refl
    ]

pub step-xor : (a b : ℕ) → step (bit_xor a b) ≡ bit_xor (step a) (step b)
step-xor a b =
    rw (step-sum (bit_xor a b), step-sum a, step-sum b, half_xor a b, low_xor a b, digits_times (a % 2) (b % 2) castagnoli (omega arith) (omega arith))
    (xor_middle (a / 2) (b / 2) (a % 2 * castagnoli) (b % 2 * castagnoli))

pub steps-xor : (k a b : ℕ) → steps k (bit_xor a b) ≡ bit_xor (steps k a) (steps k b)
unfolding steps
steps-xor zero a b = refl
steps-xor (suc k) a b = ap (steps k) (step-xor a b) ∙ steps-xor k (step a) (step b)
