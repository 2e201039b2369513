-- Laws of xor, halves and lowest bits.
use Rattle.std.proofs.Common.{◌≡◌, ℕ, zero, suc, ◌+◌, ◌*◌, ◌/◌, ◌%◌, ◌^◌, ◌<◌, ◌⊎◌, inl, inr, refl, sym, ap, ◌∙◌, arith}
use Rattle.std.specs.Int.Bits.{bit_xor, xor_assoc, xor_comm, xor_self, xor_zero_r, xor_shr, xor_mod, xor_shifted}

-- a digit is 0 or 1
pub digit_cases : (n : ℕ) → n < 2 → (n ≡ 0) ⊎ (n ≡ 1)
digit_cases zero h = inl refl
digit_cases (suc n) h = inr (omega arith)

pub low_cases : (n : ℕ) → (n % 2 ≡ 0) ⊎ (n % 2 ≡ 1)
low_cases n = digit_cases (n % 2) (omega arith)

pub half_xor : (a b : ℕ) → bit_xor a b / 2 ≡ bit_xor (a / 2) (b / 2)
half_xor a b = xor_shr a b 1

pub low_xor : (a b : ℕ) → bit_xor a b % 2 ≡ bit_xor (a % 2) (b % 2)
low_xor a b = xor_mod a b 1

-- the two middle ones change places
pub xor_middle : (a b c d : ℕ) → bit_xor (bit_xor a b) (bit_xor c d) ≡ bit_xor (bit_xor a c) (bit_xor b d)
xor_middle a b c d =
    xor_assoc a b (bit_xor c d)
    ∙ ap (bit_xor a) (sym (xor_assoc b c d) ∙ ap (λ (x : ℕ). bit_xor x d) (xor_comm b c) ∙ xor_assoc c b d)
    ∙ sym (xor_assoc a c (bit_xor b d))

-- digits of one number, times another
pub digits_times : (a b p : ℕ) → a < 2 → b < 2 → bit_xor a b * p ≡ bit_xor (a * p) (b * p)
digits_times zero b p ha hb = let e : 0 * p ≡ 0 = omega arith in rw e refl
digits_times (suc zero) zero p ha hb = let e : 0 * p ≡ 0 = omega arith in rw e (sym (xor_zero_r (1 * p)))
digits_times (suc zero) (suc zero) p ha hb = let e : 0 * p ≡ 0 = omega arith in e ∙ sym (xor_self (1 * p))
digits_times (suc zero) (suc (suc b)) p ha hb = absurd (omega arith)
digits_times (suc (suc a)) b p ha hb = absurd (omega arith)

-- a number is its lowest digit and its half
pub low_and_half : (n : ℕ) → bit_xor (n % 2) (2 * (n / 2)) ≡ n
low_and_half n =
    let e : 2 * (n / 2) ≡ (n / 2) * 2 ^ 1 = omega arith in
    let f : (n / 2) * 2 ^ 1 + n % 2 ≡ n = omega arith in
    xor_comm (n % 2) (2 * (n / 2)) ∙ ap (λ (x : ℕ). bit_xor x (n % 2)) e ∙ xor_shifted (n / 2) 1 (n % 2) (omega arith) ∙ f
