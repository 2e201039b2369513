-- The steps of the division give a quotient and a remainder, and there is no other remainder.
use Rattle.std.proofs.Common.{◌≡◌, ℕ, zero, suc, ◌+◌, ◌*◌, ◌/◌, ◌%◌, ◌^◌, ◌<◌, List, [], ◌∷◌, length, refl, sym, ap, ◌∙◌, inl, inr, arith}
use Rattle.std.specs.List.{AllByRecursion}
use Rattle.std.proofs.Math.Nat.{pow-suc}
use Rattle.std.specs.Int.Bits.{bit_xor, xor_assoc, xor_comm, xor_self, xor_zero_l, xor_zero_r, xor_lt, xor_shifted, xor_block}
use Rattle.crc_castagnoli.specs.Division.{IsRemainder, all_ones, bits_of, castagnoli, remainder_after, number_of, step, steps, times_polynomial}
use Rattle.crc_castagnoli.proofs.Xor.{digit_cases, low_cases}
use Rattle.crc_castagnoli.proofs.Steps.{step-sum, step-xor}
use Rattle.crc_castagnoli.proofs.Bytes.{AreBytes, remainder_after-bytes, step-even}

pub double_xor : (a b : ℕ) → 2 * bit_xor a b ≡ bit_xor (2 * a) (2 * b)
double_xor a b =
    let e : 2 * a ≡ a * 2 ^ 1 + 0 = omega arith in
    let f : 2 * b ≡ b * 2 ^ 1 + 0 = omega arith in
    let g : 2 * bit_xor a b ≡ bit_xor a b * 2 ^ 1 + bit_xor 0 0 = omega arith in
    rw (e, f) (g ∙ sym (xor_block 1 a b 0 0 (omega arith) (omega arith)))

-- what is added twice is gone
pub xor_twice : (a b : ℕ) → bit_xor a (bit_xor b a) ≡ b
xor_twice a b = ap (bit_xor a) (xor_comm b a) ∙ sym (xor_assoc a a b) ∙ ap (λ (x : ℕ). bit_xor x b) (xor_self a)

-- a number is its lowest digit times the whole polynomial, and twice what a step leaves
pub step-whole : (n : ℕ) → bit_xor (n % 2 * (1 + 2 * castagnoli)) (2 * step n) ≡ n
step-whole n =
    ap (λ (x : ℕ). bit_xor (n % 2 * (1 + 2 * castagnoli)) (2 * x)) (step-sum n)
    ∙ elim (low_cases n) [
      | inl e ↦ rw e (let none : 0 * (1 + 2 * castagnoli) ≡ 0 = omega arith in let gone : 0 * castagnoli ≡ 0 = omega arith in rw (none, gone) (rw xor_zero_r (omega arith)))
      | inr e ↦ rw e (odd n (n / 2) (omega arith))
    ]
  where
    odd : (n half : ℕ) → n ≡ half * 2 ^ 1 + 1 → bit_xor (1 * (1 + 2 * castagnoli)) (2 * bit_xor half (1 * castagnoli)) ≡ n
    odd n half e =
        let whole : 1 * (1 + 2 * castagnoli) ≡ bit_xor 1 (2 * castagnoli) =
        let f : 2 * castagnoli ≡ castagnoli * 2 ^ 1 = omega arith in
        rw f (omega (arith, xor_comm 1 (castagnoli * 2 ^ 1), xor_shifted castagnoli 1 1 (omega arith))) in
        let one : 1 * castagnoli ≡ castagnoli = omega arith in
        rw (whole, one, double_xor half castagnoli)
        (xor_assoc 1 (2 * castagnoli) (bit_xor (2 * half) (2 * castagnoli)) ∙ ap (bit_xor 1) (xor_twice (2 * castagnoli) (2 * half))
        ∙ xor_comm 1 (2 * half) ∙ (let f : 2 * half ≡ half * 2 ^ 1 = omega arith in ap (λ (x : ℕ). bit_xor x 1) f) ∙ xor_shifted half 1 1 (omega arith) ∙ sym e)

-- the quotient that so many steps find
pub quotient : ℕ → ℕ → List ℕ
quotient zero n = []
quotient (suc k) n = n % 2 ∷ quotient k (step n)

pub length-quotient : (k n : ℕ) → length (quotient k n) ≡ k
unfolding quotient
length-quotient zero n = refl
length-quotient (suc k) n = ap suc (length-quotient k (step n))

-- each is 0 or 1
pub binary-quotient : (k n : ℕ) → AllByRecursion (λ q. q < 2) (quotient k n)
unfolding quotient
binary-quotient zero n = tt
binary-quotient (suc k) n = (omega arith, binary-quotient k (step n))

pub quotient-steps : (k n : ℕ) → n ≡ bit_xor (times_polynomial (quotient k n)) (steps k n * 2 ^ k)
unfolding quotient times_polynomial steps
quotient-steps zero n = omega arith
quotient-steps (suc k) n =
    let q : ℕ = times_polynomial (quotient k (step n)) in
    let r : ℕ = steps k (step n) in
    let front : ℕ = n % 2 * (1 + 2 * castagnoli) in
    let back : 2 * (r * 2 ^ k) ≡ r * 2 ^ suc k = rw (pow-suc 2 k) (omega arith) in
    sym (step-whole n)
    ∙ ap (λ (x : ℕ). bit_xor front (2 * x)) (quotient-steps k (step n))
    ∙ ap (bit_xor front) (double_xor q (r * 2 ^ k) ∙ ap (bit_xor (2 * q)) back)
    ∙ sym (xor_assoc front (2 * q) (r * 2 ^ suc k))

-- what the division leaves is the remainder
pub remainder_of : (bytes : List ℕ) (left : ℕ) → left ≡ remainder_after all_ones (bits_of bytes) → left < 2 ^ 32 → AreBytes bytes → IsRemainder bytes (bit_xor (bit_xor left all_ones) all_ones)
unfolding all_ones
remainder_of bytes left e below h =
    let k : ℕ = 8 * length bytes in
    let n : ℕ = bit_xor (number_of bytes) all_ones in
    let same : bit_xor (bit_xor left all_ones) all_ones ≡ steps k n =
    xor_assoc left all_ones all_ones ∙ ap (bit_xor left) (xor_self all_ones) ∙ xor_zero_r left ∙ e ∙ remainder_after-bytes all_ones bytes h ∙ ap (steps k) (xor_comm all_ones (number_of bytes)) in
    record {
      below = xor_lt 32 (bit_xor left all_ones) all_ones (xor_lt 32 left all_ones below (omega arith)) (omega arith);
      quotient = quotient k n;
      bits = length-quotient k n;
      coefficients = binary-quotient k n;
      sum = rw same (quotient-steps k n);
    }

-- a step takes the polynomial away
step-polynomial : (q : ℕ) → q < 2 → step (q * (1 + 2 * castagnoli)) ≡ 0
unfolding step castagnoli
step-polynomial q h =
    elim (digit_cases q h) [
      | inl e ↦ rw e refl
      | inr e ↦ rw e refl
    ]

-- the steps undo a multiple of the polynomial and leave what stands behind it
pub steps-quotient : (quotient : List ℕ) (r : ℕ) → AllByRecursion (λ q. q < 2) quotient
    → steps (length quotient) (bit_xor (times_polynomial quotient) (r * 2 ^ length quotient)) ≡ r
unfolding steps times_polynomial
steps-quotient [] r h = let e : r * 2 ^ 0 ≡ r = omega arith in rw e (xor_zero_l r)
steps-quotient (q ∷ quotient) r h =
    let k : ℕ = length quotient in
    let t : ℕ = times_polynomial quotient in
    let front : ℕ = q * (1 + 2 * castagnoli) in
    let back : r * 2 ^ suc k ≡ 2 * (r * 2 ^ k) = rw (pow-suc 2 k) (omega arith) in
    let one : step (bit_xor (bit_xor front (2 * t)) (2 * (r * 2 ^ k))) ≡ bit_xor t (r * 2 ^ k) =
    step-xor (bit_xor front (2 * t)) (2 * (r * 2 ^ k))
    ∙ ap (λ (x : ℕ). bit_xor x (step (2 * (r * 2 ^ k)))) (step-xor front (2 * t) ∙ ap (λ (x : ℕ). bit_xor x (step (2 * t))) (step-polynomial q h.0)
    ∙ xor_zero_l (step (2 * t)) ∙ step-even t)
    ∙ ap (bit_xor t) (step-even (r * 2 ^ k)) in
    ap (λ (x : ℕ). steps k (step (bit_xor (bit_xor front (2 * t)) x))) back
    ∙ ap (steps k) one ∙ steps-quotient quotient r h.1

-- a remainder is what the steps leave
pub remainder-steps : (bytes : List ℕ) (r : ℕ) → IsRemainder bytes r → r ≡ steps (8 * length bytes) (bit_xor (number_of bytes) all_ones)
remainder-steps bytes r is =
    sym (steps-quotient is.quotient r is.coefficients)
    ∙ ap (λ (k : ℕ). steps k (bit_xor (times_polynomial is.quotient) (r * 2 ^ k))) is.bits
    ∙ ap (steps (8 * length bytes)) (sym is.sum)

pub one_remainder : (bytes : List ℕ) (r s : ℕ) → IsRemainder bytes r → IsRemainder bytes s → r ≡ s
one_remainder bytes r s a b = remainder-steps bytes r a ∙ sym (remainder-steps bytes s b)
