-- The division of whole bytes, one, four and sixteen at a time.
use Rattle.std.proofs.Common.{◌≡◌, ℕ, zero, suc, ◌+◌, ◌*◌, ◌/◌, ◌%◌, ◌^◌, ◌<◌, List, [], ◌∷◌, ◌++◌, length, get_or, take, drop, refl, sym, ap, ◌∙◌, arith}
use Rattle.std.proofs.Math.Nat.{mod-lt, pow-suc}
use Rattle.std.proofs.lemmas.List.{take-append-drop}
use Rattle.std.proofs.lemmas.Nat.{div-add-mod', pow_pos}
use Rattle.std.proofs.lemmas.Grind.{flat_map-append}
use Rattle.std.specs.Prelude.{flat_map}
use Rattle.std.specs.Int.{w32, w128, from_le_bytes}
use Rattle.std.specs.Int.Bits.{bit_xor, xor_assoc, xor_comm, xor_zero_r, xor_shifted, xor_mod, xor_shr}
use Rattle.crc_castagnoli.specs.Division.{castagnoli, step, steps, low_bits, remainder_after, bits_of, number_of}
use Rattle.crc_castagnoli.proofs.Xor.{low_and_half}
use Rattle.crc_castagnoli.proofs.Steps.{step-sum, step-xor, steps-xor}

-- an even number is halved
pub step-even : (n : ℕ) → step (2 * n) ≡ n
step-even n =
    let half : 2 * n / 2 ≡ n = omega arith in
    let low : 2 * n % 2 * castagnoli ≡ 0 = let e : 2 * n % 2 ≡ 0 = omega arith in rw e (omega arith) in
    step-sum (2 * n) ∙ rw (half, low) (xor_zero_r n)

-- what comes in bit by bit is what is added at once
pub remainder_after-low_bits : (k left b : ℕ) (bits : List ℕ) → b < 2 ^ k → remainder_after left (low_bits k b ++ bits) ≡ remainder_after (steps k (bit_xor left b)) bits
unfolding low_bits remainder_after steps
remainder_after-low_bits zero left b bits h = let e : b ≡ 0 = omega arith in rw e (rw xor_zero_r refl)
remainder_after-low_bits (suc k) left b bits h =
    let half : b / 2 < 2 ^ k = omega arith in
    remainder_after-low_bits k (step (bit_xor left (b % 2))) (b / 2) bits half
    ∙ ap (λ (x : ℕ). remainder_after (steps k x) bits)
    (ap (bit_xor (step (bit_xor left (b % 2)))) (sym (step-even (b / 2)))
    ∙ sym (step-xor (bit_xor left (b % 2)) (2 * (b / 2)))
    ∙ ap step (xor_assoc left (b % 2) (2 * (b / 2)) ∙ ap (bit_xor left) (low_and_half b)))

-- a byte comes in
pub remainder_after-byte : (left byte : ℕ) (bytes : List ℕ) → byte < 256 → remainder_after left (bits_of (byte ∷ bytes)) ≡ remainder_after (steps 8 (bit_xor left byte)) (bits_of bytes)
unfolding bits_of
remainder_after-byte left byte bytes h = remainder_after-low_bits 8 left byte (flat_map (low_bits 8) bytes) h

-- what a step does to a multiple of a power
pub steps-shifted : (k n : ℕ) → steps k (n * 2 ^ k) ≡ n
unfolding steps
steps-shifted zero n = omega arith
steps-shifted (suc k) n =
    let e : n * 2 ^ suc k ≡ 2 * (n * 2 ^ k) = rw (pow-suc 2 k) (omega arith) in
    rw e (rw (step-even (n * 2 ^ k)) (steps-shifted k n))

pub steps-add : (j k n : ℕ) → steps (j + k) n ≡ steps k (steps j n)
unfolding steps
steps-add zero k n = let e : 0 + k ≡ k = omega arith in ap (λ (x : ℕ). steps x n) e
steps-add (suc j) k n = let e : suc j + k ≡ suc (j + k) = omega arith in rw e (steps-add j k (step n))

-- the lowest bits of a number, and those above them
pub steps-parts : (j bits k x : ℕ) → j ≡ bits + k
    → steps j x ≡ bit_xor (steps j (x % 2 ^ bits)) (steps k (x / 2 ^ bits))
steps-parts j bits k x e =
    let low : ℕ = x % 2 ^ bits in
    let high : ℕ = x / 2 ^ bits in
    let sum : bit_xor low (high * 2 ^ bits) ≡ x =
    xor_comm low (high * 2 ^ bits) ∙ xor_shifted high bits low (mod-lt x (pow_pos bits)) ∙ div-add-mod' x (2 ^ bits) in
    let above : steps j (high * 2 ^ bits) ≡ steps k high =
    ap (λ (n : ℕ). steps n (high * 2 ^ bits)) e ∙ steps-add bits k (high * 2 ^ bits)
    ∙ ap (steps k) (steps-shifted bits high) in
    ap (steps j) (sym sum) ∙ steps-xor j low (high * 2 ^ bits) ∙ ap (bit_xor (steps j low)) above

-- each element is a byte
abbrev pub AreBytes : List ℕ → Type 0
AreBytes bytes = (i : ℕ) → get_or bytes i 0 < 256

-- what bytes leave is what their number leaves
pub remainder_after-bytes : (left : ℕ) (bytes : List ℕ) → AreBytes bytes → remainder_after left (bits_of bytes) ≡ steps (8 * length bytes) (bit_xor left (number_of bytes))
unfolding bits_of remainder_after number_of steps
remainder_after-bytes left [] h = sym (xor_zero_r left)
remainder_after-bytes left (b ∷ bytes) h =
    let k : ℕ = 8 * length bytes in
    let e : 8 * suc (length bytes) ≡ 8 + k = omega arith in
    let sum : b + 256 * number_of bytes ≡ bit_xor b (number_of bytes * 2 ^ 8) = sym (xor_comm b (number_of bytes * 2 ^ 8) ∙ xor_shifted (number_of bytes) 8 b (h 0) ∙ omega arith) in
    remainder_after-byte left b bytes (h 0)
    ∙ remainder_after-bytes (steps 8 (bit_xor left b)) bytes (λ i. h (suc i))
    ∙ sym (ap (λ (x : ℕ). steps x (bit_xor left (b + 256 * number_of bytes))) e
    ∙ ap (λ (x : ℕ). steps (8 + k) (bit_xor left x)) sum
    ∙ ap (steps (8 + k)) (sym (xor_assoc left b (number_of bytes * 2 ^ 8)))
    ∙ steps-add 8 k (bit_xor (bit_xor left b) (number_of bytes * 2 ^ 8))
    ∙ ap (steps k) (steps-xor 8 (bit_xor left b) (number_of bytes * 2 ^ 8) ∙ ap (bit_xor (steps 8 (bit_xor left b))) (steps-shifted 8 (number_of bytes))))

-- the same by a number that the code reads
pub remainder_after-number : (left x n : ℕ) (bytes : List ℕ) → AreBytes bytes → length bytes ≡ n → number_of bytes ≡ x
    → steps (8 * n) (bit_xor x left) ≡ remainder_after left (bits_of bytes)
remainder_after-number left x n bytes h e f =
    ap (steps (8 * n)) (ap (λ (y : ℕ). bit_xor y left) (sym f) ∙ xor_comm (number_of bytes) left)
    ∙ ap (λ (k : ℕ). steps (8 * k) (bit_xor left (number_of bytes))) (sym e) ∙ sym (remainder_after-bytes left bytes h)

-- the four bytes of a word, each divided by itself
pub steps-word : (n x : ℕ) → x < 2 ^ 32 →
    bit_xor (bit_xor (steps (8 * (4 * n + 3 + 1)) (x % 256)) (steps (8 * (4 * n + 2 + 1)) (x / 256 % 256)))
    (bit_xor (steps (8 * (4 * n + 1 + 1)) (x / 65536 % 256)) (steps (8 * (4 * n + 1)) (x / 16777216 % 256)))
    ≡ steps (32 * (n + 1)) x
steps-word n x h =
    let k : ℕ = 32 * n in
    let a : 8 * (4 * n + 3 + 1) ≡ 32 + k = omega arith in
    let b : 8 * (4 * n + 2 + 1) ≡ 24 + k = omega arith in
    let c : 8 * (4 * n + 1 + 1) ≡ 16 + k = omega arith in
    let d : 8 * (4 * n + 1) ≡ 8 + k = omega arith in
    let whole : 32 * (n + 1) ≡ 32 + k = omega arith in
    let second : x / 256 / 256 ≡ x / 65536 = omega arith in
    let third : x / 65536 / 256 ≡ x / 16777216 = omega arith in
    let fourth : x / 16777216 ≡ x / 16777216 % 256 = omega arith in
    let back : ℕ = bit_xor (steps (16 + k) (x / 65536 % 256)) (steps (8 + k) (x / 16777216 % 256)) in
    rw (a, b, c, d, whole) (xor_assoc (steps (32 + k) (x % 256)) (steps (24 + k) (x / 256 % 256)) back
    ∙ sym (steps-parts (32 + k) 8 (24 + k) x (omega arith)
    ∙ ap (bit_xor (steps (32 + k) (x % 256))) (steps-parts (24 + k) 8 (16 + k) (x / 256) (omega arith)
    ∙ ap (bit_xor (steps (24 + k) (x / 256 % 256)))
    (ap (steps (16 + k)) second ∙ steps-parts (16 + k) 8 (8 + k) (x / 65536) (omega arith)
    ∙ ap (bit_xor (steps (16 + k) (x / 65536 % 256))) (ap (steps (8 + k)) (third ∙ fourth))))))

-- the four words of sixteen bytes, each divided by itself
pub steps-block : (x : ℕ) →
    bit_xor (steps 128 (x % 4294967296)) (bit_xor (steps 96 (x / 4294967296 % 4294967296))
    (bit_xor (steps 64 (x / 4294967296 / 4294967296 % 4294967296))
    (steps 32 (x / 4294967296 / 4294967296 / 4294967296)))) ≡ steps 128 x
steps-block x =
    sym (steps-parts 128 32 96 x refl
    ∙ ap (bit_xor (steps 128 (x % 4294967296))) (steps-parts 96 32 64 (x / 4294967296) refl
    ∙ ap (bit_xor (steps 96 (x / 4294967296 % 4294967296))) (steps-parts 64 32 32 (x / 4294967296 / 4294967296) refl)))

-- the number of four bytes, and of sixteen
pub number-word : (bytes : List ℕ) → length bytes ≡ 4 → number_of bytes ≡ from_le_bytes w32 bytes
unfolding number_of
number-word (a ∷ b ∷ c ∷ d ∷ []) p = omega arith
number-word _ p = absurd (omega arith)

pub number-block : (bytes : List ℕ) → length bytes ≡ 16 → number_of bytes ≡ from_le_bytes w128 bytes
unfolding number_of
number-block (a ∷ b ∷ c ∷ d ∷ e ∷ f ∷ g ∷ h ∷ i ∷ j ∷ k ∷ l ∷ m ∷ n ∷ o ∷ p ∷ []) q = omega arith
number-block _ q = absurd (omega arith)

-- the division goes on from what the front left
pub remainder_after-append : (left : ℕ) (a b : List ℕ) → remainder_after left (a ++ b) ≡ remainder_after (remainder_after left a) b
unfolding remainder_after
remainder_after-append left [] b = refl
remainder_after-append left (x ∷ a) b = remainder_after-append (step (bit_xor left x)) a b

pub bits_of-append : (a b : List ℕ) → bits_of (a ++ b) ≡ bits_of a ++ bits_of b
unfolding bits_of
bits_of-append a b = flat_map-append (low_bits 8) a b

pub remainder_after-split : (left n : ℕ) (bytes : List ℕ) → remainder_after (remainder_after left (bits_of (take n bytes))) (bits_of (drop n bytes)) ≡ remainder_after left (bits_of bytes)
remainder_after-split left n bytes =
    sym (remainder_after-append left (bits_of (take n bytes)) (bits_of (drop n bytes)))
    ∙ ap (remainder_after left) (sym (bits_of-append (take n bytes) (drop n bytes)) ∙ ap bits_of (take-append-drop n bytes))

-- a byte by the table: what is above the lowest byte only moves down
pub steps-next : (left byte : ℕ) → byte < 256 → steps 8 (bit_xor left byte) ≡ bit_xor (steps 8 (bit_xor (left % 256) byte)) (left / 256)
unfolding steps
steps-next left byte h =
    let small : byte % 256 ≡ byte = omega arith in
    let none : byte / 256 ≡ 0 = omega arith in
    let low : bit_xor left byte % 256 ≡ bit_xor (left % 256) byte =
    xor_mod left byte 8 ∙ ap (bit_xor (left % 256)) small in
    let high : bit_xor left byte / 256 ≡ left / 256 =
    xor_shr left byte 8 ∙ ap (bit_xor (left / 256)) none ∙ xor_zero_r (left / 256) in
    steps-parts 8 8 0 (bit_xor left byte) refl ∙ ap (λ (x : ℕ). bit_xor (steps 8 x) (bit_xor left byte / 256)) low
    ∙ ap (bit_xor (steps 8 (bit_xor (left % 256) byte))) high
