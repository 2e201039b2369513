-- What comparisons and tests of numbers say.
use Rattle.std.proofs.Common.{◌≡◌, ℕ, ◌+◌, ◌<◌, ◌≤◌, Bool, true, false, arith}
use Rattle.std.proofs.lemmas.Bool.Decides.{nat_tests}
use Rattle.std.specs.Prelude.{nat_lt, nat_le, not, ◌&&◌}
use Rattle.std.specs.Ordering.{nat_cmp}
use Rattle.std.specs.declared.cmp.Ordering.TheVariants.{Less, Equal, Greater}

pub lt_yes : (m n : ℕ) → nat_lt m n ≡ true → m < n
lt_yes m n e = grind (arith, nat_tests)

pub yes_lt : (m n : ℕ) → m < n → nat_lt m n ≡ true
yes_lt m n h = grind (arith, nat_tests)

pub lt_no : (m n : ℕ) → nat_lt m n ≡ false → n ≤ m
lt_no m n e = grind (arith, nat_tests)

pub no_lt : (m n : ℕ) → n ≤ m → nat_lt m n ≡ false
no_lt m n h = grind (arith, nat_tests)

pub cmp_less : (m n : ℕ) → m < n → nat_cmp m n ≡ Less
cmp_less m n h = grind (arith, nat_tests)

pub cmp_equal : (m n : ℕ) → m ≡ n → nat_cmp m n ≡ Equal
cmp_equal m n h = grind (arith, nat_tests)

pub cmp_greater : (m n : ℕ) → n < m → nat_cmp m n ≡ Greater
cmp_greater m n h = grind (arith, nat_tests)

-- a test for `at most` as one for `below`
pub upto : (m n : ℕ) (b : Bool) → nat_le m n ≡ b → nat_lt m (n + 1) ≡ b
upto m n b e = grind (arith, nat_tests)

-- what is kept beside a range
pub kept_below : (first last o : ℕ) → o < first → not (nat_le first o && nat_le o last) ≡ true
kept_below first last o h = grind (arith, nat_tests)

pub kept_above : (first last o : ℕ) → last < o → not (nat_le first o && nat_le o last) ≡ true
kept_above first last o h = grind (arith, nat_tests)

pub gone_within : (first last o : ℕ) → first ≤ o → o ≤ last → not (nat_le first o && nat_le o last) ≡ false
gone_within first last o h k = grind (arith, nat_tests)

pub less_is : (m n : ℕ) → nat_cmp m n ≡ Less → m < n
less_is m n e = grind (arith, nat_tests)

pub greater_is : (m n : ℕ) → nat_cmp m n ≡ Greater → n < m
greater_is m n e = grind (arith, nat_tests)
