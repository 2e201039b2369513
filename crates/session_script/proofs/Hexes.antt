-- Digits in lower case are those of the bytes to which they decode.
use Rattle.std.proofs.Common.{◌≡◌, ◌≢◌, ◌<◌, ◌+◌, ◌*◌, ◌/◌, ◌%◌, ℕ, zero, suc, Bool, true, false, ◌&&◌, ◌||◌, ◌==◌, List, [], ◌∷◌, Option}
use Rattle.std.proofs.Common.{Some, None, Result, Ok, Err, slice_index, refl, sym, ap, ◌∙◌, arith, inl, inr}
use Rattle.std.proofs.lemmas.Bool.{and_parts, cases_lt, eqb-true}
use Rattle.std.proofs.lemmas.Bool.Decides.{nat_tests}
use Rattle.std.specs.List.{list_any}
use Rattle.std.specs.Char.{is_ascii_uppercase, digit_char}
use Rattle.hex.specs.Hex.{decode_of, decode_pairs, digit_or_error, hex_digit_value, encode_lower, encode_with, lower_digits, pair_value}
use Rattle.hex.specs.Hex.{value_at, IsBytes, ◌>>=◌}
use Rattle.hex.specs.declared.error.FromHexError.{FromHexError}
use Rattle.hex.proofs.HexLemmas.{decode_of-ok, decode_of-even, decode_of-encode_lower}
use Rattle.session_script.specs.Lines.{HasNone, IsHex, IsNoHex}

-- the table of digits, place by place
abbrev are_digits : ℕ → Bool
are_digits zero = true
are_digits (suc n) = (slice_index lower_digits n == digit_char n) && are_digits n

digits_at : (n d : ℕ) → are_digits n ≡ true → d < n → slice_index lower_digits d ≡ digit_char d
digits_at zero d h lt = absurd (omega arith)
digits_at (suc n) d h lt =
    let p = and_parts (slice_index lower_digits n == digit_char n) (are_digits n) h in
    elim (cases_lt d n) [
      | inl below ↦ digits_at n d p.1 below
      | inr top ↦ let e : d ≡ n = omega arith in rw e (eqb-true _ _ p.0)
    ]

digit_is : (d : ℕ) → d < 16 → slice_index lower_digits d ≡ digit_char d
digit_is d lt = digits_at 16 d refl lt

lower_of : (c v : ℕ) → hex_digit_value c ≡ Some v → is_ascii_uppercase c ≡ false → (v < 16) × (digit_char v ≡ c)
lower_of c v e u = grind (arith, nat_tests)

lower_char : (d : ℕ) → d < 16 → is_ascii_uppercase (digit_char d) ≡ false
lower_char d lt = grind (arith, nat_tests)

bind_ok : {A B : Type 0} (r : Result A FromHexError) (f : A → Result B FromHexError) (y : B) → (r >>= f) ≡ Ok y → (x : A) × (r ≡ Ok x) × (f x ≡ Ok y)
bind_ok (Ok x) f y h = (x, refl, h)
bind_ok (Err e) f y h = absurd (cc h)

digit_read : (c i : ℕ) (o : Option ℕ) (v : ℕ) → digit_or_error c i o ≡ Ok v → o ≡ Some v
digit_read c i (Some w) v h = cc
digit_read c i None v h = absurd (cc h)

both_false : (a b : Bool) → (a || b) ≡ false → (a ≡ false) × (b ≡ false)
both_false false b h = (refl, h)
both_false true b h = absurd (cc h)

pairs_lower : (i : ℕ) (s bytes : List ℕ) → decode_pairs i s ≡ Ok bytes → list_any is_ascii_uppercase s ≡ false → s ≡ encode_lower bytes
unfolding decode_pairs encode_with
pairs_lower i [] bytes h u = let e : [] ≡ bytes = cc in rw (← e) refl
pairs_lower i (a ∷ []) bytes h u = absurd (cc h)
pairs_lower i (a ∷ b ∷ rest) bytes h u =
    let p0 = bind_ok (pair_value a b i) _ bytes h in
    let p1 = bind_ok (value_at a i) _ p0.0 p0.1 in
    let p2 = bind_ok (value_at b (i + 1)) _ p0.0 p1.2 in
    let p3 = bind_ok (decode_pairs (i + 2) rest) _ bytes p0.2 in
    let ua = both_false (is_ascii_uppercase a) _ u in
    let ub = both_false (is_ascii_uppercase b) _ ua.1 in
    let la = lower_of a p1.0 (digit_read a i (hex_digit_value a) p1.0 p1.1) ua.0 in
    let lb = lower_of b p2.0 (digit_read b (i + 1) (hex_digit_value b) p2.0 p2.1) ub.0 in
    let ih = pairs_lower (i + 2) rest p3.0 p3.1 ub.1 in
    let byte : p1.0 * 16 + p2.0 ≡ p0.0 = cc (p2.2) in
    let all : p0.0 ∷ p3.0 ≡ bytes = cc (p3.2) in
    let up : p0.0 / 16 ≡ p1.0 = omega (arith, byte, lb.0) in
    let down : p0.0 % 16 ≡ p2.0 = omega (arith, byte, lb.0) in
    rw (← all, up, down, digit_is p1.0 la.0, digit_is p2.0 lb.0, la.1, lb.1) (ap (λ (k : List ℕ). a ∷ b ∷ k) ih)

pub hex_of : (digits bytes : List ℕ) → decode_of digits ≡ Ok bytes → list_any is_ascii_uppercase digits ≡ false → IsHex digits bytes
hex_of digits bytes h u =
    let p = decode_of-ok digits bytes h in
    (p.3, pairs_lower 0 digits bytes (sym (decode_of-even digits p.0) ∙ h) u)

no_upper : (bytes : List ℕ) → IsBytes bytes → list_any is_ascii_uppercase (encode_lower bytes) ≡ false
unfolding encode_with
no_upper [] h = refl
no_upper (b ∷ bytes) h =
    let small : b < 256 = h 0 in
    let up : b / 16 < 16 = omega arith in
    let down : b % 16 < 16 = omega arith in
    rw (digit_is (b / 16) up, digit_is (b % 16) down, lower_char (b / 16) up, lower_char (b % 16) down) (no_upper bytes (λ i. h (suc i)))

pub upper_is_none : (digits : List ℕ) → list_any is_ascii_uppercase digits ≡ true → IsNoHex digits
upper_is_none digits u bytes p = let e : list_any is_ascii_uppercase digits ≡ false = ap (list_any is_ascii_uppercase) p.1 ∙ no_upper bytes p.0 in absurd (cc)

pub refused_is_none : (digits : List ℕ) (e : FromHexError) → decode_of digits ≡ Err e → IsNoHex digits
refused_is_none digits e h bytes p = let g : decode_of digits ≡ Ok bytes = ap decode_of p.1 ∙ decode_of-encode_lower bytes p.0 in absurd (cc)

no_feed_char : (d : ℕ) → d < 16 → digit_char d ≢ 10
no_feed_char d lt e = grind (arith, nat_tests)

-- digits have no line feed
pub hex_no_feed : (bytes : List ℕ) → IsBytes bytes → HasNone 10 (encode_lower bytes)
unfolding encode_with
hex_no_feed [] h = tt
hex_no_feed (b ∷ bytes) h =
    let small : b < 256 = h 0 in
    let up : b / 16 < 16 = omega arith in
    let down : b % 16 < 16 = omega arith in (
      (λ e. no_feed_char (b / 16) up (sym (digit_is (b / 16) up) ∙ e)),
      ((λ e. no_feed_char (b % 16) down (sym (digit_is (b % 16) down) ∙ e)), hex_no_feed bytes (λ i. h (suc i))),
    )
