-- A name: 1 to 255 bytes of UTF-8 (RFC 3629), kept in an array of 255 bytes with zeros behind them. The bound is this
-- project's own.
-- For example `größe` is a name of 7 bytes; no bytes, 256 of them and the byte ff are none.
use Rattle.std.specs.Prelude.{◌≡◌, ◌≤◌, ◌-◌, ℕ, List, ◌++◌, length, take, replicate, true}
use Rattle.std.specs.Str.{is_utf8}
use Rattle.std.proofs.Common.{ap, ◌∙◌, sym, arith}
use Rattle.std.proofs.lemmas.List.{length-take}

-- which bytes are a name
pub record IsName (bytes : List ℕ) : Type 0 where
  pub some : 1 ≤ length bytes
  pub few : length bytes ≤ 255
  pub utf8 : is_utf8 bytes ≡ true

-- the first `n` of 255 bytes, and zeros behind them
pub record IsPadded (n : ℕ) (bytes : List ℕ) : Type 0 where
  pub few : n ≤ 255
  pub room : length bytes ≡ 255
  pub zeros : bytes ≡ take n bytes ++ replicate (255 - n) 0

pub padded_length : (n : ℕ) (bytes : List ℕ) → IsPadded n bytes → length (take n bytes) ≡ n
padded_length n bytes p = omega (arith, length-take n bytes, p.few, p.room)

pub padded_back : (n : ℕ) (bytes : List ℕ) → IsPadded n bytes → take n bytes ++ replicate (255 - length (take n bytes)) 0 ≡ bytes
padded_back n bytes p = ap (λ (k : ℕ). take n bytes ++ replicate (255 - k) 0) (padded_length n bytes p) ∙ sym p.zeros
