-- What joins a reading function to the relation of the bytes that stand for values (this project's own).
-- For example ten fields in 30 bytes are read as they were written.
use Rattle.std.specs.Prelude.{◌≡◌, ◌+◌, ◌<◌, ◌≤◌, ℕ, List, ◌++◌, length, Result, Ok}
use Rattle.flex_fields.specs.declared.fault.WireFault.{WireFault}
use Rattle.flex_fields.specs.Reading.{At, array_len_at}
use Rattle.flex_fields.specs.Grammar.{IsBytes, IsUvarint}

-- what a reader took: a front that stands for the value
pub record Takes (at after : At) (P : List ℕ → Type 0) : Type 0 where
  pub front : List ℕ
  pub parts : at.left ≡ front ++ after.left
  pub moved : after.place ≡ at.place + length front
  pub spelled : P front

-- The reader reads just what stands for a value, whatever follows it, and nothing stands as no byte.
pub record IsReader {A : Type 0} (P : List ℕ → A → Type 0) (read : At → Result (A × At) WireFault) : Type 0 where
  pub takes : (at : At) (x : A) (after : At) → IsBytes at.left → read at ≡ Ok (x, after) → Takes at after (λ front. P front x)
  pub gives : (front tail : List ℕ) (place : ℕ) (x : A) → P front x
      → read (record { place = place; left = front ++ tail }) ≡ Ok (x, record { place = place + length front; left = tail })
  pub some : (front : List ℕ) (x : A) → P front x → 0 < length front

-- a number of elements, with so many bytes behind it
pub record LenTakes (at : At) (n : ℕ) (after : At) : Type 0 where
  pub front : Takes at after (λ front. IsUvarint front (n + 1))
  pub within : n ≤ length after.left

-- a number of elements is read where it stands, whatever follows so many bytes
abbrev pub LenGives : Type 0
LenGives = (front tail : List ℕ) (place n : ℕ) → IsUvarint front (n + 1) → n ≤ length tail
    → array_len_at (record { place = place; left = front ++ tail }) ≡ Ok (n, record { place = place + length front; left = tail })
