-- A structure or null (KIP-893, nullable structures): the byte -1 alone, or the byte 1 and then the structure.
-- For example null is `ff`, and a structure with the number 7 in four bytes is `01 00000007 00`; `00` is neither, and is refused
-- at its place.
use Rattle.std.specs.Prelude.{◌≡◌, ℕ, pos, negsuc, List, ◌++◌, Option, Some, None, Result, Ok, Err, if◌then◌else◌}
use Rattle.std.specs.Int.{w8}
use Rattle.std.specs.Ordering.{int_eq}
use Rattle.flex_fields.specs.declared.fault.WireFault.{WireFault}
use Rattle.flex_fields.specs.declared.fault.WireFault.TheVariants.{BadLength}
use Rattle.flex_fields.specs.Reading.{At, ◌>>=◌, int_at, as_at}
use Rattle.flex_fields.specs.Grammar.{IsInt}
use Rattle.flex_fields.specs.Writing.{int_bytes}

-- the byte -1 alone is null, and 1 stands before the structure
abbrev pub IsOptional : {A : Type 0} → (List ℕ → A → Type 0) → List ℕ → Option A → Type 0
IsOptional P bytes None = IsInt w8 bytes (negsuc 0)
IsOptional P bytes (Some x) = (mark rest : List ℕ) × IsInt w8 mark (pos 1) × P rest x × (bytes ≡ mark ++ rest)

unfoldable pub optional_at : {A : Type 0} → (At → Result (A × At) WireFault) → At → Result (Option A × At) WireFault
optional_at read at = do
  mark ← int_at w8 at
  if int_eq mark.0 (negsuc 0) then Ok (None, mark.1) else if int_eq mark.0 (pos 1) then as_at Some read mark.1 else Err (BadLength at.place)

abbrev pub optional_bytes : {A : Type 0} → (A → List ℕ) → Option A → List ℕ
optional_bytes f None = int_bytes w8 (negsuc 0)
optional_bytes f (Some x) = int_bytes w8 (pos 1) ++ f x
