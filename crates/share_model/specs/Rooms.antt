-- A room: bytes, and how many more it takes with no memory (this project's own).
-- For example one that has set 2 bytes aside holds 1, 2 and 3 once 1, 2 and then 3 were appended.
use Rattle.std.specs.Prelude.{◌≡◌, ◌≤◌, ◌+◌, ◌++◌, ℕ, List, length}

-- the bytes, and the number of bytes that may be appended with no memory
pub record Filled : Type 0 where
  pub bytes : List ℕ
  pub spare : ℕ

-- these bytes stand behind the old ones, and the spare number falls by at most as many
pub record Appends (old new : Filled) (more : List ℕ) : Type 0 where
  pub bytes : new.bytes ≡ old.bytes ++ more
  pub spare : old.spare ≤ new.spare + length more

-- the bytes stay, and the spare number is at least `n` and no smaller than it was
pub record Reserves (old new : Filled) (n : ℕ) : Type 0 where
  pub bytes : new.bytes ≡ old.bytes
  pub enough : n ≤ new.spare
  pub kept : old.spare ≤ new.spare
