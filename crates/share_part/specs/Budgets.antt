-- The numbers of what a fetch may still take and of what it has taken. Private clauses cite this alone.
-- For example with 3 records and 80 bytes left, after 2 records in a batch of 85 bytes that was the first, nothing passes 2^32.
use Rattle.std.specs.Prelude.{◌≡◌, ◌<◌, ◌+◌, ◌^◌, ℕ, Bool, true}

pub record IsInRange (records bytes : ℕ) (first : Bool) (count size : ℕ) : Type 0 where
  pub few_records : records + count < 2 ^ 32
  pub few_bytes : bytes + size < 2 ^ 32
  pub none : first ≡ true → size ≡ 0
