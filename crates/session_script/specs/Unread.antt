-- What a reader of scripts holds (this project's own).
-- For example once the line `open 1` is taken what is pending has the place 7.
use Rattle.std.specs.Prelude.{◌≢◌, ◌≤◌, ◌-◌, ◌^◌, List, ℕ, length, take, drop}
use Rattle.std.specs.List.{AllByRecursion}

-- what the source gave and no event has taken, and the place of its first byte in the script
pub record Unread : Type 0 where
  pub place : ℕ
  pub pending : List ℕ

-- what is pending begins at `start` of the buffer, and has no line feed before `scanned`
pub record IsBuffered (buffer : List ℕ) (start scanned place : ℕ) : Type 0 where
  pub begun : start ≤ scanned
  pub within : scanned ≤ length buffer
  pub looked : AllByRecursion (λ b. b ≢ 10) (take (scanned - start) (drop start buffer))
  pub script : place ≤ 2 ^ 62
