-- What contracts see of a socket that accepts peers, as POSIX `accept` does. Worked example: one peer is accepted, and then no descriptor
-- is left for a while: 1 link was given, with no fault.
use Rattle.std.specs.Prelude.{ℕ}

-- how many links were given, and the faults; both stay at 2^64 - 1 once they are there
pub record Accepting : Type 0 where
  pub given : ℕ
  pub faults : ℕ
