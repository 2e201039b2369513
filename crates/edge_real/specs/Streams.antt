-- What contracts see of a reader that is used as a source, as POSIX `read` is. Worked example: a reader of `a` gives 1 byte,
-- then 0, and has ended; a read that is refused is one fault more.
use Rattle.std.specs.Prelude.{ℕ, Bool}

pub record Reading : Type 0 where
  pub ended : Bool
  pub faults : ℕ
