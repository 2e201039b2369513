-- Places in a list of pairs of lock end and first offset, and the walk over those that have ended (this project's own).
-- For example of the pairs of 30999 and 7 and of 31000 and 3, one comes before that of 31000 and 2.
use Rattle.std.specs.Prelude.{ℕ, suc, min, List, [], ◌∷◌, Option, Some, None, nat_lt, if◌then◌else◌}
use Rattle.lock_index.specs.Locks.{comes_before}

-- how many pairs at the front come before this one
abbrev pub before_count : List (ℕ × ℕ) → ℕ × ℕ → ℕ
before_count [] pair = 0
before_count (next ∷ pairs) pair = if comes_before next pair then suc (before_count pairs pair) else 0

-- the lesser of a first offset and the least so far
abbrev pub lesser : Option ℕ → ℕ → ℕ
lesser None first = first
lesser (Some other) first = min other first

-- the least first offset so far, and of the pairs up to the first that ends later
abbrev pub least_due : ℕ → Option ℕ → List (ℕ × ℕ) → Option ℕ
least_due now least [] = least
least_due now least (pair ∷ pairs) = if nat_lt now pair.0 then least else least_due now (Some (lesser least pair.1)) pairs
