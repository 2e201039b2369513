-- The locks of runs by their ends: pairs of the moment at which a lock ends and the first offset that it holds (this project's own, over the
-- acquisition locks of KIP-932). Times are in milliseconds.
-- For example of locks from 7 on that end at 30999 and from 3 on that end at 31000, that of 7 comes first. At 30999 the least first offset
-- of those that have ended is 7, and at 31000 it is 3.
use Rattle.std.specs.Prelude.{◌≡◌, ◌≤◌, ◌<◌, ℕ, Bool, true, List, [], ◌∷◌, Option, Some, None, nat_lt, nat_eq, ◌&&◌, ◌||◌, ◌⊎◌, if◌then◌else◌}

-- a pair comes before another one: its lock ends earlier, or at the same moment and it begins at a lower offset
unfoldable pub comes_before : ℕ × ℕ → ℕ × ℕ → Bool
comes_before pair other = nat_lt pair.0 other.0 || (nat_eq pair.0 other.0 && nat_lt pair.1 other.1)

-- each pair comes before the next one, and this pair before all of them
abbrev pub AreBehind : ℕ × ℕ → List (ℕ × ℕ) → Type 0
AreBehind pair [] = Unit {0}
AreBehind pair (next ∷ pairs) = (comes_before pair next ≡ true) × AreBehind next pairs

abbrev pub IsOrdered : List (ℕ × ℕ) → Type 0
IsOrdered [] = Unit {0}
IsOrdered (pair ∷ pairs) = AreBehind pair pairs

-- the pairs with one more, in its place
abbrev pub put_pair : ℕ × ℕ → List (ℕ × ℕ) → List (ℕ × ℕ)
put_pair pair [] = pair ∷ []
put_pair pair (next ∷ pairs) = if comes_before next pair then next ∷ put_pair pair pairs else pair ∷ next ∷ pairs

-- a pair is one of these
abbrev pub HasPair : List (ℕ × ℕ) → ℕ × ℕ → Type 0
HasPair [] pair = ⊥
HasPair (next ∷ pairs) pair = (next ≡ pair) ⊎ HasPair pairs pair

-- the least first offset of a lock that ends at `now` or before, where there is one
abbrev pub IsLeastFirst : List (ℕ × ℕ) → ℕ → Option ℕ → Type 0
IsLeastFirst pairs now None = (pair : ℕ × ℕ) → HasPair pairs pair → now < pair.0
IsLeastFirst pairs now (Some least) =
    ((end : ℕ) × HasPair pairs (end, least) × (end ≤ now)) × ((pair : ℕ × ℕ) → HasPair pairs pair → pair.0 ≤ now → least ≤ pair.1)

-- what a contract sees of an index of locks: the pairs, and how many there can be with no memory
pub record PairsInRoom : Type 0 where
  pub pairs : List (ℕ × ℕ)
  pub room : ℕ
