-- A listener in memory. This project's own. Worked example: one with two links whose call 1 is listed gives the first link, fails, gives
-- the second link, and tells that no more come.
use Rattle.std.specs.Prelude.{ℕ, Bool, List, [], ◌∷◌, Option, Some, None}

-- the links that are left, the numbers of the calls that fail, the number of the next call, how many links were given, whether it was
-- told that no more come, and the faults
pub record Queued (K : Type 0) : Type 0 where
  pub links : List K
  pub failing : List ℕ
  pub calls : ℕ
  pub given : ℕ
  pub done : Bool
  pub faults : ℕ

-- the first of the links, if there is one
abbrev pub first_of : {K : Type 0} → List K → Option K
first_of [] = None
first_of (link ∷ links) = Some link
