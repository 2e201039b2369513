-- What a clock tells of its answers and a listener of the links that it gave. This project's own. Worked example: a clock in memory that
-- begins at 5 and goes on by 10 answers 5, 15 and 25; a listener with one link gives it, then answers that no more come, and has
-- given 1.
use Rattle.std.specs.Prelude.{◌≡◌, ℕ, zero, suc, Bool, true, List, ◌++◌, Option, Some, None, Result, MatchResult, ⊤}
use Rattle.edge_io.specs.Causes.{raised}

-- What was told grew by these; what isn't told any more may be anything. So a count of answers may come to its last value.
abbrev pub TellsMore : Option (List ℕ) → Option (List ℕ) → List ℕ → Type 0
TellsMore before None more = ⊤
TellsMore None (Some now) more = ⊥
TellsMore (Some before) (Some now) more = now ≡ before ++ more

-- a link was given, or the end was told
abbrev pub GivesLink : {K : Type 0} → (before now : ℕ) → (was_done is_done : Bool) → Option K → Type 0
GivesLink before now was_done is_done None = (now ≡ before) × (is_done ≡ true)
GivesLink before now was_done is_done (Some link) = (now ≡ raised before) × (is_done ≡ was_done)

-- what a listener answered; where it failed, it gave nothing
abbrev pub Gives : {K E : Type 0} → (before now : ℕ) → (was_done is_done : Bool) → Result (Option K) E → Type 0
Gives before now was_done is_done result =
    MatchResult result (GivesLink before now was_done is_done) (λ _. (now ≡ before) × (is_done ≡ was_done))

-- so many links were given, as far as a u64 counts
abbrev pub Gave : (before n now : ℕ) → Type 0
Gave before zero now = now ≡ before
Gave before (suc n) now = (mid : ℕ) × Gave before n mid × (now ≡ raised mid)
