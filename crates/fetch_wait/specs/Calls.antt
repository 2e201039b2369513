-- Calls of a watch in a row: what they do to it, and what it tells of them. This project's own. Worked example: a watch that has told
-- nothing yet and is looked at once, at place 0 with nothing, tells `Looks 0 Nothing`.
use Rattle.std.specs.Prelude.{◌≡◌, List, [], ◌∷◌, ◌++◌, Option, Some, None, ⊤}

-- What was told grew by these; what isn't told any more may be anything.
abbrev pub TellsMore : {A : Type 0} → Option (List A) → Option (List A) → List A → Type 0
TellsMore before None more = ⊤
TellsMore None (Some now) more = ⊥
TellsMore (Some before) (Some now) more = now ≡ before ++ more

-- these calls, one after the other, lead from one state of a watch to another
abbrev pub AreCalls : {W C : Type 0} → (W → C → W → Type 0) → List C → W → W → Type 0
AreCalls acts [] old new = new ≡ old
AreCalls {W} acts (call ∷ calls) old new = (mid : W) × acts old call mid × AreCalls acts calls mid new

-- the watch was called so: what that did to it, and what it tells of it
pub record Calls {W C : Type 0} (acts : W → C → W → Type 0) (told : W → Option (List C)) (calls : List C) (old new : W) : Type 0 where
  pub acts_so : AreCalls acts calls old new
  pub told_so : TellsMore (told old) (told new) calls
