-- What the first frames of a journal say of its generation and its seal, whatever frames follow. This project's own.
-- For example behind a head of 1 and a snapshot a seal settles that the journal is sealed, and an update that it never is.
use Rattle.std.specs.Prelude.{◌≡◌, ◌++◌, ℕ, Bool, true, false, List}
use Rattle.checkpoint_journal.specs.Generations.{generation, has_seal, is_sealed, marks_of}
use Rattle.checkpoint_journal.specs.declared.mark.Mark.{Mark}
use Rattle.checkpoint_journal.specs.declared.mark.Mark.TheVariants.{Head, Snapshot, Seal, Other}
use Rattle.checkpoint_journal.specs.declared.stands.Known.{Known}
use Rattle.checkpoint_journal.specs.declared.stands.Known.TheVariants.{Nothing, Begun, Settled}
use Rattle.checkpoint_journal.specs.declared.stands.Standing.{Standing}

-- a journal of these frames stands so
pub record StandsSo (frames : List (List ℕ)) (standing : Standing) : Type 0 where
  pub sealed : standing.sealed ≡ is_sealed (marks_of frames)
  pub is : standing.generation ≡ generation (marks_of frames)

-- whether a journal is sealed that has these marks behind what is known
abbrev pub sealed_with : Known → List Mark → Bool
sealed_with Nothing marks = is_sealed marks
sealed_with (Begun n) marks = has_seal marks
sealed_with (Settled standing) marks = standing.sealed

-- and its generation
abbrev pub generation_with : Known → List Mark → ℕ
generation_with Nothing marks = generation marks
generation_with (Begun n) marks = n
generation_with (Settled standing) marks = standing.generation

-- These frames say this, whatever follows them.
pub record IsKnown (frames : List (List ℕ)) (known : Known) : Type 0 where
  pub sealed : (more : List Mark) → is_sealed (marks_of frames ++ more) ≡ sealed_with known more
  pub is : (more : List Mark) → generation (marks_of frames ++ more) ≡ generation_with known more

-- ---- private clauses cite what follows

abbrev settled : Bool → ℕ → Known
settled sealed n = Settled (record { sealed = sealed; generation = n })

-- what is known with this mark more
abbrev pub known_behind : Known → Mark → Known
known_behind Nothing (Head n) = Begun n
known_behind Nothing Snapshot = settled true 0
known_behind Nothing Seal = settled true 0
known_behind Nothing Other = settled true 0
known_behind (Begun n) (Head m) = settled false n
known_behind (Begun n) Snapshot = Begun n
known_behind (Begun n) Seal = settled true n
known_behind (Begun n) Other = settled false n
known_behind (Settled standing) mark = Settled standing
