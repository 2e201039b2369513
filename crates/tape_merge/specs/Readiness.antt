-- Which links' next steps may go. This project's own.
-- Worked example: of two links that step on one shard first, that one is ready whose step is next on its tape.
use Rattle.std.specs.Prelude.{◌≡◌, ◌⊎◌, ℕ, List, Option, Some, None, IsTrue, ⊤}
use Rattle.std.specs.List.{list_any}
use Rattle.std.specs.Ordering.{nat_cmp}
use Rattle.std.specs.BTreeMap.{is_at}
use Rattle.share_record.specs.declared.tag.Tag.TheVariants.{Part}
use Rattle.share_record.specs.declared.tape.LinkTape.{LinkTape}
use Rattle.share_record.specs.declared.tape.ShardTape.{ShardTape}
use Rattle.tape_merge.specs.declared.moves.Move.{Move}
use Rattle.tape_merge.specs.declared.moves.Move.TheVariants.{Steps, Alone}
use Rattle.tape_merge.specs.Moves.{Counts, StepGoes, next_tag}

-- a set of links, as its keys, has this one
abbrev pub Has : List ℕ → ℕ → Type 0
Has ready link = IsTrue (list_any (is_at (nat_cmp link)) ready)

-- the next step of the link may go
abbrev pub MayGo : List ShardTape → List LinkTape → Counts → ℕ → Type 0
MayGo tapes links counts link = (tape : Option ℕ) × StepGoes tapes links counts link tape

-- the set has the links whose next steps may go, of those of which this holds
pub record IsReadyIf (P : ℕ → Type 0) (tapes : List ShardTape) (links : List LinkTape) (counts : Counts) (ready : List ℕ) : Type 0 where
  pub has : (link : ℕ) → P link → MayGo tapes links counts link → Has ready link
  pub only : (link : ℕ) → Has ready link → P link × MayGo tapes links counts link

abbrev pub Any : ℕ → Type 0
Any link = ⊤

-- the move isn't a step of this link
abbrev pub IsOther : Move → ℕ → Type 0
IsOther (Steps link tape) other = other ≡ link → ⊥
IsOther (Alone tape) other = ⊤

-- the next tag of the tape is one of a step of this link
abbrev pub IsNamed : List ShardTape → Counts → (tape link : ℕ) → Type 0
IsNamed tapes counts tape link = (step : ℕ) × (next_tag tapes counts tape ≡ Some (Part link step))

-- the set has what it had, and those of these links whose next steps may go
pub record Gains (P : ℕ → Type 0) (tapes : List ShardTape) (links : List LinkTape) (counts : Counts) (old new : List ℕ) : Type 0 where
  pub kept : (link : ℕ) → Has old link → Has new link
  pub gained : (link : ℕ) → P link → MayGo tapes links counts link → Has new link
  pub only : (link : ℕ) → Has new link → Has old link ⊎ (P link × MayGo tapes links counts link)

-- the links at which a move may have made a step ready
abbrev pub Touched : List ShardTape → Counts → Move → ℕ → Type 0
Touched tapes counts (Steps link None) other = other ≡ link
Touched tapes counts (Steps link (Some tape)) other = (other ≡ link) ⊎ IsNamed tapes counts tape other
Touched tapes counts (Alone tape) other = IsNamed tapes counts tape other
