-- The tapes of a server's run: which step a tag names, and which step stands behind which. This project's own.
-- Worked example: links 0 and 1 have two steps each, link 0 on shard 0 and then on shard 1, link 1 the other way round. Where the tape
-- of shard 0 is the second step of link 1 and then the first of link 0, and that of shard 1 the second of link 0 and then the first of
-- link 1, each tag and each step name each other; and each first step stands behind the other link's second one, so that all four are
-- on a cycle, whose least step is the first of link 0.
use Rattle.std.specs.Prelude.{◌≡◌, ◌≢◌, ◌<◌, ◌⊎◌, ℕ, List, [], ◌∷◌, length, slice_get, Option, Some, None, option_map, AllPairs, Contains}
use Rattle.std.specs.List.{AllByRecursion}
use Rattle.share_model.specs.declared.visit.ShardId.{ShardId}
use Rattle.share_record.specs.declared.tag.Tag.{Tag}
use Rattle.share_record.specs.declared.tag.Tag.TheVariants.{Part}
use Rattle.share_record.specs.declared.tape.LinkStep.{LinkStep}
use Rattle.share_record.specs.declared.tape.LinkTape.{LinkTape}
use Rattle.share_record.specs.declared.tape.ShardTape.{ShardTape}
use Rattle.tape_merge.specs.declared.place.Place.{Place}

-- ---- by numbers, from 0

abbrev pub steps_in : Option LinkTape → List LinkStep
steps_in None = []
steps_in (Some link) = link.steps

-- the steps of a link
abbrev pub steps_of : List LinkTape → ℕ → List LinkStep
steps_of links link = steps_in (slice_get links link)

abbrev pub tags_in : Option ShardTape → List Tag
tags_in None = []
tags_in (Some tape) = tape.tags

-- the tags of a tape
abbrev pub tags_of : List ShardTape → ℕ → List Tag
tags_of tapes tape = tags_in (slice_get tapes tape)

-- the shard that a tape is of
abbrev pub shard_of : List ShardTape → ℕ → Option ShardId
shard_of tapes tape = option_map (λ (t : ShardTape). t.shard) (slice_get tapes tape)

abbrev pub shard_in : Option LinkStep → Option ShardId
shard_in None = None
shard_in (Some step) = step.shard

-- the shard that a step of a link asks, if there is such a step and it asks one
abbrev pub shard_asked : List LinkTape → (link step : ℕ) → Option ShardId
shard_asked links link step = shard_in (slice_get (steps_of links link) step)

-- no two tapes are of one shard
abbrev pub AreApart : List ShardTape → Type 0
AreApart tapes = AllPairs (λ (a b : ShardTape). a.shard ≢ b.shard) tapes

-- ---- tags and steps

-- the tag that stands there names this step of this link
abbrev pub Names : List ShardTape → (tape at link step : ℕ) → Type 0
Names tapes tape at link step = slice_get (tags_of tapes tape) at ≡ Some (Part link step)

-- A step and a tag name each other one to one, or there is neither.
pub record IsMatched (tapes : List ShardTape) (links : List LinkTape) (link step : ℕ) : Type 0 where
  -- a tag that names the step is on the tape of the shard that it asks
  pub asked : (tape at : ℕ) → Names tapes tape at link step
      → (shard : ShardId) × (shard_of tapes tape ≡ Some shard) × (shard_asked links link step ≡ Some shard)
  -- two tags that name it are one
  pub once : (tape at other there : ℕ) → Names tapes tape at link step → Names tapes other there link step
      → (tape ≡ other) × (at ≡ there)
  -- where the step asks a shard, a tag names it
  pub named : (shard : ShardId) → shard_asked links link step ≡ Some shard → (tape : ℕ) × (at : ℕ) × Names tapes tape at link step

abbrev pub AreMatched : List ShardTape → List LinkTape → Type 0
AreMatched tapes links = (link step : ℕ) → IsMatched tapes links link step

-- by link, and then by step
abbrev pub IsBefore : Place → Place → Type 0
IsBefore a b = (a.link < b.link) ⊎ ((a.link ≡ b.link) × (a.step < b.step))

-- it is the least step that isn't matched
pub record IsFirstUnmatched (tapes : List ShardTape) (links : List LinkTape) (place : Place) : Type 0 where
  pub fails : ¬ IsMatched tapes links place.link place.step
  pub first : (other : Place) → IsBefore other place → IsMatched tapes links other.link other.step

-- ---- order

-- both are steps of one link, and `later` is the later one
pub record IsLaterOnLink (links : List LinkTape) (later first : Place) : Type 0 where
  pub link : later.link ≡ first.link
  pub behind : first.step < later.step
  pub within : later.step < length (steps_of links later.link)

-- a tape has a tag of the one, and behind it a tag of the other
pub record IsLaterOnTape (tapes : List ShardTape) (later first : Place) : Type 0 where
  pub tape : ℕ
  pub at : ℕ
  pub there : ℕ
  pub behind : at < there
  pub first_is : Names tapes tape at first.link first.step
  pub later_is : Names tapes tape there later.link later.step

abbrev pub IsBehind : List ShardTape → List LinkTape → Place → Place → Type 0
IsBehind tapes links later first = IsLaterOnLink links later first ⊎ IsLaterOnTape tapes later first

-- from the first place over these to the last one, each stands behind the next
abbrev pub Descend : List ShardTape → List LinkTape → Place → List Place → Place → Type 0
Descend tapes links later [] first = IsBehind tapes links later first
Descend tapes links later (place ∷ places) first = IsBehind tapes links later place × Descend tapes links place places first

-- these steps stand behind each other in a round, and this is the least of them
pub record IsLeastOfCycle (tapes : List ShardTape) (links : List LinkTape) (least : Place) : Type 0 where
  pub start : Place
  pub others : List Place
  pub round : Descend tapes links start others start
  pub on : Contains (start ∷ others) least
  pub first : AllByRecursion (λ place. ¬ IsBefore place least) (start ∷ others)
