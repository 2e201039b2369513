-- Which steps the tags have named that were seen so far, tape by tape. This project's own.
-- Worked example: where a step was named twice, the least step at which something is wrong is that one or a lesser one.
use Rattle.std.specs.Prelude.{◌≡◌, ◌<◌, ◌⊎◌, ℕ, List, Option, Some, None, IsSome, IsTrue, slice_get, ⊤}
use Rattle.std.specs.List.{list_any}
use Rattle.std.specs.Ordering.{nat_cmp, ordering_then}
use Rattle.std.specs.declared.cmp.Ordering.{Ordering}
use Rattle.std.specs.BTreeMap.{is_at}
use Rattle.share_model.specs.declared.visit.ShardId.{ShardId}
use Rattle.share_record.specs.declared.tape.LinkStep.{LinkStep}
use Rattle.share_record.specs.declared.tape.LinkTape.{LinkTape}
use Rattle.share_record.specs.declared.tape.ShardTape.{ShardTape}
use Rattle.tape_merge.specs.declared.place.Place.{Place}
use Rattle.tape_merge.specs.Matching.{AreMatched, IsBefore, IsFirstUnmatched, IsMatched, Names, shard_asked, shard_in, shard_of}

abbrev pub place_cmp : ℕ × ℕ → ℕ × ℕ → Ordering
place_cmp a b = ordering_then (nat_cmp a.0 b.0) (nat_cmp a.1 b.1)

-- a set of steps has this one
abbrev pub HasStep : List (ℕ × ℕ) → (link step : ℕ) → Type 0
HasStep named link step = IsTrue (list_any (is_at (place_cmp (link, step))) named)

-- the tag at `at` of the tape was seen, where the tapes before `upto` were, and of that one so many tags
abbrev pub IsSeen : (upto count tape at : ℕ) → Type 0
IsSeen upto count tape at = (tape < upto) ⊎ ((tape ≡ upto) × (at < count))

-- the step is before the least one at which something is wrong
abbrev pub IsFine : Option Place → Place → Type 0
IsFine None place = ⊤
IsFine (Some least) place = IsBefore place least

-- something is wrong at the least one
abbrev pub IsWrong : List ShardTape → List LinkTape → Option Place → Type 0
IsWrong tapes links None = ⊤
IsWrong tapes links (Some least) = IsMatched tapes links least.link least.step → ⊥

-- of the steps before the least one at which something is wrong, the set has those that a seen tag names: each one tag, on the tape
-- of the shard that the step asks
pub record HasSeen (tapes : List ShardTape) (links : List LinkTape) (upto count : ℕ) (named : List (ℕ × ℕ)) (least : Option Place) : Type 0 where
  pub wrong : IsWrong tapes links least
  pub asked : (link step : ℕ) → IsFine least (record { link = link; step = step }) → (tape at : ℕ) → IsSeen upto count tape at
      → Names tapes tape at link step → (shard : ShardId) × (shard_of tapes tape ≡ Some shard) × (shard_asked links link step ≡ Some shard)
  pub once : (link step : ℕ) → IsFine least (record { link = link; step = step }) → (tape at other there : ℕ)
      → IsSeen upto count tape at → IsSeen upto count other there → Names tapes tape at link step → Names tapes other there link step
      → (tape ≡ other) × (at ≡ there)
  pub has : (link step tape at : ℕ) → IsSeen upto count tape at → Names tapes tape at link step → HasStep named link step
  pub only : (link step : ℕ) → HasStep named link step → (tape : ℕ) × (at : ℕ) × IsSeen upto count tape at × Names tapes tape at link step

-- the least step that isn't matched, where there is one
abbrev pub Found : List ShardTape → List LinkTape → Option Place → Type 0
Found tapes links None = AreMatched tapes links
Found tapes links (Some place) = IsFirstUnmatched tapes links place

-- of the steps before this one each that asks a shard is named
abbrev pub AreNamed : List LinkStep → List (ℕ × ℕ) → (link upto : ℕ) → Type 0
AreNamed steps named link upto = (step : ℕ) → step < upto → IsSome (shard_in (slice_get steps step)) → HasStep named link step

-- the same of all steps of the links before this one
abbrev pub AreAllNamed : List LinkTape → List (ℕ × ℕ) → (upto : ℕ) → Type 0
AreAllNamed links named upto = (link step : ℕ) → link < upto → IsSome (shard_asked links link step) → HasStep named link step
