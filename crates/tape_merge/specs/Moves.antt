-- What goes next, when the tapes of a run are merged. This project's own.
-- Worked example: of links 0 and 1 with one step each on one shard, whose tape has the step of link 1 first, link 1 steps and then
-- link 0, since the step of link 0 has to wait for its tag.
use Rattle.std.specs.Prelude.{◌≡◌, ◌<◌, ◌≤◌, ◌+◌, ◌^◌, ℕ, List, [], ◌∷◌, length, replicate, slice_get, slice_index, slice_set, Option, Some, None, ⊤}
use Rattle.share_model.specs.declared.visit.ShardId.{ShardId}
use Rattle.share_record.specs.declared.tag.Tag.{Tag}
use Rattle.share_record.specs.declared.tag.Tag.TheVariants.{Part, Expire, Tick, Offer}
use Rattle.share_record.specs.declared.tape.LinkStep.{LinkStep}
use Rattle.share_record.specs.declared.tape.LinkTape.{LinkTape}
use Rattle.share_record.specs.declared.tape.ShardTape.{ShardTape}
use Rattle.tape_merge.specs.declared.moves.Move.{Move}
use Rattle.tape_merge.specs.declared.moves.Move.TheVariants.{Steps, Alone}
use Rattle.tape_merge.specs.Matching.{Names, shard_of, steps_of, tags_of}

-- how many steps of each link have gone, and how many tags of each tape
pub record Counts : Type 0 where
  pub gone : List ℕ
  pub passed : List ℕ

abbrev pub begin : List ShardTape → List LinkTape → Counts
begin tapes links = record { gone = replicate (length links) 0; passed = replicate (length tapes) 0 }

-- the step that is next on a link, and the tag that is next on a tape
abbrev pub next_step : List LinkTape → Counts → ℕ → Option LinkStep
next_step links counts link = slice_get (steps_of links link) (slice_index counts.gone link)

abbrev pub next_tag : List ShardTape → Counts → ℕ → Option Tag
next_tag tapes counts tape = slice_get (tags_of tapes tape) (slice_index counts.passed tape)

-- it is of no step: of an expiry, of a tick, or of an offer, which changes nothing
abbrev pub IsAlone : Tag → Type 0
IsAlone (Part link step) = ⊥
IsAlone (Expire now) = ⊤
IsAlone (Tick now) = ⊤
IsAlone Offer = ⊤

-- The tape from which the next step of a link takes its tag: none where it asks no shard, and else that of the shard, on which its tag
-- is next.
abbrev pub IsDueOn : List ShardTape → Counts → (link : ℕ) → Option ShardId → Option ℕ → Type 0
IsDueOn tapes counts link None None = ⊤
IsDueOn tapes counts link None (Some tape) = ⊥
IsDueOn tapes counts link (Some shard) None = ⊥
IsDueOn tapes counts link (Some shard) (Some tape) =
    (shard_of tapes tape ≡ Some shard) × (next_tag tapes counts tape ≡ Some (Part link (slice_index counts.gone link)))

-- the next step of a link may go, with a tag of this tape
abbrev pub StepGoes : List ShardTape → List LinkTape → Counts → (link : ℕ) → (tape : Option ℕ) → Type 0
StepGoes tapes links counts link tape =
    (step : LinkStep) × (next_step links counts link ≡ Some step) × IsDueOn tapes counts link step.shard tape

-- the next tag of a tape is of no step
abbrev pub GoesAlone : List ShardTape → Counts → (tape : ℕ) → Type 0
GoesAlone tapes counts tape = (tag : Tag) × (next_tag tapes counts tape ≡ Some tag) × IsAlone tag

abbrev pub CanGo : List ShardTape → List LinkTape → Counts → Move → Type 0
CanGo tapes links counts (Steps link tape) = StepGoes tapes links counts link tape
CanGo tapes links counts (Alone tape) = GoesAlone tapes counts tape

-- a step goes before what goes without one, and then the least link, or the first tape
abbrev pub GoesBefore : Move → Move → Type 0
GoesBefore (Steps link tape) (Steps other there) = link < other
GoesBefore (Steps link tape) (Alone other) = ⊤
GoesBefore (Alone tape) (Steps other there) = ⊥
GoesBefore (Alone tape) (Alone other) = tape < other

pub record IsNext (tapes : List ShardTape) (links : List LinkTape) (counts : Counts) (move : Move) : Type 0 where
  pub can : CanGo tapes links counts move
  pub first : (other : Move) → CanGo tapes links counts other → ¬ GoesBefore other move

abbrev pub one_more : List ℕ → ℕ → List ℕ
one_more counts at = slice_set counts at (slice_index counts at + 1)

abbrev pub passed_on : Option ℕ → List ℕ → List ℕ
passed_on None passed = passed
passed_on (Some tape) passed = one_more passed tape

abbrev pub after : Counts → Move → Counts
after counts (Steps link tape) = record { gone = one_more counts.gone link; passed = passed_on tape counts.passed }
after counts (Alone tape) = record { gone = counts.gone; passed = one_more counts.passed tape }

-- from the first counts each of these moves is the next one, and they lead to the last counts
abbrev pub GoOn : List ShardTape → List LinkTape → Counts → List Move → Counts → Type 0
GoOn tapes links counts [] last = last ≡ counts
GoOn tapes links counts (move ∷ moves) last = IsNext tapes links counts move × GoOn tapes links (after counts move) moves last

-- no step is left, and no tag
pub record IsDone (tapes : List ShardTape) (links : List LinkTape) (counts : Counts) : Type 0 where
  pub steps : (link : ℕ) → next_step links counts link ≡ None
  pub tags : (tape : ℕ) → next_tag tapes counts tape ≡ None

-- there is a count for each link, and for each tape
pub record IsSized (tapes : List ShardTape) (links : List LinkTape) (counts : Counts) : Type 0 where
  pub gone : length counts.gone ≡ length links
  pub passed : length counts.passed ≡ length tapes

-- the tags that have passed are of steps that have gone, and those that are left of steps that are left
abbrev pub PassedHaveGone : List ShardTape → Counts → Type 0
PassedHaveGone tapes counts = (tape at link step : ℕ) → at < slice_index counts.passed tape → Names tapes tape at link step
    → step < slice_index counts.gone link

abbrev pub LeftAreLeft : List ShardTape → Counts → Type 0
LeftAreLeft tapes counts = (tape at link step : ℕ) → slice_index counts.passed tape ≤ at → Names tapes tape at link step
    → slice_index counts.gone link ≤ step

-- the counts of a move have room for one more
abbrev pub HasRoomOn : Counts → Option ℕ → Type 0
HasRoomOn counts None = ⊤
HasRoomOn counts (Some tape) = slice_index counts.passed tape + 1 < 2 ^ 64

abbrev pub HasRoom : Counts → Move → Type 0
HasRoom counts (Steps link tape) = (slice_index counts.gone link + 1 < 2 ^ 64) × HasRoomOn counts tape
HasRoom counts (Alone tape) = slice_index counts.passed tape + 1 < 2 ^ 64

-- and they are there
abbrev pub CanCount : List ℕ → ℕ → Type 0
CanCount counts at = (at < length counts) × (slice_index counts at + 1 < 2 ^ 64)

abbrev pub IsCounted : Counts → Move → Type 0
IsCounted counts (Steps link None) = CanCount counts.gone link
IsCounted counts (Steps link (Some tape)) = CanCount counts.gone link × CanCount counts.passed tape
IsCounted counts (Alone tape) = CanCount counts.passed tape
