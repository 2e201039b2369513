-- The events of the session that tapes give. This project's own.
-- Worked example: link 3 with the bytes `aa`, two steps at the moments 10 and 20, and closed behind one of them gives at first
-- `open 3` and `bytes 3 aa`, then with its first step `step 3 10`, and with its second one `close 3` and `step 3 20`.
use Rattle.std.specs.Prelude.{ℕ, zero, suc, ◌+◌, ◌/◌, min, ◌==◌, List, [], ◌∷◌, ◌++◌, length, map, take, drop, slice_get, slice_index}
use Rattle.std.specs.Prelude.{Bool, false, if◌then◌else◌, Option, Some, None}
use Rattle.session_script.specs.declared.event.Event.{Event}
use Rattle.session_script.specs.declared.event.Event.TheVariants.{Open, Bytes, Close, Step, Expire as expires, Tick as ticks}
use Rattle.share_model.specs.declared.visit.ShardId.{ShardId}
use Rattle.share_model.specs.declared.visit.ShardId.TheVariants.{Part as OfPart, Members, Foreign}
use Rattle.topic_conf.specs.declared.topic.Topic.{Topic}
use Rattle.topic_conf.specs.Topics.{partition_at_shard}
use Rattle.share_record.specs.declared.tag.Tag.{Tag}
use Rattle.share_record.specs.declared.tag.Tag.TheVariants.{Part, Expire, Tick, Offer}
use Rattle.share_record.specs.declared.tape.LinkStep.{LinkStep}
use Rattle.share_record.specs.declared.tape.LinkTape.{LinkTape}
use Rattle.share_record.specs.declared.tape.ShardTape.{ShardTape}
use Rattle.tape_merge.specs.declared.moves.Move.{Move}
use Rattle.tape_merge.specs.declared.moves.Move.TheVariants.{Steps, Alone}
use Rattle.tape_merge.specs.Moves.{Counts, after}

-- ---- how a link begins

-- so many pieces of 65536 bytes, of which the last has what is left
abbrev pub pieces : ℕ → List ℕ → List (List ℕ)
pieces zero bytes = []
pieces (suc more) bytes = take 65536 bytes ∷ pieces more (drop 65536 bytes)

abbrev pub pieces_of : List ℕ → List (List ℕ)
pieces_of bytes = pieces ((length bytes + 65535) / 65536) bytes

-- it is closed behind this number of its steps, and behind its last one where it was to be closed later
abbrev pub ends_behind : Option ℕ → (steps done : ℕ) → Bool
ends_behind None steps done = false
ends_behind (Some closed_at) steps done = min closed_at steps == done

-- its Close, where that stands behind this number of its steps
abbrev pub close_at : ℕ → LinkTape → (done : ℕ) → List Event
close_at id link done = if ends_behind link.closed_at (length link.steps) done then Close id ∷ [] else []

-- its Close, where no step stands behind it
abbrev pub last_close : ℕ → LinkTape → (done : ℕ) → List Event
last_close id link done = if done == length link.steps then close_at id link done else []

abbrev pub opening : ℕ → LinkTape → List Event
opening id link = Open id ∷ (map (λ piece. Bytes id piece) (pieces_of link.bytes) ++ last_close id link 0)

-- those of these links, whose numbers begin with this one
abbrev pub openings : ℕ → List LinkTape → List Event
openings id [] = []
openings id (link ∷ links) = opening id link ++ openings (suc id) links

-- ---- what a move tells

abbrev pub step_at : ℕ → LinkTape → (done : ℕ) → Option LinkStep → List Event
step_at id link done None = []
step_at id link done (Some step) = close_at id link done ++ (Step id step.now ∷ last_close id link (suc done))

abbrev pub told_by_link : ℕ → Option LinkTape → (done : ℕ) → List Event
told_by_link id None done = []
told_by_link id (Some link) done = step_at id link done (slice_get link.steps done)

abbrev pub expiry : Option (Topic × ℕ) → (now : ℕ) → List Event
expiry None now = []
expiry (Some (topic, part)) now = expires topic.name part now ∷ []

-- an expiry is one of a partition, and an offer is no event
abbrev pub told_by_tag : List Topic → Option Tag → ShardId → List Event
told_by_tag topics None shard = []
told_by_tag topics (Some (Part link step)) shard = []
told_by_tag topics (Some (Expire now)) (OfPart shard) = expiry (partition_at_shard topics shard) now
told_by_tag topics (Some (Expire now)) Members = []
told_by_tag topics (Some (Expire now)) Foreign = []
told_by_tag topics (Some (Tick now)) shard = ticks now ∷ []
told_by_tag topics (Some Offer) shard = []

abbrev pub told_by_tape : List Topic → Option ShardTape → (done : ℕ) → List Event
told_by_tape topics None done = []
told_by_tape topics (Some tape) done = told_by_tag topics (slice_get tape.tags done) tape.shard

abbrev pub told_by : List Topic → List ShardTape → List LinkTape → Counts → Move → List Event
told_by topics tapes links counts (Steps link tape) = told_by_link link (slice_get links link) (slice_index counts.gone link)
told_by topics tapes links counts (Alone tape) = told_by_tape topics (slice_get tapes tape) (slice_index counts.passed tape)

-- what these moves tell, from these counts on
abbrev pub told : List Topic → List ShardTape → List LinkTape → Counts → List Move → List Event
told topics tapes links counts [] = []
told topics tapes links counts (move ∷ moves) = told_by topics tapes links counts move ++ told topics tapes links (after counts move) moves
