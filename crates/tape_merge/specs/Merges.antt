-- What a merge of the tapes of a run gives, and what it keeps. This project's own.
-- Worked example: links 0 and 1 with one step each on `orders` 0, at the moments 10 and 20 and with the bytes `aa` and `bb`, and the
-- tape that has the step of link 1 first: `open 0`, `bytes 0 aa`, `open 1`, `bytes 1 bb`, `step 1 20`, `step 0 10`.
use Rattle.std.specs.Prelude.{◌≡◌, ◌++◌, ◌==◌, ℕ, List, [], ◌∷◌, length, slice_index, Some, None, if◌then◌else◌, option_to_list}
use Rattle.std.specs.List.{range_with_len}
use Rattle.session_script.specs.declared.event.Event.{Event}
use Rattle.topic_conf.specs.declared.topic.Topic.{Topic}
use Rattle.share_record.specs.declared.tag.Tag.{Tag}
use Rattle.share_record.specs.declared.tag.Tag.TheVariants.{Part}
use Rattle.share_record.specs.declared.tape.LinkTape.{LinkTape}
use Rattle.share_record.specs.declared.tape.ShardTape.{ShardTape}
use Rattle.tape_merge.specs.declared.moves.Move.{Move}
use Rattle.tape_merge.specs.declared.moves.Move.TheVariants.{Steps, Alone}
use Rattle.tape_merge.specs.Matching.{steps_of, tags_of}
use Rattle.tape_merge.specs.Moves.{Counts, GoOn, IsDone, after, begin, next_tag}
use Rattle.tape_merge.specs.Telling.{openings, told}

-- Each link opens with its bytes, and then what goes next goes, again and again, until nothing is left.
pub record IsMerge (topics : List Topic) (tapes : List ShardTape) (links : List LinkTape) (events : List Event) : Type 0 where
  pub moves : List Move
  pub last : Counts
  pub go : GoOn tapes links (begin tapes links) moves last
  pub done : IsDone tapes links last
  pub tells : events ≡ openings 0 links ++ told topics tapes links (begin tapes links) moves

-- the numbers of the steps of this link, in the order in which these moves do them
abbrev pub steps_by : (link : ℕ) → Counts → Move → List ℕ
steps_by link counts (Steps other tape) = if link == other then slice_index counts.gone other ∷ [] else []
steps_by link counts (Alone tape) = []

abbrev pub steps_done : (link : ℕ) → Counts → List Move → List ℕ
steps_done link counts [] = []
steps_done link counts (move ∷ moves) = steps_by link counts move ++ steps_done link (after counts move) moves

-- the tags that these moves take from this tape, in order: a step takes its own
abbrev pub tags_by : List ShardTape → (tape : ℕ) → Counts → Move → List Tag
tags_by tapes tape counts (Steps link None) = []
tags_by tapes tape counts (Steps link (Some other)) = if tape == other then Part link (slice_index counts.gone link) ∷ [] else []
tags_by tapes tape counts (Alone other) = if tape == other then option_to_list (next_tag tapes counts other) else []

abbrev pub tags_taken : List ShardTape → (tape : ℕ) → Counts → List Move → List Tag
tags_taken tapes tape counts [] = []
tags_taken tapes tape counts (move ∷ moves) = tags_by tapes tape counts move ++ tags_taken tapes tape (after counts move) moves

-- Each step of each link is done once, in the link's order, and the tags that are taken from a tape are that tape, in its order.
pub record KeepsOrders (tapes : List ShardTape) (links : List LinkTape) (moves : List Move) : Type 0 where
  pub by_link : (link : ℕ) → steps_done link (begin tapes links) moves ≡ range_with_len 0 (length (steps_of links link))
  pub by_tape : (tape : ℕ) → tags_taken tapes tape (begin tapes links) moves ≡ tags_of tapes tape
