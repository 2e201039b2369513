-- How a session's outcomes are told: by a line for each, or, with a summary, by one line of their numbers behind the end (this project's
-- own). Lines wait to be handed on.
-- For example the lines of two replies that one piece of input led to wait together.
use Rattle.std.specs.Prelude.{◌≡◌, ℕ, List, [], ◌++◌, Bool, true, false}
use Rattle.std.specs.declared.option.Option.{Option}
use Rattle.std.specs.Io.KnownBytes.{Keeps}
use Rattle.edge_io.specs.Streams.{AppendsFront}
use Rattle.text_pieces.specs.Pieces.{HandsOn}
use Rattle.topic_conf.specs.declared.topic.Topic.{Topic}
use Rattle.session_script.specs.declared.event.Outcome.{Outcome}
use Rattle.session_script.specs.Output.{output_of}
use Rattle.session_script.specs.Summary.{numbers_line, summary_line, summary_of}
use Rattle.session_script.specs.declared.telling.Telling.{Telling}
use Rattle.session_script.specs.declared.telling.Telling.TheVariants.{Lines, Numbers}

-- what is told of these outcomes as they come; a fault is told by the name of its partition
abbrev pub told_so_far : List Topic → (summary : Bool) → List Outcome → List ℕ
told_so_far topics false outcomes = output_of topics outcomes
told_so_far topics true outcomes = []

-- and in all, where the script is done
abbrev pub told_in_all : List Topic → (summary : Bool) → List Outcome → List ℕ
told_in_all topics false outcomes = output_of topics outcomes
told_in_all topics true outcomes = summary_line outcomes

-- ---- what was told so far

-- what an output holds, where it tells it
abbrev pub Held : Type 0
Held = Option (List ℕ)

-- whether outcomes are told by their numbers
abbrev pub is_summary : Telling → Bool
is_summary (Lines text) = false
is_summary (Numbers numbers) = true

-- these outcomes were told from `start` on: a front of their lines was handed on and the rest waits, or they were counted
abbrev pub Tells : List Topic → Telling → (start now : Held) → List Outcome → Type 0
Tells topics (Lines text) start now outcomes = HandsOn start now (output_of topics outcomes) text
Tells topics (Numbers numbers) start now outcomes = Keeps start now × (numbers ≡ summary_of outcomes)

-- or they were so in part, and this is missing
abbrev pub TellsPart : List Topic → Telling → (start now : Held) → List Outcome → Type 0
TellsPart topics (Lines text) start now outcomes = (missing : List ℕ) × HandsOn start now (output_of topics outcomes) (text ++ missing)
TellsPart topics (Numbers numbers) start now outcomes = Keeps start now

-- the output took a front of what is told of them
abbrev pub TellsFront : List Topic → (summary : Bool) → (start now : Held) → List Outcome → Type 0
TellsFront topics summary start now outcomes = (unwritten : List ℕ) × AppendsFront start now (told_so_far topics summary outcomes) unwritten

-- behind what was told before, these outcomes are told as well: all of them, or in part, or the output failed
abbrev pub TellsMore : List Topic → (old new : Telling) → (before after : Held) → List Outcome → Type 0
TellsMore topics old new before after outcomes = (start : Held) (earlier : List Outcome) → Tells topics old start before earlier
    → Tells topics new start after (earlier ++ outcomes)

abbrev pub TellsSome : List Topic → (old new : Telling) → (before after : Held) → List Outcome → Type 0
TellsSome topics old new before after outcomes = (start : Held) (earlier : List Outcome) → Tells topics old start before earlier
    → TellsPart topics new start after (earlier ++ outcomes)

abbrev pub TellsSomeOf : List Topic → (old : Telling) → (before after : Held) → List Outcome → Type 0
TellsSomeOf topics old before after outcomes = (start : Held) (earlier : List Outcome) → Tells topics old start before earlier
    → TellsFront topics (is_summary old) start after (earlier ++ outcomes)

-- nothing more is told
abbrev pub TellsStill : List Topic → (old new : Telling) → (before after : Held) → Type 0
TellsStill topics old new before after = (start : Held) (earlier : List Outcome) → Tells topics old start before earlier
    → Tells topics new start after earlier

-- what is told behind the last outcome of a script that is done
abbrev pub last_line : Telling → List ℕ
last_line (Lines text) = []
last_line (Numbers numbers) = numbers_line numbers
