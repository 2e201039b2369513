-- A recorded session as text: one line for each event, and the last line `end`. Words are parted by one blank, numbers
-- are decimal without leading zeros, and bytes are lower-case hexadecimal digits. The format is this project's own;
-- docs/SCRIPT.md shows it.
-- For example `bytes 7 00ff1a` brings three bytes to connection 7, and of the lines `open 1`, `opne 2`, `end` the second, at
-- byte 7, is malformed.
use Rattle.std.specs.Prelude.{◌≡◌, ◌≢◌, ◌<◌, ◌≤◌, ◌+◌, ◌^◌, ◌⊎◌, ℕ, List, [], ◌∷◌, ◌++◌, length, codes}
use Rattle.std.specs.List.{flat_map, AllByRecursion}
use Rattle.std.specs.Fmt.{decimal}
use Rattle.hex.specs.Hex.{encode_lower, IsBytes}
use Rattle.edge_io.specs.Names.{IsTopicName, IsTextName, most_partitions}
use Rattle.edge_io.specs.declared.fault.FaultMode.{FaultMode}
use Rattle.edge_io.specs.declared.fault.FaultMode.TheVariants.{Once, Torn, Dead}
use Rattle.session_script.specs.declared.event.Event.{Event}
use Rattle.session_script.specs.declared.event.Event.TheVariants.{Open, Bytes, Close, Step, Expire, Tick, Arm, Power}

-- how an armed fault breaks a call
abbrev pub mode_word : FaultMode → List ℕ
mode_word Once = codes "once"
mode_word Torn = codes "torn"
mode_word Dead = codes "dead"

-- the words of an event's line; 32 is a blank
abbrev pub words_of : Event → List ℕ
words_of (Open conn) = codes "open" ++ 32 ∷ decimal conn
words_of (Bytes conn bytes) = codes "bytes" ++ 32 ∷ (decimal conn ++ 32 ∷ encode_lower bytes)
words_of (Close conn) = codes "close" ++ 32 ∷ decimal conn
words_of (Step conn now) = codes "step" ++ 32 ∷ (decimal conn ++ 32 ∷ decimal now)
words_of (Expire topic part now) = codes "expire" ++ 32 ∷ (topic ++ 32 ∷ (decimal part ++ 32 ∷ decimal now))
words_of (Tick now) = codes "tick" ++ 32 ∷ decimal now
words_of (Arm disk after mode) = codes "arm" ++ 32 ∷ (disk ++ 32 ∷ (decimal after ++ 32 ∷ mode_word mode))
words_of (Power choice) = codes "power" ++ 32 ∷ decimal choice

-- the line with its line feed
abbrev pub line_of : Event → List ℕ
line_of event = words_of event ++ 10 ∷ []

-- connections are u32, moments are milliseconds up to 2^62, a line brings 1 to 65536 bytes, partitions are those that a topic may
-- have, and calls and choices are u64
abbrev pub IsEvent : Event → Type 0
IsEvent (Open conn) = conn < 2 ^ 32
IsEvent (Bytes conn bytes) = (conn < 2 ^ 32) × (0 < length bytes) × (length bytes ≤ 65536) × IsBytes bytes
IsEvent (Close conn) = conn < 2 ^ 32
IsEvent (Step conn now) = (conn < 2 ^ 32) × (now ≤ 2 ^ 62)
IsEvent (Expire topic part now) = IsTopicName topic × (part < most_partitions) × (now ≤ 2 ^ 62)
IsEvent (Tick now) = now ≤ 2 ^ 62
IsEvent (Arm disk after mode) = IsTextName disk × (after < 2 ^ 64)
IsEvent (Power choice) = choice < 2 ^ 64

abbrev pub end_line : List ℕ
end_line = codes "end" ++ 10 ∷ []

-- the longest line of an event: `bytes`, a number of ten digits, 131072 digits, two blanks and the line feed
abbrev pub longest_line : ℕ
longest_line = 5 + 1 + 10 + 1 + 131072 + 1

-- a script is read up to this many bytes
abbrev pub longest : ℕ
longest = 2 ^ 62

-- the text begins with the lines of these events, and this rest follows
pub record Begins (text : List ℕ) (events : List Event) (rest : List ℕ) : Type 0 where
  pub each : AllByRecursion IsEvent events
  pub parts : text ≡ flat_map line_of events ++ rest
  pub within : length (flat_map line_of events) ≤ longest

-- the text is the script of these events
abbrev pub IsScript : List ℕ → List Event → Type 0
IsScript text events = Begins text events end_line × (length text ≤ longest)

-- at this place of a script no line of an event stands whole at the front of the rest
abbrev pub HasNoEvent : ℕ → List ℕ → Type 0
HasNoEvent place rest = (event : Event) (more : List ℕ) → IsEvent event → rest ≡ line_of event ++ more → longest < place + length (line_of event)

-- the last line stands at this place, and nothing behind it
abbrev pub IsEnd : ℕ → List ℕ → Type 0
IsEnd place rest = (rest ≡ end_line) × (place + 4 ≤ longest)

-- At this place no line is malformed yet: none stands whole, and the rest isn't longer than a line may be; or it is the
-- last line. So `opne` may still become any line that begins so, and `opne 2` with its line feed is malformed.
abbrev pub HasNoMalformed : ℕ → List ℕ → Type 0
HasNoMalformed place rest = (AllByRecursion (λ b. b ≢ 10) rest × (length rest ≤ longest_line)) ⊎ IsEnd place rest

-- the text is the lines of these events, one after another from the first, and behind them no line that is malformed
abbrev pub StandWhole : List ℕ → List Event → Type 0
StandWhole text events = (rest : List ℕ) × Begins text events rest × HasNoMalformed (length (flat_map line_of events)) rest

-- where the fault of such a rest is: the first byte behind the last line where that stands whole, and else the rest's first byte
abbrev pub IsFault : ℕ → List ℕ → ℕ → Type 0
IsFault place rest fault = ((more : List ℕ) × (rest ≡ end_line ++ more) × (place + 4 ≤ longest) × (fault ≡ place + 4))
    ⊎ (((more : List ℕ) → rest ≡ end_line ++ more → longest < place + 4) × (fault ≡ place))

-- what follows at this place is neither a line of an event nor the end
pub record IsRefused (place : ℕ) (rest : List ℕ) (fault : ℕ) : Type 0 where
  pub no_event : HasNoEvent place rest
  pub no_end : IsEnd place rest → ⊥
  pub at : IsFault place rest fault

-- the text isn't a script: these are the events before its first malformed line, and this is the place of its fault
abbrev pub IsMalformed : List ℕ → List Event → ℕ → Type 0
IsMalformed text events fault = (rest : List ℕ) × Begins text events rest × IsRefused (length (flat_map line_of events)) rest fault

-- a text has one reading as lines of events and a rest that begins with none
abbrev pub HasOneReading : List ℕ → Type 0
HasOneReading text = (events others : List Event) (rest left : List ℕ) →
    Begins text events rest → HasNoEvent (length (flat_map line_of events)) rest →
    Begins text others left → HasNoEvent (length (flat_map line_of others)) left → (events ≡ others) × (rest ≡ left)
