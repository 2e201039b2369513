-- Lines and words as lists of bytes: where they are cut, and what they say (this project's own).
-- For example `open  1`, with two blanks, is cut into `open` and ` 1`, which is no number.
use Rattle.std.specs.Prelude.{◌≡◌, ◌≢◌, ◌<◌, ◌≤◌, ◌^◌, ◌∷◌, ◌++◌, ℕ, List, take, drop, length, codes, slice_index, ◌-◌, ◌+◌, ◌⊎◌}
use Rattle.std.specs.declared.option.Option.{Option}
use Rattle.std.specs.Io.KnownBytes.{IsAtEnd}
use Rattle.std.specs.List.{AllByRecursion}
use Rattle.std.specs.Fmt.{decimal}
use Rattle.hex.specs.Hex.{encode_lower, IsBytes}
use Rattle.session_script.specs.declared.event.Event.{Event}
use Rattle.edge_io.specs.Names.{IsTopicName}
use Rattle.edge_io.specs.declared.fault.FaultMode.{FaultMode}
use Rattle.session_script.specs.Script.{words_of, mode_word, IsEvent, longest_line}

-- this byte isn't among them
abbrev pub HasNone : ℕ → List ℕ → Type 0
HasNone byte bytes = AllByRecursion (λ b. b ≢ byte) bytes

-- the first blank stands between the two
abbrev pub IsCut : List ℕ → List ℕ → List ℕ → Type 0
IsCut text front rest = HasNone 32 front × (text ≡ front ++ 32 ∷ rest)

abbrev pub HasNoCut : List ℕ → Type 0
HasNoCut text = (front rest : List ℕ) → IsCut text front rest → ⊥

-- the first line feed stands behind n bytes
pub record IsLine (bytes : List ℕ) (n : ℕ) : Type 0 where
  pub within : n < length bytes
  pub feed : slice_index bytes n ≡ 10
  pub before : HasNone 10 (take n bytes)

-- a line stands whole at the front, and isn't the last one
abbrev pub HasEventLine : List ℕ → Type 0
HasEventLine bytes = (n : ℕ) × IsLine bytes n × (take n bytes ≢ codes "end")

-- no line stands here: the input ends before a line feed, or more bytes than a line has hold none
abbrev pub IsUnfinished : List ℕ → Option (List ℕ) → Type 0
IsUnfinished bytes left = HasNone 10 bytes × (IsAtEnd left ⊎ (longest_line < length bytes))

-- the first line feed from one place on stands at another
pub record IsFeedFrom (bytes : List ℕ) (from place : ℕ) : Type 0 where
  pub behind : from ≤ place
  pub within : place < length bytes
  pub feed : slice_index bytes place ≡ 10
  pub before : HasNone 10 (take (place - from) (drop from bytes))

-- the word is the decimal text of a number up to the limit
abbrev pub IsNumber : ℕ → List ℕ → ℕ → Type 0
IsNumber limit word n = (n ≤ limit) × (word ≡ decimal n)

abbrev pub IsNoNumber : ℕ → List ℕ → Type 0
IsNoNumber limit word = (n : ℕ) → IsNumber limit word n → ⊥

-- the text is a connection's number, a blank and a rest
abbrev pub IsNumbered : List ℕ → ℕ → List ℕ → Type 0
IsNumbered text conn rest = (conn < 2 ^ 32) × (text ≡ decimal conn ++ 32 ∷ rest)

abbrev pub IsNotNumbered : List ℕ → Type 0
IsNotNumbered text = (conn : ℕ) (rest : List ℕ) → IsNumbered text conn rest → ⊥

-- the word is the name of a topic
abbrev pub IsTopicWord : List ℕ → List ℕ → Type 0
IsTopicWord word topic = IsTopicName topic × (word ≡ topic)

abbrev pub IsNoTopicWord : List ℕ → Type 0
IsNoTopicWord word = (topic : List ℕ) → IsTopicWord word topic → ⊥

-- the word is that of a fault mode
abbrev pub IsMode : List ℕ → FaultMode → Type 0
IsMode word mode = word ≡ mode_word mode

abbrev pub IsNoMode : List ℕ → Type 0
IsNoMode word = (mode : FaultMode) → IsMode word mode → ⊥

-- the digits are those of some bytes
abbrev pub IsHex : List ℕ → List ℕ → Type 0
IsHex digits bytes = IsBytes bytes × (digits ≡ encode_lower bytes)

abbrev pub IsNoHex : List ℕ → Type 0
IsNoHex digits = (bytes : List ℕ) → IsHex digits bytes → ⊥

-- these are the words of an event
abbrev pub Says : List ℕ → Event → Type 0
Says words event = IsEvent event × (words ≡ words_of event)

abbrev pub SaysNothing : List ℕ → Type 0
SaysNothing words = (event : Event) → Says words event → ⊥
