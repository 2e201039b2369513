-- Journal text: which content of a disk stands for which frames. This project's own format.
--
-- A gate is one byte: open where it is 1, and closed otherwise. Behind an open gate stand the length of a frame, as a
-- big-endian u32, and the frame; then comes the next gate. So gates open one after another, and the last one is closed.
-- Worked example: `01 00000001 61 00` stands for the one frame `61`, and so does that with any bytes behind it.
use Rattle.std.specs.Prelude.{◌≡◌, ◌≢◌, ◌⊎◌, ◌<◌, ◌≤◌, ◌-◌, ◌+◌, ℕ, List, [], ◌∷◌, ◌++◌, length, take, drop}
use Rattle.std.specs.Prelude.{Some, None}
use Rattle.std.specs.Prelude.{if◌then◌else◌, nat_le}
use Rattle.std.specs.declared.option.Option.{Option}
use Rattle.std.specs.List.{AllByRecursion}
use Rattle.std.specs.Int.{w32, to_be_bytes}

-- a frame has 1 to 2^25 bytes
abbrev pub IsFrame : List ℕ → Type 0
IsFrame frame = (0 < length frame) × (length frame ≤ 33554432)

-- behind a gate: the length and the frame
abbrev pub behind_gate : List ℕ → List ℕ
behind_gate frame = to_be_bytes w32 (length frame) ++ frame

-- open gates, each with its frame
abbrev pub blocks : List (List ℕ) → List ℕ
blocks [] = []
blocks (frame ∷ frames) = 1 ∷ (behind_gate frame ++ blocks frames)

-- At most one byte stands for no frames. All other text is open gates with frames, and then a closed gate, whatever
-- follows it.
abbrev pub StandsFor : List ℕ → List (List ℕ) → Type 0
StandsFor content frames = ((length content ≤ 1) × (frames ≡ []))
    ⊎ ((gate : ℕ) × (tail : List ℕ) × (gate ≢ 1) × (content ≡ blocks frames ++ (gate ∷ tail)) × AllByRecursion IsFrame frames)

-- the frames, with this one more or without it
abbrev pub IsBeforeOrAfter : List (List ℕ) → List ℕ → List ℕ → Type 0
IsBeforeOrAfter frames frame content = StandsFor content frames ⊎ StandsFor content (frames ++ frame ∷ [])

-- the frames, with or without the one whose write is pending, if one is
abbrev pub IsWithPending : List (List ℕ) → Option (List ℕ) → List ℕ → Type 0
IsWithPending frames None content = StandsFor content frames
IsWithPending frames (Some pending) content = IsBeforeOrAfter frames pending content

-- behind an open gate there is no frame with a byte more behind it
abbrev pub IsBroken : List ℕ → Type 0
IsBroken behind = (frame after : List ℕ) → IsFrame frame → 0 < length after → behind ≡ behind_gate frame ++ after → ⊥

-- Not journal text: at this place, behind whole frames, stands an open gate that no frame and gate follow.
pub record IsDamaged (content : List ℕ) (place : ℕ) : Type 0 where
  pub frames : List (List ℕ)
  pub behind : List ℕ
  pub long : 1 < length content
  pub is : content ≡ blocks frames ++ 1 ∷ behind
  pub at : place ≡ length (blocks frames)
  pub fit : AllByRecursion IsFrame frames
  pub broken : IsBroken behind

-- it is an image, or stands for frames for which an image stands
abbrev pub StandsAs : (List ℕ → Type 0) → List ℕ → Type 0
StandsAs image c = (d : List ℕ) × image d × ((d ≡ c) ⊎ ((frames : List (List ℕ)) × StandsFor d frames × StandsFor c frames))

-- ---- the buffer of an append

-- the frame in a buffer, with four bytes before it and one behind it
abbrev pub frame_in : List ℕ → List ℕ
frame_in bytes = take (length bytes - 5) (drop 4 bytes)

-- the buffer with its five bytes set: the length, the frame and a closed gate
abbrev pub framed : List ℕ → List ℕ
framed frame = behind_gate frame ++ 0 ∷ []

-- ---- the shapes of a journal's disk

-- the frames and a gate that is closed by a 0, as an append writes them, and nothing more
abbrev pub text_of : List (List ℕ) → List ℕ
text_of frames = blocks frames ++ 0 ∷ []

-- the frames and a closed gate, and nothing more
abbrev pub IsRest : List (List ℕ) → List ℕ → Type 0
IsRest frames c = (gate : ℕ) × (gate ≢ 1) × (c ≡ blocks frames ++ gate ∷ [])

-- the frames and a closed gate, whatever follows it
abbrev pub IsShut : List (List ℕ) → List ℕ → Type 0
IsShut frames c = (gate : ℕ) × (tail : List ℕ) × (gate ≢ 1) × (c ≡ blocks frames ++ (gate ∷ tail))

-- the frames, and behind a closed gate one frame more
abbrev pub IsHeld : List (List ℕ) → List ℕ → List ℕ → Type 0
IsHeld frames frame c = (gate : ℕ) × (gate ≢ 1) × (c ≡ blocks frames ++ (gate ∷ framed frame))

-- the frames, and one frame more behind a gate that is open or closed
abbrev pub IsAjar : List (List ℕ) → List ℕ → List ℕ → Type 0
IsAjar frames frame c = (gate : ℕ) × (c ≡ blocks frames ++ gate ∷ framed frame)

-- what opening makes of a content whose last gate ends at `end`: a first gate where there was none, and else nothing behind
-- the last one
abbrev pub repaired : ℕ → List ℕ → List ℕ
repaired end c = if nat_le (length c) 1 then 0 ∷ [] else take end c

-- a content of this length was read: its frames, and where its next gate ends
pub record IsRead (frames : List (List ℕ)) (len end : ℕ) (content : List ℕ) : Type 0 where
  pub stands : StandsFor content frames
  pub fit : AllByRecursion IsFrame frames
  pub end_is : end ≡ length (blocks frames) + 1
  pub len_is : len ≡ length content
