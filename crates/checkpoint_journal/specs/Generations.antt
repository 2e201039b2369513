-- Which of the two journals of a store is live, by what their frames are. This project's own.
-- A journal is of the generation that its head names, and of generation 0 without a head. Behind a head stand snapshots, and then a
-- seal, which says that they are all; a journal with a head and no seal there is not sealed, and never live.
-- Worked example: of the frames update beside head of 1, snapshot the first are live; of the frames update beside head of 1,
-- snapshot, seal the second are; of no frames beside no frames the first are.
use Rattle.std.specs.Prelude.{◌≡◌, ◌<◌, ◌≤◌, ◌⊎◌, ◌&&◌, ◌||◌, ◌++◌, ℕ, Bool, true, false, not, List, [], ◌∷◌, Some, None, Result, Ok, Err, map, nat_lt, if◌then◌else◌}
use Rattle.std.specs.declared.option.Option.{Option}
use Rattle.gate_journal.specs.Frames.{IsDamaged, StandsFor}
use Rattle.state_records.specs.Reading.{record_at}
use Rattle.state_records.specs.Spelling.{record_bytes}
use Rattle.state_records.specs.declared.record.StateRecord.{StateRecord}
use Rattle.state_records.specs.declared.record.StateRecord.TheVariants as records
use Rattle.checkpoint_journal.specs.declared.mark.Mark.{Mark}
use Rattle.checkpoint_journal.specs.declared.mark.Mark.TheVariants.{Head, Snapshot, Seal, Other}

abbrev pub mark_read : Result StateRecord ℕ → Mark
mark_read (Ok (records.Snapshot state)) = Snapshot
mark_read (Ok (records.Update state)) = Other
mark_read (Ok (records.Removal key)) = Other
mark_read (Ok (records.Head generation)) = Head generation
mark_read (Ok records.Seal) = Seal
mark_read (Err place) = Other

-- what a frame is to the generation of its journal
abbrev pub mark_of : List ℕ → Mark
mark_of frame = mark_read (record_at frame)

abbrev pub marks_of : List (List ℕ) → List Mark
marks_of frames = map mark_of frames

abbrev pub generation : List Mark → ℕ
generation [] = 0
generation (Head n ∷ marks) = n
generation (Snapshot ∷ marks) = 0
generation (Seal ∷ marks) = 0
generation (Other ∷ marks) = 0

-- snapshots or nothing, and then a seal
abbrev pub has_seal : List Mark → Bool
has_seal [] = false
has_seal (Snapshot ∷ marks) = has_seal marks
has_seal (Seal ∷ marks) = true
has_seal (Head n ∷ marks) = false
has_seal (Other ∷ marks) = false

abbrev pub is_sealed : List Mark → Bool
is_sealed [] = true
is_sealed (Head n ∷ marks) = has_seal marks
is_sealed (Snapshot ∷ marks) = true
is_sealed (Seal ∷ marks) = true
is_sealed (Other ∷ marks) = true

-- the sealed one of the greatest generation, the first at a tie
abbrev pub second_is_live : List Mark → List Mark → Bool
second_is_live first second = is_sealed second && (not (is_sealed first) || nat_lt (generation first) (generation second))

-- the frames of the live one; neither, where neither is sealed
abbrev pub live_of : List (List ℕ) → List (List ℕ) → Option (List (List ℕ))
live_of first second =
    if second_is_live (marks_of first) (marks_of second) then Some second else if is_sealed (marks_of first) then Some first else None

-- Contents of the first and the second disk that keep these frames: both are journal text, and these are the frames of the live one.
pub record IsListed (first second : List ℕ) (frames : List (List ℕ)) : Type 0 where
  pub ones : List (List ℕ)
  pub twos : List (List ℕ)
  pub first_is : StandsFor first ones
  pub second_is : StandsFor second twos
  pub live : live_of ones twos ≡ Some frames

-- and the live one is that of this disk
pub record IsLiveOn (first second : List ℕ) (on_second : Bool) (frames : List (List ℕ)) : Type 0 where
  pub ones : List (List ℕ)
  pub twos : List (List ℕ)
  pub first_is : StandsFor first ones
  pub second_is : StandsFor second twos
  pub live : live_of ones twos ≡ Some frames
  pub disk : on_second ≡ second_is_live (marks_of ones) (marks_of twos)

-- Both are journal text, and neither is sealed.
pub record IsUnsealed (first second : List ℕ) : Type 0 where
  pub ones : List (List ℕ)
  pub twos : List (List ℕ)
  pub first_is : StandsFor first ones
  pub second_is : StandsFor second twos
  pub none : live_of ones twos ≡ None

-- Not a store, by this place of this disk: the first is no journal text; or it is, and the second is none; or both are, and neither
-- is sealed, which is told of the first byte of the first.
abbrev pub IsUnlisted : List ℕ → List ℕ → Bool → ℕ → Type 0
IsUnlisted first second false place = IsDamaged first place ⊎ ((place ≡ 0) × IsUnsealed first second)
IsUnlisted first second true place = ((frames : List (List ℕ)) × StandsFor first frames) × IsDamaged second place

-- ---- the frames of a checkpoint

abbrev pub head_frame : ℕ → List ℕ
head_frame n = record_bytes (records.Head n)

abbrev pub seal_frame : List ℕ
seal_frame = record_bytes records.Seal

-- a head of this generation, these snapshots, and a seal
abbrev pub checkpoint_of : ℕ → List (List ℕ) → List (List ℕ)
checkpoint_of n snapshots = (head_frame n ∷ snapshots) ++ seal_frame ∷ []

-- a frame that no checkpoint writes first: it begins no generation
abbrev pub IsPlain : Mark → Type 0
IsPlain (Head n) = ⊥
IsPlain Snapshot = Unit {0}
IsPlain Seal = Unit {0}
IsPlain Other = Unit {0}

-- ---- a store in the course of time

-- sealed frames of this generation
pub record IsWhole (n : ℕ) (frames : List (List ℕ)) : Type 0 where
  pub whole : is_sealed (marks_of frames) ≡ true
  pub is : generation (marks_of frames) ≡ n

-- a generation loses to that of the live journal, which is on the second disk or on the first: at a tie the first is live
abbrev pub LosesTo : Bool → ℕ → ℕ → Type 0
LosesTo true live n = n < live
LosesTo false live n = n ≤ live

-- frames that are not live beside a journal of this generation: not sealed, or of a generation that loses
abbrev pub IsBeaten : Bool → ℕ → List (List ℕ) → Type 0
IsBeaten on_second live frames = (is_sealed (marks_of frames) ≡ false) ⊎ LosesTo on_second live (generation (marks_of frames))

-- the contents of the live disk and of the other one keep these frames
abbrev pub KeepBoth : Bool → List ℕ → List ℕ → List (List ℕ) → Type 0
KeepBoth true live idle frames = IsListed idle live frames
KeepBoth false live idle frames = IsListed live idle frames
