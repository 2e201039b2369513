-- Several frames that are written as one: a crash leaves all of them behind the others, or none. This project's own.
-- Worked example: to a journal of no frames `61` and `6263` are added at once. While its first gate is closed, `00 00000001 61 01 00000002 6263 00`
-- stands for no frames, and with the first gate open for both.
use Rattle.std.specs.Prelude.{◌≡◌, ◌≢◌, ◌⊎◌, ◌<◌, ℕ, List, [], ◌∷◌, ◌++◌, length, Some, None}
use Rattle.std.specs.declared.option.Option.{Option}
use Rattle.std.specs.List.{AllByRecursion}
use Rattle.edge_io.specs.Views.{DiskView}
use Rattle.gate_journal.specs.Frames.{IsFrame, IsRest, IsShut, StandsFor, behind_gate, blocks, text_of}
use Rattle.gate_journal.specs.Journals.{IsAtRest, IsShaped}
use Rattle.gate_journal.specs.declared.writer.Writer.{Writer}
use Rattle.gate_journal.specs.declared.writer.Mending.{Mending}
use Rattle.gate_journal.specs.declared.writer.Mending.TheVariants.{Nothing, Behind, Gate}

-- What stands behind the gate of the first of these frames: the gates between them are open, and the last one is closed.
abbrev pub group_text : List (List ℕ) → List ℕ
group_text [] = []
group_text (frame ∷ frames) = behind_gate frame ++ text_of frames

-- so many frames, one or more, and their text
pub record IsGroup (bytes : List ℕ) (count : ℕ) (group : List (List ℕ)) : Type 0 where
  pub fit : AllByRecursion IsFrame group
  pub some : 0 < length group
  pub count_is : count ≡ length group
  pub is : bytes ≡ group_text group

-- the frames, with all of these more or with none
abbrev pub IsAllOrNone : List (List ℕ) → List (List ℕ) → List ℕ → Type 0
IsAllOrNone frames group content = StandsFor content frames ⊎ StandsFor content (frames ++ group)

-- the frames, and behind a closed gate these more
abbrev pub AreHeld : List (List ℕ) → List (List ℕ) → List ℕ → Type 0
AreHeld frames group c = (gate : ℕ) × (gate ≢ 1) × (c ≡ blocks frames ++ (gate ∷ group_text group))

-- the frames, and these more behind a gate that is open or closed
abbrev pub AreAjar : List (List ℕ) → List (List ℕ) → List ℕ → Type 0
AreAjar frames group c = (gate : ℕ) × (c ≡ blocks frames ++ (gate ∷ group_text group))

-- What is on the disk, by what is left to mend: nothing behind a closed gate; or anything; or the pending frames, one or more, behind a
-- gate that may be open.
abbrev pub MendsAll : {D : Type 0} → (D → DiskView) → Writer D → Mending → List (List ℕ) → List (List ℕ) → Type 0
MendsAll seen writer Nothing frames pending = (pending ≡ []) × IsShaped seen writer frames (IsRest frames)
MendsAll seen writer Behind frames pending = IsShaped seen writer frames (IsShut frames)
MendsAll seen writer Gate frames pending =
    (0 < length pending) × AllByRecursion IsFrame pending × IsShaped seen writer frames (AreAjar frames pending)

-- A journal of these frames, with the write of those pending, if there are any: a crash now leaves the frames, with all that are pending or
-- with none, and the next append can go on from there. Where at most one is pending, this is `Stands`.
pub record StandsAll {D : Type 0} (seen : D → DiskView) (writer : Writer D) (frames pending : List (List ℕ)) : Type 0 where
  pub images : (c : List ℕ) → (seen writer.disk).image c → IsAllOrNone frames pending c
  pub mends : MendsAll seen writer writer.mending frames pending

-- the one pending frame, or none
abbrev pub pending_list : Option (List ℕ) → List (List ℕ)
pending_list None = []
pending_list (Some frame) = frame ∷ []

-- Whatever the frames were and whichever write was pending, these frames stand behind them, the journal is at rest, and each image is the
-- text of all.
pub record AddsAll {D : Type 0} (seen : D → DiskView) (group : List (List ℕ)) (old new : Writer D) : Type 0 where
  pub rests : (frames pending : List (List ℕ)) → StandsAll seen old frames pending → IsAtRest seen new (frames ++ group)
  pub text : (frames pending : List (List ℕ)) → StandsAll seen old frames pending →
      (c : List ℕ) → (seen new.disk).image c → c ≡ text_of (frames ++ group)
