-- Frames that are handed over one by one, each with the place of its gate. This project's own.
-- Worked example: of `01 00000001 61 01 00000002 6263 00` are handed over `61` at 0 and `6263` at 6.
use Rattle.std.specs.Prelude.{◌≡◌, ◌≢◌, ◌+◌, ◌<◌, ◌≤◌, ℕ, Bool, true, false, List, [], ◌∷◌, ◌++◌, length, drop, Result, Ok, Err}
use Rattle.std.specs.declared.option.Option.{Option}
use Rattle.std.specs.List.{AllByRecursion}
use Rattle.edge_io.specs.Armed.{RunsOn, StarvesUnarmed}
use Rattle.edge_io.specs.Causes.{Rose}
use Rattle.edge_io.specs.Disk.{IsTold, WhereTold}
use Rattle.edge_io.specs.Views.{DiskView}
use Rattle.gate_journal.specs.Frames.{IsBroken, IsFrame, IsRead, IsRest, StandsFor, blocks, repaired}
use Rattle.gate_journal.specs.Journals.{Opens}
use Rattle.gate_journal.specs.Reading.{LooksAt}
use Rattle.gate_journal.specs.declared.opening.StartFault.{StartFault}
use Rattle.gate_journal.specs.declared.writer.Writer.{Writer}

-- the frames behind this place, each with the place of its gate: a gate, four bytes of length and the frame make 5 bytes more than
-- the frame has
abbrev pub placed : ℕ → List (List ℕ) → List (ℕ × List ℕ)
placed place [] = []
placed place (frame ∷ frames) = (place, frame) ∷ placed (place + (5 + length frame)) frames

-- What calls of a disk do to it besides its content and images: each was done unless `failed` says that one failed, and that was the
-- last. The count of faults then rose; with nothing armed that comes only where no memory was found.
pub record CallsFor {D : Type 0} (seen : D → DiskView) (old new : D) (failed : Type 0) : Type 0 where
  pub runs : RunsOn seen old new
  pub quiet : (failed → ⊥) → IsTold (seen old).content → (seen new).faults ≡ (seen old).faults
  pub rose : failed → Rose (seen old).faults (seen new).faults
  pub memory : failed → StarvesUnarmed seen old new

-- A journal was opened over a disk, and its frames were handed over.
pub record OpensEach {D : Type 0} (seen : D → DiskView) (disk : D) (writer : Writer D) (old new : List (ℕ × List ℕ)) : Type 0 where
  pub frames : List (List ℕ)
  pub opens : Opens seen disk writer frames
  pub visits : new ≡ old ++ placed 0 frames

-- the disk behind an opening, which holds it in the journal or gives it back
abbrev pub disk_behind : {D : Type 0} → Result (Writer D) (D × StartFault) → D
disk_behind (Ok writer) = writer.disk
disk_behind (Err refused) = refused.0

-- ---- private clauses cite what follows

-- Whole frames at the front of these bytes were handed over: `used` bytes, and behind them stands a closed gate, or an open one
-- that no frame and gate follow yet.
pub record HandsOver (place : ℕ) (bytes : List ℕ) (old new : List (ℕ × List ℕ)) (used count : ℕ) (closed : Bool) : Type 0 where
  pub frames : List (List ℕ)
  pub fit : AllByRecursion IsFrame frames
  pub is : bytes ≡ blocks frames ++ drop used bytes
  pub used_is : used ≡ length (blocks frames)
  pub count_is : count ≡ length frames
  pub visits : new ≡ old ++ placed place frames
  pub gate : ℕ
  pub behind : List ℕ
  pub next : drop used bytes ≡ gate ∷ behind
  pub shut : closed ≡ true → gate ≢ 1
  pub waits : closed ≡ false → (gate ≡ 1) × IsBroken behind

-- A disk was only looked at.
pub record LooksFor {D : Type 0} (seen : D → DiskView) (old new : D) (failed : Type 0) : Type 0 where
  pub looks : LooksAt seen old new
  pub calls : CallsFor seen old new failed

-- A content of this length was read to its last gate, and its frames were handed over.
pub record VisitsAll (content : Option (List ℕ)) (size : ℕ) (old new : List (ℕ × List ℕ)) (end count : ℕ) : Type 0 where
  pub frames : List (List ℕ)
  pub fit : AllByRecursion IsFrame frames
  pub read : WhereTold content (IsRead frames size end)
  pub end_is : end ≡ length (blocks frames) + 1
  pub count_is : count ≡ length frames
  pub fits : size ≤ 1 → end ≡ 1
  pub within : 1 < size → end ≤ size
  pub visits : new ≡ old ++ placed 0 frames

-- It was read so, and its end was repaired: each image is the frames and a closed gate.
pub record IsRecovered (content : Option (List ℕ)) (image : List ℕ → Type 0) (size : ℕ) (old new : List (ℕ × List ℕ)) (end count : ℕ) : Type 0 where
  pub frames : List (List ℕ)
  pub fit : AllByRecursion IsFrame frames
  pub stands : WhereTold content (λ c. StandsFor c frames)
  pub rests : (c : List ℕ) → image c → IsRest frames c
  pub text : WhereTold content (λ c. (d : List ℕ) → image d → d ≡ repaired end c)
  pub end_is : end ≡ length (blocks frames) + 1
  pub count_is : count ≡ length frames
  pub within : end ≤ size
  pub visits : new ≡ old ++ placed 0 frames
