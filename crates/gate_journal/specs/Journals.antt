-- What a journal and its disk stand for. This project's own. Worked example: a journal of no frames whose append of `61`
-- failed at its last sync stands for no frames with `61` pending, as a crash may leave `00 00000001 61 00` or
-- `01 00000001 61 00`.
use Rattle.std.specs.Prelude.{◌≡◌, ◌↔◌, ℕ, ◌+◌, ◌^◌, ◌<◌, ◌≤◌, List, [], ◌∷◌, ◌++◌, length}
use Rattle.std.specs.Prelude.{Some, None, Result, Ok, Err, MatchResult, OnOk}
use Rattle.std.specs.declared.option.Option.{Option}
use Rattle.std.specs.List.{AllByRecursion}
use Rattle.edge_io.specs.Counting.{DoesCalls, FailsInCalls}
use Rattle.edge_io.specs.Disk.{IsTold, WhereTold, SameContent}
use Rattle.share_model.specs.declared.fault.StoreFault.{StoreFault}
use Rattle.share_model.specs.declared.fault.StoreFault.TheVariants.{Device as device, Full}
use Rattle.gate_journal.specs.Frames.{IsFrame, IsRest, IsShut, IsAjar, IsWithPending, StandsFor, blocks, frame_in, framed, repaired, text_of}
use Rattle.gate_journal.specs.declared.opening.StartFault.{StartFault}
use Rattle.gate_journal.specs.declared.opening.StartFault.TheVariants.{Device}
use Rattle.gate_journal.specs.declared.writer.Writer.{Writer}
use Rattle.gate_journal.specs.declared.writer.Mending.{Mending}
use Rattle.gate_journal.specs.declared.writer.Mending.TheVariants.{Nothing, Behind, Gate}
use Rattle.edge_io.specs.Views.{DiskView}

-- the last gate lies on the disk, and there are no more frames than bytes before it
pub record HasRoom {D : Type 0} (seen : D → DiskView) (writer : Writer D) : Type 0 where
  pub some : 0 < writer.end
  pub within : writer.end ≤ (seen writer.disk).size
  pub few : writer.count < writer.end

-- Each image of the disk has this shape, and the writer's numbers are those of these frames.
pub record IsShaped {D : Type 0} (seen : D → DiskView) (writer : Writer D) (frames : List (List ℕ))
    (shape : List ℕ → Type 0) : Type 0 where
  pub each : (c : List ℕ) → (seen writer.disk).image c → shape c
  pub fit : AllByRecursion IsFrame frames
  pub end : writer.end ≡ length (blocks frames) + 1
  pub count : writer.count ≡ length frames

-- What is on the disk, by what is left to mend: nothing behind a closed gate; or anything; or the pending frame, behind
-- a gate that may be open.
abbrev pub Mends : {D : Type 0} → (D → DiskView) → Writer D → Mending → List (List ℕ) → Option (List ℕ)
    → Type 0
Mends seen writer Nothing frames pending = (pending ≡ None) × IsShaped seen writer frames (IsRest frames)
Mends seen writer Behind frames pending = IsShaped seen writer frames (IsShut frames)
Mends seen writer Gate frames pending =
    (frame : List ℕ) × (pending ≡ Some frame) × IsFrame frame × IsShaped seen writer frames (IsAjar frames frame)

-- how many calls of its disk it takes to mend this: none; a cut and a sync; a write of a closed gate, a cut, and a sync
-- behind each
abbrev pub calls_to_mend : Mending → ℕ
calls_to_mend Nothing = 0
calls_to_mend Behind = 2
calls_to_mend Gate = 4

-- A journal of these frames, with this write pending, if one is: a crash now leaves the frames, with or without the
-- pending one, and the next append can go on from there.
pub record Stands {D : Type 0} (seen : D → DiskView) (writer : Writer D) (frames : List (List ℕ))
    (pending : Option (List ℕ)) : Type 0 where
  pub images : (c : List ℕ) → (seen writer.disk).image c → IsWithPending frames pending c
  pub mends : Mends seen writer writer.mending frames pending

-- A journal of these frames at rest: no write is pending, nothing stands behind the last gate, and nothing is left to mend.
pub record IsAtRest {D : Type 0} (seen : D → DiskView) (writer : Writer D) (frames : List (List ℕ)) : Type 0 where
  pub stands : Stands seen writer frames None
  pub rests : (c : List ℕ) → (seen writer.disk).image c → IsRest frames c
  pub mended : writer.mending ≡ Nothing

-- no device call failed: where the disk tells its content, its count of faults is as before
abbrev pub IsQuiet : {D : Type 0} → (D → DiskView) → D → D → Type 0
IsQuiet seen old new = IsTold (seen old).content → (seen new).faults ≡ (seen old).faults

-- ---- appends

-- An append at Ok: whatever the frames were and whichever write was pending, this frame stands behind them, the journal is at
-- rest, and each image is the text of these frames.
pub record Adds {D : Type 0} (seen : D → DiskView) (frame : List ℕ) (old new : Writer D) : Type 0 where
  pub rests : (frames : List (List ℕ)) (pending : Option (List ℕ)) → Stands seen old frames pending → IsAtRest seen new (frames ++ frame ∷ [])
  pub text : (frames : List (List ℕ)) (pending : Option (List ℕ)) → Stands seen old frames pending →
      (c : List ℕ) → (seen new.disk).image c → c ≡ text_of (frames ++ frame ∷ [])

-- An append is refused as full exactly where its frame would end past 2^62 bytes, with the end of the last gate, and then
-- nothing is changed, its buffer included.
pub record RefusesFull {D : Type 0} (old new : Writer D) (before after : List ℕ) (result : Result ℕ StoreFault) : Type 0 where
  pub exact : (end : ℕ) → (result ≡ Err (Full end)) ↔ ((end ≡ old.end) × (2 ^ 62 < old.end + length before))
  pub same : (end : ℕ) → result ≡ Err (Full end) → (new ≡ old) × (after ≡ before)

-- Unless it was refused as full, an append has set the length before its frame and the closed gate behind it. The buffer has
-- the frame in any case.
pub record SetsBuffer (before after : List ℕ) (result : Result ℕ StoreFault) : Type 0 where
  pub set : MatchResult result (λ _. after ≡ framed (frame_in before)) (λ e. e ≡ device → after ≡ framed (frame_in before))
  pub frame : frame_in after ≡ frame_in before

-- ---- openings

-- A journal was opened over a disk: the content stands for its frames, it is at rest, and each image is what the repair of the
-- content's end leaves.
pub record Opens {D : Type 0} (seen : D → DiskView) (disk : D) (writer : Writer D)
    (frames : List (List ℕ)) : Type 0 where
  pub stands : WhereTold (seen disk).content (λ c. StandsFor c frames)
  pub rests : IsAtRest seen writer frames
  pub text : WhereTold (seen disk).content (λ c. (d : List ℕ) → (seen writer.disk).image d → d ≡ repaired writer.end c)

-- the content is as it was, and no call was a fault
pub record KeepsContent {D : Type 0} (seen : D → DiskView) (old new : D) : Type 0 where
  pub same : SameContent (seen old) (seen new)
  pub quiet : IsQuiet seen old new

-- journal text of some frames that ends with its last gate, in which an opening finds nothing to repair
pub record EndsWithGate (content : List ℕ) : Type 0 where
  pub frames : List (List ℕ)
  pub fit : AllByRecursion IsFrame frames
  pub long : 1 < length content
  pub rests : IsRest frames content

-- Nothing was repaired: the content is as it was. Where it was done, two calls were made; where `failed` says that one
-- failed, it was one of two.
pub record LooksOnly {D T E : Type 0} (seen : D → DiskView) (old new : D) (failed : Type 0)
    (result : Result T E) : Type 0 where
  pub same : SameContent (seen old) (seen new)
  pub done : OnOk result (DoesCalls seen 2 old new)
  pub fails : failed → FailsInCalls seen 2 old new

-- the disk behind an opening, which holds it in the journal or gives it back
abbrev pub disk_after : {D F : Type 0} → Result (Writer D × F) (D × StartFault) → D
disk_after (Ok opened) = opened.0.disk
disk_after (Err refused) = refused.0

-- it was refused since its disk failed
abbrev pub IsDeviceFault : {T D : Type 0} → Result T (D × StartFault) → Type 0
IsDeviceFault (Ok opened) = ⊥
IsDeviceFault (Err refused) = refused.1 ≡ Device
