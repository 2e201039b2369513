-- What a disk in memory knows of itself: all that happened to it, and from that its content, its images and its losses. This
-- project's own. Worked example: an empty disk on which a write of `wxyz` at 0 was torn has the one event that `wx` was
-- written at 0; a read gives `wx`, and a crash may leave at most two bytes, which may be any.
use Rattle.std.specs.Prelude.{◌≤◌, ◌==◌, ◌/◌, if◌then◌else◌, ℕ, Bool, List, ◌∷◌, [], ◌++◌, length, take, Some, None}
use Rattle.std.specs.declared.option.Option.{Option}
use Rattle.edge_io.specs.declared.fault.FaultMode.{FaultMode}
use Rattle.edge_io.specs.declared.fault.FaultMode.TheVariants.{Once, Torn, Dead}
use Rattle.edge_io.specs.declared.fault.Armed.{Armed}
use Rattle.edge_io.specs.declared.fault.Armed.TheVariants.{Nothing, After, Broken}
use Rattle.edge_mem.specs.Events.{Event, Wrote, State, run, first_state, content_of, image_of}

-- the content that the disk was made with, and what happened since
pub record Past : Type 0 where
  pub first : List ℕ
  pub events : List Event

abbrev pub state : Past → State
state h = run (first_state h.first) h.events

abbrev pub content : Past → List ℕ
content h = content_of (state h)

abbrev pub image : Past → List ℕ → Type 0
image h c = image_of (state h) c

-- what a crash at a moment from t on might have left; the moments are the numbers of events that had happened
abbrev pub since : Past → ℕ → List ℕ → Type 0
since h t c = (m : ℕ) × (t ≤ m) × (m ≤ length h.events) × image_of (run (first_state h.first) (take m h.events)) c

abbrev pub with_event : Past → Event → Past
with_event h e = record { first = h.first; events = h.events ++ e ∷ [] }

-- ---- calls that an armed fault may break

-- a write that a fault breaks: nothing of it is done, or its first half
abbrev pub broken_write : FaultMode → ℕ → List ℕ → Past → Past
broken_write Once at bytes h = h
broken_write Torn at bytes h = with_event h (Wrote at (take (length bytes / 2) bytes))
broken_write Dead at bytes h = with_event h (Wrote at (take (length bytes / 2) bytes))

-- how the next call is broken, if it is
abbrev pub broken_by : Armed → Option FaultMode
broken_by Nothing = None
broken_by (After passes mode) = if passes == 0 then Some mode else None
broken_by Broken = Some Once

-- what a write that failed leaves, by how it is broken; one that isn't broken finds no memory
abbrev pub failed_write : Option FaultMode → ℕ → List ℕ → Past → Past
failed_write None at bytes h = h
failed_write (Some mode) at bytes h = broken_write mode at bytes h

-- what contracts see of a disk in memory
pub record DiskState : Type 0 where
  pub past : Past
  pub armed : Armed
  pub arms : ℕ
  pub starved : Bool
  pub faults : ℕ
