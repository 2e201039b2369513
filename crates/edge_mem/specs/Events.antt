-- What happened to a disk in memory, and what it makes of a content. This project's own; a change is that of POSIX `pwrite` or
-- `ftruncate`, and a sync is that of `fdatasync`. `loss_of` has the worked example.
use Rattle.std.specs.Prelude.{◌≡◌, ℕ, List, [], ◌∷◌, ◌++◌, length, take, if◌then◌else◌, nat_lt}
use Rattle.edge_io.specs.Disk.{written, UnfinishedWrite, UnfinishedCut}

pub data Event : Type 0 where
  -- these bytes were written at a place
  Wrote : ℕ → List ℕ → Event
  -- a cut to a length
  CutTo : ℕ → Event
  -- a sync
  Kept : Event
  -- a power loss by a choice
  Lost : ℕ → Event

-- the content after a change
abbrev pub done : Event → List ℕ → List ℕ
done (Wrote at bytes) c = written at bytes c
done (CutTo n) c = take n c
done Kept c = c
done (Lost choice) c = c

-- the content after changes
abbrev pub replay : List Event → List ℕ → List ℕ
replay [] c = c
replay (e ∷ es) c = replay es (done e c)

-- what a crash may leave of a change
abbrev pub LeavesBy : Event → List ℕ → List ℕ → Type 0
LeavesBy (Wrote at bytes) c d = UnfinishedWrite at (length bytes) c d
LeavesBy (CutTo n) c d = UnfinishedCut n c d
LeavesBy Kept c d = d ≡ c
LeavesBy (Lost choice) c d = d ≡ c

-- what a crash may leave of changes
abbrev pub IsImage : List Event → List ℕ → List ℕ → Type 0
IsImage [] base c = c ≡ base
IsImage (e ∷ es) base c = (d : List ℕ) × LeavesBy e base d × IsImage es d c

-- since the start or the last power loss: the content then, the changes up to the last sync and those since
pub record State : Type 0 where
  pub first : List ℕ
  pub kept : List Event
  pub changes : List Event
  -- the choice of each loss, and the content that it left
  pub losses : List (ℕ × List ℕ)

-- the content at the last sync
abbrev pub base : State → List ℕ
base s = replay s.kept s.first

-- what a read gives
abbrev pub content_of : State → List ℕ
content_of s = replay s.changes (base s)

-- what a crash may leave: the content at the last sync, after each change since, each as a crash may leave it
abbrev pub image_of : State → List ℕ → Type 0
image_of s c = IsImage s.changes (base s) c

-- What a power loss leaves: the content at the last sync with the first changes since done, as many as the choice says.
-- Worked example: a content `ab` at the last sync, then `cd` written at 2, then a cut to 1: choice 0 leaves `ab`, choice
-- 1 leaves `abcd`, and any greater one leaves `a`.
abbrev pub loss_of : State → ℕ → List ℕ
loss_of s choice = replay (take choice s.changes) (base s)

-- a change more since the last sync
abbrev pub changed : State → Event → State
changed s e = record { first = s.first; kept = s.kept; changes = s.changes ++ e ∷ []; losses = s.losses }

-- What an event makes of the state. A write that begins behind the end, which no call may ask for, is none.
abbrev pub next : State → Event → State
next s (Wrote at bytes) = if nat_lt (length (content_of s)) at then s else changed s (Wrote at bytes)
next s (CutTo n) = changed s (CutTo n)
next s Kept = record { first = s.first; kept = s.kept ++ s.changes; changes = []; losses = s.losses }
next s (Lost choice) = record {
  first = loss_of s choice;
  kept = [];
  changes = [];
  losses = s.losses ++ (choice, loss_of s choice) ∷ [];
}

-- the state after events
unfoldable pub run : State → List Event → State
run s [] = s
run s (e ∷ es) = run (next s e) es

-- the state of a disk that was made with this content
abbrev pub first_state : List ℕ → State
first_state first = record { first = first; kept = []; changes = []; losses = [] }
