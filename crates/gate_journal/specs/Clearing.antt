-- Taking all frames of a journal away, so that another list can be written to its disk. This project's own. The first gate is
-- closed, and once that is synced, what stands behind it is cut off. Worked example: while the first gate of `01 00000001 61 00` is
-- closed, a crash may leave any byte before `00000001 61 00`; then it leaves `00`, with some of these bytes behind it or none.
use Rattle.std.specs.Prelude.{◌≡◌, ◌≤◌, ◌⊎◌, ℕ, List, [], drop, length}
use Rattle.edge_io.specs.Views.{DiskView}
use Rattle.gate_journal.specs.Frames.{IsShut}
use Rattle.gate_journal.specs.declared.writer.Writer.{Writer}
use Rattle.gate_journal.specs.declared.writer.Mending.TheVariants.{Nothing, Behind}

-- each image has a closed first gate, whatever follows it
abbrev pub IsClosed : (List ℕ → Type 0) → Type 0
IsClosed image = (c : List ℕ) → image c → IsShut [] c

-- each image has one byte or none
abbrev pub IsShort : (List ℕ → Type 0) → Type 0
IsShort image = (c : List ℕ) → image c → length c ≤ 1

-- A journal of no frames, behind whose first gate bytes may stand. Its first gate is not written again: what stands behind it may be
-- no frame, so it must be closed in each image at each moment.
pub record IsBare {D : Type 0} (writer : Writer D) : Type 0 where
  pub end : writer.end ≡ 1
  pub behind : writer.mending ≡ Behind

-- A journal of no frames, behind whose first gate no byte can stand: it was opened so, or was cleared, and nothing was appended since.
pub record IsLone {D : Type 0} (writer : Writer D) : Type 0 where
  pub end : writer.end ≡ 1
  pub nothing : writer.mending ≡ Nothing

-- it is an image, or, where the first gate is written, one but for its first byte
abbrev pub IsTouched : {D : Type 0} → Writer D → (List ℕ → Type 0) → List ℕ → Type 0
IsTouched writer image c = (d : List ℕ) × image d × ((c ≡ d) ⊎ ((IsBare writer → ⊥) × (drop 1 c ≡ drop 1 d)))

-- what these two say of a journal is so of its disk
pub record MayClear {D : Type 0} (seen : D → DiskView) (writer : Writer D) : Type 0 where
  pub closed : IsBare writer → IsClosed (seen writer.disk).image
  pub short : IsLone writer → IsShort (seen writer.disk).image

-- A journal as it was, but for what the calls of its disk did.
abbrev pub IsAsBefore : {D : Type 0} → Writer D → Writer D → Type 0
IsAsBefore old new = new ≡ record { disk = new.disk; end = old.end; count = old.count; mending = old.mending }

-- Clearing failed: the first gate may be open or closed, with the same bytes behind it; or it is closed, and bytes may follow it.
abbrev pub IsPartlyCleared : {D : Type 0} → (D → DiskView) → Writer D → Writer D → Type 0
IsPartlyCleared seen old new =
    (IsAsBefore old new × ((c : List ℕ) → (seen new.disk).image c → IsTouched old (seen old.disk).image c))
    ⊎ (IsBare new × IsClosed (seen new.disk).image)
