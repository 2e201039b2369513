-- How far acts have come, offset by offset. Private clauses cite this alone.
-- For example once the acts below 3 are done, there are rows of held offsets below 3 that are named, and none from 3 on.
use Rattle.std.specs.Prelude.{◌≡◌, ◌≤◌, ◌<◌, ◌*◌, ℕ, List, Option, Some, None, IsSome, nat_le, nat_lt, if◌then◌else◌}
use Rattle.std.specs.List.{count_by}
use Rattle.std.specs.Option.{option_or}
use Rattle.ack_ranges.specs.declared.piece.Piece.{Piece}
use Rattle.share_model.specs.Held.{Held, hold_at}
use Rattle.share_model.specs.Runs.{row_at}
use Rattle.share_model.specs.declared.hold.Hold.{Hold}
use Rattle.share_model.specs.declared.row.Row.{Row}
use Rattle.share_model.specs.declared.run.Run.{Run}
use Rattle.share_model.specs.Logs.{Batch}
use Rattle.share_model.specs.ShareStates.{ShareState}
use Rattle.share_part.specs.Settling.{Acts, acted, IsHeldBy, IsLeastMissing, Judges}
use Rattle.share_part.specs.Tables.{table_of}
use Rattle.share_part.specs.declared.settle.Judged.{Judged}
use Rattle.share_part.specs.declared.settle.Judged.TheVariants.{NotHeld}

-- the member holds it, with this delivery count
abbrev pub IsHeldWith : List ℕ → ℕ → Option Hold → Type 0
IsHeldWith member count None = ⊥
IsHeldWith member count (Some hold) = (hold.member ≡ member) × (hold.count ≡ count)

-- the offsets up to a last one are held by the member, with this delivery count
pub record IsHeldTo (member : List ℕ) (held : Held) (first last count : ℕ) : Type 0 where
  pub order : first ≤ last
  pub theirs : (offset : ℕ) → first ≤ offset → offset ≤ last → IsHeldWith member count (hold_at held offset)

-- they are held in one way
abbrev pub AreHeldSo : Held → ℕ → ℕ → Hold → Type 0
AreHeldSo held first last hold = (offset : ℕ) → first ≤ offset → offset ≤ last → hold_at held offset ≡ Some hold

-- the rows that acts store below an offset
abbrev pub AreRowsTo : ℕ → Acts → Held → ℕ → List Run → Type 0
AreRowsTo limit acts held end rows = (offset : ℕ) → row_at rows offset ≡ (if nat_lt offset end then acted limit acts held offset else None)

-- they are all of the rows
abbrev pub AreRows : ℕ → Acts → Held → List Run → Type 0
AreRows limit acts held rows = (offset : ℕ) → row_at rows offset ≡ acted limit acts held offset

-- the acts below an offset are done, each on an offset that the member holds
pub record AreDoneTo (limit : ℕ) (member : List ℕ) (acts : Acts) (held : Held) (end : ℕ) (rows : List Run) : Type 0 where
  pub rows_are : AreRowsTo limit acts held end rows
  pub theirs : (offset : ℕ) → offset < end → IsSome (acts offset) → IsHeldBy member (hold_at held offset)

-- they are done, or one of them names an offset that the member doesn't hold
abbrev pub Comes : ℕ → List ℕ → Acts → Held → ℕ → List Run → Option ℕ → Type 0
Comes limit member acts held end rows None = AreDoneTo limit member acts held end rows
Comes limit member acts held end rows (Some least) = IsLeastMissing member acts held least

-- all of them are done
pub record AreDone (limit : ℕ) (member : List ℕ) (acts : Acts) (held : Held) (rows : List Run) : Type 0 where
  pub rows_are : AreRows limit acts held rows
  pub theirs : (offset : ℕ) → IsSome (acts offset) → IsHeldBy member (hold_at held offset)

abbrev pub Ends : ℕ → List ℕ → Acts → Held → List Run → Option ℕ → Type 0
Ends limit member acts held rows None = AreDone limit member acts held rows
Ends limit member acts held rows (Some least) = IsLeastMissing member acts held least

-- the piece is what is said of its offsets
abbrev pub IsSaid : Piece → Acts → Type 0
IsSaid piece acts = (offset : ℕ) → piece.first ≤ offset → offset ≤ piece.last → acts offset ≡ Some piece.kind

-- how many records are held from an offset on
abbrev pub held_from : ℕ → Held → ℕ
held_from from held = count_by (λ entry. nat_le from entry.0) held

-- the spare number of runs is enough for the rows of these: a row that is put takes two at most
abbrev pub HasSpareFrom : Held → ℕ → (spare : ℕ) → Type 0
HasSpareFrom held from spare = 2 * held_from from held ≤ spare

-- the rows of the first list, and below them those of the second
abbrev pub laid : List Run → List Run → ℕ → Option Row
laid rows stored offset = option_or (row_at rows offset) (row_at stored offset)

-- ---- the acknowledgements of a group

-- the least offset that is named
pub record IsFirstNamed (acts : Acts) (first : ℕ) : Type 0 where
  pub named : IsSome (acts first)
  pub before : (offset : ℕ) → offset < first → acts offset ≡ None

-- what is judged of a group that has this state, if it has one
abbrev pub JudgesGroup : ℕ → List ℕ → Acts → List Batch → Held → Option ShareState → List Run → Judged → Type 0
JudgesGroup limit member acts log held None rows judged =
    (least : ℕ) × (judged ≡ NotHeld least) × IsLeastMissing member acts held least
JudgesGroup limit member acts log held (Some state) rows judged =
    Judges limit member acts log (table_of state held) rows judged
