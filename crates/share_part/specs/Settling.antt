-- What acknowledgements, releases and expiries make of a table (KIP-932: an acquired record becomes acknowledged, archived or available
-- again; the delivery limit archives). Acts say of an offset at most one thing. An act is done on a held offset: it stores a row with the
-- held delivery count, and the offset isn't held any more. Then the start goes to the least record that is neither acknowledged nor archived,
-- or to the log's end where there is none, and what is stored below it goes.
-- Worked example: a log has one batch from 0 to 2, the start is 0, nothing is stored, and `a` holds all three with count 1. It accepts 0,
-- releases 1 and rejects 2, with delivery limit 5: then 1 is available with count 1, and 2 is archived. The start is 1, since 1 isn't
-- closed, and the rows of 1 and 2 are written; that of 0 lies below the start. Were 1 held with count 5, its release would archive
-- it, the start would be 3, and no row would be written.
use Rattle.std.specs.Prelude.{◌≡◌, ◌≢◌, ◌⊎◌, ◌^◌, ◌≤◌, ◌<◌, ◌+◌, ℕ, pos, List, [], ◌∷◌, Option, Some, None, Bool, true, false}
use Rattle.std.specs.Prelude.{IsSome, is_none, filter, unwrap_or, nat_eq, nat_le, nat_lt, if◌then◌else◌}
use Rattle.std.specs.Option.{option_or}
use Rattle.std.specs.BTreeMap.{is_at}
use Rattle.std.specs.Cmp.Lexicographic.{slice_cmp}
use Rattle.std.specs.Ordering.{nat_cmp}
use Rattle.share_model.specs.Held.{Held, hold_at, without_range}
use Rattle.share_model.specs.Logs.{Batch, IsSlot, end_of}
use Rattle.share_model.specs.Runs.{IsCanonical, row_at}
use Rattle.share_model.specs.ShareStates.{ShareState}
use Rattle.share_model.specs.declared.ack.AckKind.{AckKind}
use Rattle.share_model.specs.declared.ack.AckKind.TheVariants.{Gap, Accept, Release, Reject}
use Rattle.share_model.specs.declared.hold.Hold.{Hold}
use Rattle.share_model.specs.declared.row.Row.{Row}
use Rattle.share_model.specs.declared.row.RowState.{RowState}
use Rattle.share_model.specs.declared.row.RowState.TheVariants.{Available, Acknowledged, Archived}
use Rattle.share_model.specs.declared.run.Run.{Run}
use Rattle.share_part.specs.Tables.{Table}
use Rattle.share_part.specs.declared.settle.Judged.{Judged}
use Rattle.share_part.specs.declared.settle.Judged.TheVariants.{NotHeld, Changes}
use Rattle.share_part.specs.declared.settle.Moved.{Moved}
use Rattle.share_part.specs.declared.settle.Whose.{Whose}
use Rattle.share_part.specs.declared.settle.Whose.TheVariants.{Member, Due}

-- ---- one act

-- what an act stores of a record that is held with this delivery count
abbrev pub settled : (limit : ℕ) → AckKind → (count : ℕ) → Row
settled limit Accept count = record { state = Acknowledged; count = count }
settled limit Gap count = record { state = Archived; count = count }
settled limit Reject count = record { state = Archived; count = count }
settled limit Release count = record { state = if nat_le limit count then Archived else Available; count = count }

-- the row that is stored at an offset, if an act is done there
abbrev pub act_row : ℕ → Option AckKind → Option Hold → Option Row
act_row limit None hold = None
act_row limit (Some kind) None = None
act_row limit (Some kind) (Some hold) = Some (settled limit kind hold.count)

-- ---- acts on a table

-- what is done at each offset, if anything
abbrev pub Acts : Type 0
Acts = ℕ → Option AckKind

-- the rows that acts store
abbrev pub acted : ℕ → Acts → Held → ℕ → Option Row
acted limit acts held offset = act_row limit (acts offset) (hold_at held offset)

-- what is stored of each offset after them
abbrev pub stored_after : ℕ → Acts → Table → ℕ → Option Row
stored_after limit acts table offset = option_or (acted limit acts table.held offset) (row_at table.rows offset)

-- what is held after them
abbrev pub held_after : Acts → Held → Held
held_after acts held = filter (λ entry. is_none (acts entry.0)) held

-- ---- one act after another

-- what is stored of each offset, and what is held
pub record Books : Type 0 where
  pub stored : ℕ → Option Row
  pub held : Held

-- one act on one offset
abbrev pub act_on : ℕ → ℕ × AckKind → Books → Books
act_on limit act books = record {
  stored = λ offset.
      if nat_eq offset act.0 then option_or (act_row limit (Some act.1) (hold_at books.held offset)) (books.stored offset) else books.stored offset;
  held = without_range act.0 act.0 books.held;
}

-- acts in order
abbrev pub acts_on : ℕ → List (ℕ × AckKind) → Books → Books
acts_on limit [] books = books
acts_on limit (act ∷ more) books = acts_on limit more (act_on limit act books)

-- what they say of an offset
abbrev pub said_by : List (ℕ × AckKind) → Acts
said_by [] offset = None
said_by (act ∷ more) offset = if nat_eq offset act.0 then Some act.1 else said_by more offset

-- each is on an offset behind the one before
abbrev pub AreRisingFrom : ℕ → List (ℕ × AckKind) → Type 0
AreRisingFrom low [] = Unit {0}
AreRisingFrom low (act ∷ more) = (low ≤ act.0) × AreRisingFrom (act.0 + 1) more

-- ---- the start

-- a record that is stored as acknowledged or archived isn't delivered again
abbrev pub is_closed_state : RowState → Bool
is_closed_state Available = false
is_closed_state Acknowledged = true
is_closed_state Archived = true

abbrev pub is_closed : Option Row → Bool
is_closed None = false
is_closed (Some row) = is_closed_state row.state

-- a slot that isn't closed
pub record IsOpen (log : List Batch) (stored : ℕ → Option Row) (offset : ℕ) : Type 0 where
  pub slot : IsSlot log offset
  pub open_is : is_closed (stored offset) ≡ false

-- The least slot from the old start on that isn't closed, else the log's end. A table starts where the log does or behind, so these are slots of
-- the log.
abbrev pub IsNextStart : List Batch → (ℕ → Option Row) → ℕ → ℕ → Type 0
IsNextStart log stored start next =
    (IsOpen log stored next × (start ≤ next) × ((offset : ℕ) → start ≤ offset → IsOpen log stored offset → next ≤ offset))
    ⊎ ((next ≡ end_of log) × ((offset : ℕ) → start ≤ offset → IsOpen log stored offset → ⊥))

-- ---- what is written

-- The start after acts on a table, and the canonical runs of the rows that they store from there on.
pub record Settles (limit : ℕ) (acts : Acts) (log : List Batch) (table : Table) (start : ℕ) (runs : List Run) : Type 0 where
  pub start_is : IsNextStart log (stored_after limit acts table) table.start start
  pub canonical : IsCanonical runs
  pub rows : (offset : ℕ) → row_at runs offset ≡ (if nat_lt offset start then None else acted limit acts table.held offset)

-- The state of a table after acts: both epochs are 0, the start has moved, and each row from there on is that of an act, or else the old one.
pub record IsSettled (limit : ℕ) (acts : Acts) (log : List Batch) (table : Table) (state : ShareState) : Type 0 where
  pub epochs : (state.state_epoch ≡ pos 0) × (state.leader_epoch ≡ pos 0)
  pub start : ℕ
  pub start_told : state.start ≡ pos start
  pub start_is : IsNextStart log (stored_after limit acts table) table.start start
  pub canonical : IsCanonical state.runs
  pub rows : (offset : ℕ) → row_at state.runs offset ≡ (if nat_lt offset start then None else stored_after limit acts table offset)

-- ---- who holds what is named

abbrev pub IsHeldBy : List ℕ → Option Hold → Type 0
IsHeldBy member None = ⊥
IsHeldBy member (Some hold) = hold.member ≡ member

-- the member holds each offset that is named
abbrev pub AreHeldBy : List ℕ → Acts → Held → Type 0
AreHeldBy member acts held = (offset : ℕ) → IsSome (acts offset) → IsHeldBy member (hold_at held offset)

-- the least offset that is named and that the member doesn't hold
pub record IsLeastMissing (member : List ℕ) (acts : Acts) (held : Held) (least : ℕ) : Type 0 where
  pub named : IsSome (acts least)
  pub missing : IsHeldBy member (hold_at held least) → ⊥
  pub below : (offset : ℕ) → offset < least → IsSome (acts offset) → IsHeldBy member (hold_at held offset)

-- ---- releases

-- the holds of a member, or those whose lock has ended by a moment
abbrev pub is_chosen : Whose → Hold → Bool
is_chosen (Member member) hold = is_at (slice_cmp nat_cmp member) hold.member
is_chosen (Due now) hold = nat_le hold.end now

abbrev pub release_of : Bool → Option AckKind
release_of true = Some Release
release_of false = None

abbrev pub releases_if : (Hold → Bool) → Option Hold → Option AckKind
releases_if chosen None = None
releases_if chosen (Some hold) = release_of (chosen hold)

-- each offset whose hold is chosen is released
abbrev pub releasing : (Hold → Bool) → Held → Acts
releasing chosen held offset = releases_if chosen (hold_at held offset)

-- the offsets that are held are ones that a log may have
abbrev pub AreBelow : Held → Type 0
AreBelow held = (offset : ℕ) (hold : Hold) → hold_at held offset ≡ Some hold → offset < 2 ^ 62

-- ---- what is told

-- the new start, where it moves, and the canonical runs of the changed rows from there on
pub record Change : Type 0 where
  pub start : Option ℕ
  pub runs : List Run

-- by where the start goes, and the rows that were put
abbrev pub change_of : Moved → List Run → Change
change_of moved runs = record { start = moved.start; runs = runs }

-- what is to be stored of acts, where the start is told only if it moves
pub record IsChange (limit : ℕ) (acts : Acts) (log : List Batch) (table : Table) (change : Change) : Type 0 where
  pub settles : Settles limit acts log table (unwrap_or change.start table.start) change.runs
  pub moves : change.start ≢ Some table.start

-- the least offset that the member doesn't hold, or what is to be stored, with these rows
abbrev pub Judges : ℕ → List ℕ → Acts → List Batch → Table → List Run → Judged → Type 0
Judges limit member acts log table rows (NotHeld least) = IsLeastMissing member acts table.held least
Judges limit member acts log table rows (Changes moved) =
    AreHeldBy member acts table.held × IsChange limit acts log table (change_of moved rows)
