-- The table that acts will leave, told before they are stored: what a fetch will take of it. Private clauses cite this
-- alone.
-- For example where `a` holds 0 to 2 and accepts 0, a fetch behind it begins at 1, and where it releases 1 it takes that
-- again.
use Rattle.std.specs.Prelude.{◌≡◌, ◌≤◌, ℕ, pos, List, [], vec_len, IfSome, IsSome, Option, None, Some, nat_lt, unwrap_or, if◌then◌else◌}
use Rattle.std.specs.BTreeMap.{is_at}
use Rattle.std.specs.Cmp.Lexicographic.{slice_cmp}
use Rattle.std.specs.Map.{lookup}
use Rattle.std.specs.Ordering.{nat_cmp}
use Rattle.ack_ranges.specs.Batches.{IsWellFormed}
use Rattle.ack_ranges.specs.Faults.{IsFirstFault}
use Rattle.share_model.specs.Held.{Held}
use Rattle.share_model.specs.Logs.{Batch}
use Rattle.share_model.specs.Rooms.{Filled}
use Rattle.share_model.specs.Runs.{row_at}
use Rattle.share_model.specs.ShareStates.{ShareState}
use Rattle.share_model.specs.declared.ack.AckBatch.{AckBatch}
use Rattle.share_model.specs.declared.run.Run.{Run}
use Rattle.share_model.specs.declared.visit.AckOutcome.{AckOutcome}
use Rattle.share_model.specs.declared.visit.Visit.{Visit}
use Rattle.share_model.specs.declared.visit.VisitAnswer.{VisitAnswer}
use Rattle.share_part.specs.Acknowledging.{NameNone, NameOne}
use Rattle.share_part.specs.Collecting.{IsPlanOf}
use Rattle.share_part.specs.Named.{named_from}
use Rattle.share_part.specs.Settling.{Acts, AreHeldBy, Change, IsChange, IsLeastMissing, change_of, held_after, stored_after}
use Rattle.share_part.specs.Tables.{Table, table_of}
use Rattle.share_part.specs.Walks.{acquired}
use Rattle.share_part.specs.declared.acks.Acks.{Acks}
use Rattle.share_part.specs.declared.acks.Acks.TheVariants.{Malformed, Empty, NotHeld, Changes}
use Rattle.share_part.specs.declared.limits.Limits.{Limits}
use Rattle.share_part.specs.declared.plan.Plan.{Plan}
use Rattle.share_part.specs.declared.plan.Ready.{Ready}

-- the start behind a change
abbrev pub start_behind : Change → ℕ → ℕ
start_behind change start = unwrap_or change.start start

-- the state that a change leaves of a table
pub record IsLeftBy (limit : ℕ) (acts : Acts) (table : Table) (change : Change) (next : ShareState) : Type 0 where
  pub start : next.start ≡ pos (start_behind change table.start)
  pub rows : (offset : ℕ) → row_at next.runs offset
      ≡ (if nat_lt offset (start_behind change table.start) then None else stored_after limit acts table offset)

-- what a fetch will take behind a change
abbrev pub IsPlanBehind : ℕ → Acts → List Batch → Table → Change → Limits → Plan → Type 0
IsPlanBehind limit acts log table change limits plan = (next : ShareState) → IsLeftBy limit acts table change next →
    IsPlanOf log plan (acquired log (table_of next (held_after acts table.held)) limits)

-- the state of a group, and what acts change of it
abbrev pub HasChange : ℕ → Acts → List Batch → Held → Option ShareState → Change → Type 0
HasChange limit acts log held o change =
    (state : ShareState) × (o ≡ Some state) × IsChange limit acts log (table_of state held) change

-- what acknowledgements of a member come to, where the log starts there, for a group that holds this, and has this state, if it has one;
-- `rows` are those that are to be stored
abbrev pub JudgesGiven : ℕ → (start : ℕ) → (member : List ℕ) → List AckBatch → List Batch → Held → Option ShareState → (rows : List Run) → Acks
    → Type 0
JudgesGiven limit start member acks log held state rows (Malformed fault) = IsFirstFault acks fault
JudgesGiven limit start member acks log held state rows Empty = IsWellFormed acks × NameNone (named_from start acks)
JudgesGiven limit start member acks log held state rows (NotHeld least) = IsWellFormed acks × NameOne (named_from start acks)
    × IsLeastMissing member (named_from start acks) held least
JudgesGiven limit start member acks log held state rows (Changes moved) = IsWellFormed acks × NameOne (named_from start acks)
    × AreHeldBy member (named_from start acks) held
    × HasChange limit (named_from start acks) log held state (change_of moved rows)

-- the same of those of a visit
abbrev pub JudgesAcks : ℕ → (start : ℕ) → Visit → List Batch → Held → Option ShareState → (rows : List Run) → Acks → Type 0
JudgesAcks limit start visit log held state rows acks =
    JudgesGiven limit start visit.member visit.acks log held state rows acks

-- a group's window is there, and has memory set aside for so many more holds
abbrev pub HasSpare : {W : Type 0} → (W → ℕ) → List (List ℕ × W) → List ℕ → ℕ → Type 0
HasSpare spare windows group n = IsSome (lookup (is_at (slice_cmp nat_cmp group)) windows)
    × IfSome (lookup (is_at (slice_cmp nat_cmp group)) windows) (λ w. n ≤ spare w)

-- memory is set aside for what a fetch will take: in the window of the group for its holds, and in the room for the
-- bytes of its batches
abbrev pub HasRoomFor : {W : Type 0} → (W → ℕ) → List (List ℕ × W) → List ℕ → Filled → Plan → Type 0
HasRoomFor spare windows group out plan = HasSpare spare windows group plan.count × (plan.size ≤ out.spare)

-- where the acknowledgements change something, what a fetch will take behind that
abbrev pub MovesBy : ℕ → (start : ℕ) → Visit → List Batch → Table → Limits → (rows : List Run) → Acks → Option Plan → Type 0
MovesBy limit start visit log table limits rows (Malformed fault) moves = moves ≡ None
MovesBy limit start visit log table limits rows Empty moves = moves ≡ None
MovesBy limit start visit log table limits rows (NotHeld least) moves = moves ≡ None
MovesBy limit start visit log table limits rows (Changes moved) None = ⊥
MovesBy limit start visit log table limits rows (Changes moved) (Some plan) =
    IsPlanBehind limit (named_from start visit.acks) log table (change_of moved rows) limits plan

-- few enough grants that an answer can tell them
abbrev pub IsTold : Plan → Type 0
IsTold plan = vec_len plan.grants ≤ 2001

-- a fetch of this table is planned, and memory is set aside for it
pub record IsPrepared {W : Type 0} (spare : W → ℕ) (windows : List (List ℕ × W)) (group : List ℕ) (log : List Batch)
    (table : Table) (limits : Limits) (plan : Plan) (out : Filled) : Type 0 where
  pub empty : out.bytes ≡ []
  pub is : IsPlanOf log plan (acquired log table limits)
  pub room : HasRoomFor spare windows group out plan
  pub told : IsTold plan

-- a fetch of a group that has this table is ready, whatever becomes of the write before it
pub record IsReady {W : Type 0} (spare : W → ℕ) (windows : List (List ℕ × W)) (limit start : ℕ) (visit : Visit)
    (log : List Batch) (table : Table) (rows : List Run) (acks : Acks) (limits : Limits) (ready : Ready) : Type 0 where
  pub empty : ready.out.bytes ≡ []
  pub stays : IsPlanOf log ready.stays (acquired log table limits)
  pub moves : MovesBy limit start visit log table limits rows acks ready.moves
  pub room : HasRoomFor spare windows visit.group ready.out ready.stays
  pub room_behind : IfSome ready.moves (HasRoomFor spare windows visit.group ready.out)
  pub told : IsTold ready.stays
  pub told_behind : IfSome ready.moves IsTold

-- an answer with another outcome of the acknowledgements
abbrev pub with_ack : AckOutcome → VisitAnswer → VisitAnswer
with_ack ack a = record { ack = ack; then = a.then; grants = a.grants; batches = a.batches }
