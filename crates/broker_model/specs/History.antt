-- Foreign state as the history of what was accepted (KIP-932: InitializeShareGroupState, WriteShareGroupState and
-- DeleteShareGroupState; that starts are kept so is this project's own).
-- For example a key is initialised with epoch 1 and start 0, and then three writes are accepted: 0 to 9 acknowledged; 5 to 5
-- available; no batch with start 4. Offset 3 has no row, nor has it one after a later write with start 0; offset 5 has the row of
-- the second write, and 6 that of the first. Once the key is deleted its list is empty, and there is no key.
use Rattle.std.specs.Prelude.{◌≡◌, ◌↔◌, ℕ, ℤ, pos, negsuc, Bool, false, List, [], ◌∷◌, ◌++◌, map, Option, None, Some, if◌then◌else◌}
use Rattle.std.specs.List.{AllByRecursion}
use Rattle.std.specs.BTreeMap.{is_at}
use Rattle.share_model.specs.Keys.{KeyParts, key_cmp}
use Rattle.share_model.specs.Rows.{state_number}
use Rattle.share_model.specs.Runs.{IsCanonical, row_at}
use Rattle.share_model.specs.ShareStates.{ShareState, start_after, is_below, last_row}
use Rattle.share_model.specs.ForeignRules.{ShareStates, Does, share_state_at, runs_of}
use Rattle.share_model.specs.declared.foreign.ForeignAnswer.{ForeignAnswer}
use Rattle.share_model.specs.declared.foreign.ForeignOp.{ForeignOp}
use Rattle.share_model.specs.declared.foreign.ForeignOp.TheVariants.{Init, Read, Write, Delete}
use Rattle.share_model.specs.declared.foreign.StateBatch.{StateBatch}
use Rattle.share_model.specs.declared.row.Row.{Row}
use Rattle.share_model.specs.declared.run.Run.{Run}
use Rattle.foreign_coord.specs.Shards.{is_granted}

-- ---- calls

pub record Call : Type 0 where
  pub op : ForeignOp
  pub answer : ForeignAnswer

-- calls one after another by the rules, from these states to those
abbrev pub AreDone : ShareStates → List Call → ShareStates → Type 0
AreDone states [] last = last ≡ states
AreDone states (call ∷ calls) last = (mid : ShareStates) × Does states call.op call.answer mid × AreDone mid calls last

-- ---- the history of a key

-- An initialisation or a write that was accepted, as it was asked. A history is a list of these, the newest first.
pub data AcceptedCall : Type 0 where
  AcceptedInit : (state_epoch start : ℤ) → AcceptedCall
  AcceptedWrite : (state_epoch leader_epoch start : ℤ) (batches : List StateBatch) → AcceptedCall

abbrev pub is_of : KeyParts → KeyParts → Bool
is_of key other = is_at (key_cmp key) other

-- one accepted call more; a delete takes the key away
abbrev pub with_call : KeyParts → ForeignOp → List AcceptedCall → List AcceptedCall
with_call key (Init other state_epoch start) history = if is_of key other then AcceptedInit state_epoch start ∷ history else history
with_call key (Read other leader_epoch) history = history
with_call key (Write other state_epoch leader_epoch start batches) history =
    if is_of key other then AcceptedWrite state_epoch leader_epoch start batches ∷ history else history
with_call key (Delete other) history = if is_of key other then [] else history

-- The initialisations and writes of a key that were accepted since it was last made; `history` are those before these calls. A call is
-- accepted where it is answered with code 0.
abbrev pub history_after : KeyParts → List AcceptedCall → List Call → List AcceptedCall
history_after key history [] = history
history_after key history (call ∷ calls) = history_after key (if is_granted call.answer then with_call key call.op history else history) calls

-- the batch that gives the rows of a run
abbrev pub batch_of : Run → StateBatch
batch_of run = record { first = pos run.first; last = pos run.last; state = pos (state_number run.state); count = pos run.count }

-- A key that is read from a disk has the history of one initialisation and one write, which give its epochs, start and rows.
abbrev pub history_read : Option ShareState → List AcceptedCall
history_read None = []
history_read (Some state) =
    AcceptedWrite state.state_epoch state.leader_epoch state.start (map batch_of state.runs) ∷ AcceptedInit state.state_epoch state.start ∷ []

-- ---- what it gives

abbrev pub state_epoch_of : AcceptedCall → ℤ
state_epoch_of (AcceptedInit state_epoch start) = state_epoch
state_epoch_of (AcceptedWrite state_epoch leader_epoch start batches) = state_epoch

-- an initialised key has leader epoch 0
abbrev pub leader_epoch_of : AcceptedCall → ℤ
leader_epoch_of (AcceptedInit state_epoch start) = pos 0
leader_epoch_of (AcceptedWrite state_epoch leader_epoch start batches) = leader_epoch

-- the newest start that was given since the last initialisation; a write with start -1 gives none
abbrev pub start_of : List AcceptedCall → ℤ
start_of [] = negsuc 0
start_of (AcceptedInit state_epoch start ∷ earlier) = start
start_of (AcceptedWrite state_epoch leader_epoch start batches ∷ earlier) = start_after (start_of earlier) start

-- the row that these batches give an offset: that of the last of them which covers it
abbrev pub row_given : Option (List Run) → ℕ → Option Row
row_given None offset = None
row_given (Some runs) offset = last_row runs offset

-- a write with no batch that covers the offset
abbrev pub PassesOver : ℕ → AcceptedCall → Type 0
PassesOver offset (AcceptedInit state_epoch start) = ⊥
PassesOver offset (AcceptedWrite state_epoch leader_epoch start batches) = row_given (runs_of batches) offset ≡ None

-- The row of an offset is that of the latest write since the last initialisation with a batch that covers it, unless a start that the
-- key has had from that write on is above the offset.
pub record HasRow (history : List AcceptedCall) (offset : ℕ) (row : Row) : Type 0 where
  pub later : List AcceptedCall
  pub state_epoch : ℤ
  pub leader_epoch : ℤ
  pub start : ℤ
  pub batches : List StateBatch
  pub earlier : List AcceptedCall
  pub split : history ≡ later ++ (AcceptedWrite state_epoch leader_epoch start batches ∷ earlier)
  pub gives : row_given (runs_of batches) offset ≡ Some row
  pub latest : AllByRecursion (PassesOver offset) later
  pub starts : (newer since : List AcceptedCall) → later ≡ newer ++ since
      → is_below offset (start_of (since ++ (AcceptedWrite state_epoch leader_epoch start batches ∷ earlier))) ≡ false

-- the state of a key whose history this is; rows are told by their canonical runs
pub record IsStateOf (newest : AcceptedCall) (earlier : List AcceptedCall) (state : ShareState) : Type 0 where
  pub state_epoch : state.state_epoch ≡ state_epoch_of newest
  pub leader_epoch : state.leader_epoch ≡ leader_epoch_of newest
  pub start : state.start ≡ start_of (newest ∷ earlier)
  pub canonical : IsCanonical state.runs
  pub rows : (offset : ℕ) (row : Row) → row_at state.runs offset ≡ Some row ↔ HasRow (newest ∷ earlier) offset row

-- a key with no history isn't there
abbrev pub IsToldBy : List AcceptedCall → Option ShareState → Type 0
IsToldBy [] known = known ≡ None
IsToldBy (newest ∷ earlier) known = (state : ShareState) × (known ≡ Some state) × IsStateOf newest earlier state

-- After any calls from these states on, the states are, key by key, what their histories give.
abbrev pub StatesTellHistories : ShareStates → Type 0
StatesTellHistories first = (calls : List Call) (last : ShareStates) → AreDone first calls last →
    (key : KeyParts) → IsToldBy (history_after key (history_read (share_state_at first key)) calls) (share_state_at last key)
