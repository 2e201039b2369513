-- Foreign state with its rows: what each share-group state call on a key that this broker doesn't host answers and leaves (KIP-932,
-- the share-group state calls; the limit of 1000000 runs is this project's own).
-- For example a write with leader epoch 3 on a key that knows 4 is answered with code 74, and a later batch of one write wins over an
-- earlier one: 0 to 2^62 acknowledged and then 5 available leave three runs.
use Rattle.std.specs.Prelude.{◌≡◌, ◌≢◌, ◌⊎◌, ◌≤◌, ◌<◌, ℕ, ℤ, pos, negsuc, List, [], ◌∷◌, length, max, Option, Some, None, int_le, int_lt, ◌&&◌, ◌||◌, not, if◌then◌else◌}
use Rattle.std.specs.List.{list_all}
use Rattle.std.specs.Map.{lookup, remove_entry}
use Rattle.std.specs.BTreeMap.{insert_entry, is_at}
use Rattle.share_model.specs.Keys.{KeyParts, key_cmp}
use Rattle.share_model.specs.Rows.{state_of}
use Rattle.share_model.specs.ShareStates.{ShareState, AreWritten, AreLaid, start_after, is_writable}
use Rattle.share_model.specs.ErrorCodes.{NONE, INVALID_REQUEST, UNKNOWN_TOPIC_OR_PARTITION, FENCED_LEADER_EPOCH, FENCED_STATE_EPOCH}
use Rattle.share_model.specs.declared.fault.Code.{Code}
use Rattle.share_model.specs.declared.foreign.ForeignAnswer.{ForeignAnswer}
use Rattle.share_model.specs.declared.foreign.ForeignOp.{ForeignOp}
use Rattle.share_model.specs.declared.foreign.ForeignOp.TheVariants.{Init, Read, Write, Delete}
use Rattle.share_model.specs.declared.foreign.StateBatch.{StateBatch}
use Rattle.share_model.specs.declared.row.RowState.{RowState}
use Rattle.share_model.specs.declared.run.Run.{Run}

-- the states by their keys, in the order of the keys
abbrev pub ShareStates : Type 0
ShareStates = List (KeyParts × ShareState)

abbrev pub share_state_at : ShareStates → KeyParts → Option ShareState
share_state_at states key = lookup (is_at (key_cmp key)) states

-- an answer that tells nothing but its code
abbrev pub code_alone : Code → ForeignAnswer
code_alone code = record { code = code; state_epoch = pos 0; start = negsuc 0; runs = [] }

-- ---- batches

-- a number that isn't negative
abbrev pub size_of : ℤ → ℕ
size_of (pos n) = n
size_of (negsuc n) = 0

abbrev pub run_with : StateBatch → Option RowState → Option Run
run_with batch None = None
run_with batch (Some state) = Some (record { first = size_of batch.first; last = size_of batch.last; state = state; count = size_of batch.count })

-- The run that a batch stands for. A batch is bad unless 0 <= first <= last, its state is 0, 2 or 4, and its count is at least 0.
abbrev pub run_of : StateBatch → Option Run
run_of batch =
    if int_le (pos 0) batch.first && (int_le batch.first batch.last && (int_le (pos 0) batch.state && int_le (pos 0) batch.count))
    then run_with batch (state_of (size_of batch.state)) else None

abbrev pub joined_runs : Option Run → Option (List Run) → Option (List Run)
joined_runs (Some run) (Some runs) = Some (run ∷ runs)
joined_runs (Some run) None = None
joined_runs None runs = None

-- those of all batches, in their order, if none is bad
abbrev pub runs_of : List StateBatch → Option (List Run)
runs_of [] = Some []
runs_of (batch ∷ batches) = joined_runs (run_of batch) (runs_of batches)

-- ---- codes: the first refusal that applies

abbrev pub init_known : Option ShareState → ℤ → Code
init_known None state_epoch = NONE
init_known (Some known) state_epoch = if int_lt state_epoch known.state_epoch then FENCED_STATE_EPOCH else NONE

abbrev pub init_code : Option ShareState → ℤ → ℤ → Code
init_code known state_epoch start = if int_lt state_epoch (pos 0) || int_lt start (negsuc 0) then INVALID_REQUEST else init_known known state_epoch

abbrev pub write_known : Option ShareState → ℤ → ℤ → Code
write_known None state_epoch leader_epoch = UNKNOWN_TOPIC_OR_PARTITION
write_known (Some known) state_epoch leader_epoch =
    if int_lt leader_epoch known.leader_epoch then FENCED_LEADER_EPOCH else init_known (Some known) state_epoch

abbrev pub write_code : Option ShareState → ℤ → ℤ → ℤ → List Run → Code
write_code known state_epoch leader_epoch start runs =
    if (int_lt state_epoch (pos 0) || int_lt leader_epoch (pos 0)) || (int_lt start (negsuc 0) || not (list_all is_writable runs))
    then INVALID_REQUEST else write_known known state_epoch leader_epoch

abbrev pub read_known : Option ShareState → ℤ → ForeignAnswer
read_known None leader_epoch = code_alone UNKNOWN_TOPIC_OR_PARTITION
read_known (Some known) leader_epoch =
    if int_lt leader_epoch known.leader_epoch then code_alone FENCED_LEADER_EPOCH
    else record { code = NONE; state_epoch = known.state_epoch; start = known.start; runs = known.runs }

abbrev pub read_share_state : Option ShareState → ℤ → ForeignAnswer
read_share_state known leader_epoch = if int_lt leader_epoch (pos 0) then code_alone INVALID_REQUEST else read_known known leader_epoch

-- ---- what a write leaves

pub record IsGranted (old : ShareStates) (key : KeyParts) (state_epoch leader_epoch start : ℤ) (runs : List Run) (new : ShareStates) : Type 0 where
  pub known : ShareState
  pub written : List Run
  pub laid : List Run
  pub is_known : share_state_at old key ≡ Some known
  pub are_written : AreWritten runs written
  pub are_laid : AreLaid (start_after known.start start) known.runs written laid
  pub few_written : length written ≤ 1000000
  pub few : length laid ≤ 1000000
  pub is : new ≡ insert_entry key_cmp old key (record { state_epoch = state_epoch; leader_epoch = leader_epoch; start = start_after known.start start; runs = laid })

-- the rows that are written, or those of the key after them, are more than 1000000 runs
pub record IsOverLimit (old : ShareStates) (key : KeyParts) (start : ℤ) (runs : List Run) : Type 0 where
  pub known : ShareState
  pub written : List Run
  pub laid : List Run
  pub is_known : share_state_at old key ≡ Some known
  pub are_written : AreWritten runs written
  pub are_laid : AreLaid (start_after known.start start) known.runs written laid
  pub many : 1000000 < max (length written) (length laid)

-- A write is refused with its code and changes nothing; is refused for its runs; or is granted.
abbrev pub Writes : ShareStates → KeyParts → ℤ → ℤ → ℤ → List Run → ForeignAnswer → ShareStates → Type 0
Writes old key state_epoch leader_epoch start runs answer new =
    ((write_code (share_state_at old key) state_epoch leader_epoch start runs ≢ NONE)
    × (answer ≡ code_alone (write_code (share_state_at old key) state_epoch leader_epoch start runs)) × (new ≡ old))
    ⊎ ((write_code (share_state_at old key) state_epoch leader_epoch start runs ≡ NONE)
    × (((answer ≡ code_alone INVALID_REQUEST) × IsOverLimit old key start runs × (new ≡ old))
    ⊎ ((answer ≡ code_alone NONE) × IsGranted old key state_epoch leader_epoch start runs new)))

abbrev pub WritesBatches : ShareStates → KeyParts → ℤ → ℤ → ℤ → Option (List Run) → ForeignAnswer → ShareStates → Type 0
WritesBatches old key state_epoch leader_epoch start None answer new = (answer ≡ code_alone INVALID_REQUEST) × (new ≡ old)
WritesBatches old key state_epoch leader_epoch start (Some runs) answer new = Writes old key state_epoch leader_epoch start runs answer new

-- An initialisation is refused with its code, or gives the key this state epoch and start, leader epoch 0 and no rows.
abbrev pub Initialises : ShareStates → KeyParts → ℤ → ℤ → ForeignAnswer → ShareStates → Type 0
Initialises old key state_epoch start answer new = (answer ≡ code_alone (init_code (share_state_at old key) state_epoch start))
    × (((init_code (share_state_at old key) state_epoch start ≢ NONE) × (new ≡ old))
    ⊎ ((init_code (share_state_at old key) state_epoch start ≡ NONE)
    × (new ≡ insert_entry key_cmp old key (record { state_epoch = state_epoch; leader_epoch = pos 0; start = start; runs = [] }))))

-- A call that no store fault met: its answer, and what stands after it.
abbrev pub Does : ShareStates → ForeignOp → ForeignAnswer → ShareStates → Type 0
Does old (Init key state_epoch start) answer new = Initialises old key state_epoch start answer new
Does old (Read key leader_epoch) answer new = (answer ≡ read_share_state (share_state_at old key) leader_epoch) × (new ≡ old)
Does old (Write key state_epoch leader_epoch start batches) answer new = WritesBatches old key state_epoch leader_epoch start (runs_of batches) answer new
Does old (Delete key) answer new = (answer ≡ code_alone NONE) × (new ≡ remove_entry (is_at (key_cmp key)) old)
