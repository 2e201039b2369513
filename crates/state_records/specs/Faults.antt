-- Where bytes that are no record are wrong, told by the spelling of records (this project's own): what stands before the
-- fault begins some record, and no record has what stands at it.
-- For example 53 bytes of a snapshot of 54 are wrong at byte 50: the bytes before begin that snapshot, and the number of runs
-- there, which is a field of four bytes, is cut. Where 05 stands in front there is a fault at 0, since no record begins with it.
use Rattle.std.specs.Prelude.{◌≡◌, ◌⊎◌, ◌+◌, ◌-◌, ◌^◌, ◌<◌, ◌≤◌, ℕ, zero, suc, List, [], ◌∷◌, ◌++◌, length, take, Option, Some, None}
use Rattle.std.specs.Int.{w64, to_be_bytes}
use Rattle.share_model.specs.Keys.{KeyParts}
use Rattle.share_model.specs.declared.run.Run.{Run}
use Rattle.state_records.specs.States.{StateParts}
use Rattle.state_records.specs.Spelling.{key_bytes, version_of, counted_state, record_bytes, IsRecord}
use Rattle.state_records.specs.declared.record.StateRecord.{StateRecord}
use Rattle.state_records.specs.declared.record.StateRecord.TheVariants.{Snapshot, Update, Removal, Head, Seal}

abbrev pub runs_of : StateRecord → List Run
runs_of (Snapshot state) = state.runs
runs_of (Update state) = state.runs
runs_of (Removal key) = []
runs_of (Head generation) = []
runs_of Seal = []

-- the bytes of a record, but with this number of runs before its runs
abbrev pub counted_bytes : ℕ → StateRecord → List ℕ
counted_bytes count (Snapshot state) = 0 ∷ version_of state.complete ∷ counted_state count state
counted_bytes count (Update state) = 1 ∷ version_of state.complete ∷ counted_state count state
counted_bytes count (Removal key) = 2 ∷ 0 ∷ key_bytes key
counted_bytes count (Head generation) = 3 ∷ 0 ∷ to_be_bytes w64 generation
counted_bytes count Seal = 4 ∷ 0 ∷ []

-- the last run leaves fewer offsets than so many runs need; offsets are below 2 ^ 63
abbrev pub LeavesTooFew : List Run → ℕ → Type 0
LeavesTooFew [] more = ⊥
LeavesTooFew (run ∷ []) more = 2 ^ 63 ≤ run.last + more
LeavesTooFew (run ∷ next ∷ runs) more = LeavesTooFew (next ∷ runs) more

-- The bytes of some record begin so. Or more runs are counted than the record has, and its last run leaves no offsets for
-- them.
pub record Begins (front : List ℕ) : Type 0 where
  pub found : StateRecord
  pub count : ℕ
  pub rest : List ℕ
  pub is : IsRecord found
  pub few : count < 2 ^ 32
  pub counted : (count ≡ length (runs_of found)) ⊎ LeavesTooFew (runs_of found) (count - length (runs_of found))
  pub bytes : counted_bytes count found ≡ front ++ rest

-- the fields of a run: the run as a whole, its last offset, its state and its count
abbrev pub IsRunField : ℕ → ℕ → Type 0
IsRunField from to = ((from ≡ 0) × (to ≡ 19)) ⊎ (((from ≡ 8) × (to ≡ 16)) ⊎ (((from ≡ 16) × (to ≡ 17)) ⊎ ((from ≡ 17) × (to ≡ 19))))

-- the fields of so many runs, one behind the other
abbrev pub IsRunsField : ℕ → ℕ → ℕ → Type 0
IsRunsField zero from to = ⊥
IsRunsField (suc n) from to = IsRunField from to ⊎ ((19 ≤ from) × (19 ≤ to) × IsRunsField n (from - 19) (to - 19))

-- fields of these sizes, and behind them so many runs
abbrev pub IsFieldIn : List ℕ → ℕ → ℕ → ℕ → Type 0
IsFieldIn [] n from to = IsRunsField n from to
IsFieldIn (size ∷ sizes) n from to = ((from ≡ 0) × (to ≡ size)) ⊎ ((size ≤ from) × (size ≤ to) × IsFieldIn sizes n (from - size) (to - size))

-- the group with its length, the topic and the partition
abbrev pub key_sizes : KeyParts → List ℕ → List ℕ
key_sizes key sizes = (2 + length key.group) ∷ length key.topic ∷ 4 ∷ sizes

-- the number of complete rows, if it is told, before others
abbrev pub complete_sizes : Option ℕ → List ℕ → List ℕ
complete_sizes None sizes = sizes
complete_sizes (Some complete) sizes = 8 ∷ sizes

-- the key, the snapshot epoch, both other epochs, the start, the number of complete rows and the number of runs
abbrev pub state_sizes : StateParts → List ℕ
state_sizes state = key_sizes state.key (8 ∷ 4 ∷ 4 ∷ 8 ∷ complete_sizes state.complete (4 ∷ []))

-- those of a state; or the key; or the generation; or nothing
abbrev pub body_sizes : StateRecord → List ℕ
body_sizes (Snapshot state) = state_sizes state
body_sizes (Update state) = state_sizes state
body_sizes (Removal key) = key_sizes key []
body_sizes (Head generation) = 8 ∷ []
body_sizes Seal = []

-- the kind and the version before them
abbrev pub field_sizes : StateRecord → List ℕ
field_sizes found = 1 ∷ 1 ∷ body_sizes found

-- a field of the record takes the bytes from one place to another
abbrev pub IsField : StateRecord → ℕ → ℕ → Type 0
IsField found from to = IsFieldIn (field_sizes found) (length (runs_of found)) from to

-- the bytes are wrong at this place
pub record IsWrongAt (bytes : List ℕ) (place : ℕ) : Type 0 where
  pub within : place ≤ length bytes
  pub before : Begins (take place bytes)
  pub none : (found : StateRecord) (to : ℕ) (rest : List ℕ) → IsRecord found → IsField found place to → to ≤ length bytes →
      record_bytes found ≡ take to bytes ++ rest → ⊥
