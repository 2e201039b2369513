-- The bytes of a state record, of which each record has just these (this project's own). Numbers have their high byte first.
-- For example the snapshot of the state in `States.antt` has 62 bytes, of which 00 01 0002 67 31 are the first; that of a state which
-- doesn't tell how many rows are complete has 54, of which 00 00 0002 67 31 are the first; and the head of generation 1 is
-- 03 00 0000000000000001.
use Rattle.std.specs.Prelude.{◌-◌, ◌^◌, ◌<◌, ℕ, ℤ, pos, negsuc, List, [], ◌∷◌, ◌++◌, length, Option, Some, None}
use Rattle.std.specs.Int.{w16, w32, w64, to_be_bytes}
use Rattle.std.specs.List.{flat_map}
use Rattle.share_model.specs.Keys.{KeyParts}
use Rattle.share_model.specs.Rows.{state_number}
use Rattle.share_model.specs.declared.run.Run.{Run}
use Rattle.state_records.specs.States.{StateParts, IsKey, IsState}
use Rattle.state_records.specs.declared.record.StateRecord.{StateRecord}
use Rattle.state_records.specs.declared.record.StateRecord.TheVariants.{Snapshot, Update, Removal, Head, Seal}

-- two bytes of length, and the name
abbrev pub name_bytes : List ℕ → List ℕ
name_bytes name = to_be_bytes w16 (length name) ++ name

-- the group, the topic's 16 bytes and the partition in four
abbrev pub key_bytes : KeyParts → List ℕ
key_bytes key = name_bytes key.group ++ (key.topic ++ to_be_bytes w32 key.part)

-- an epoch, which isn't negative
abbrev pub epoch_number : ℤ → ℕ
epoch_number (pos n) = n
epoch_number (negsuc n) = 0

-- a start, which isn't negative or is -1, in two's complement of 64 bits
abbrev pub start_number : ℤ → ℕ
start_number (pos n) = n
start_number (negsuc n) = 2 ^ 64 - 1

-- the version of a snapshot or an update
abbrev pub version_of : Option ℕ → ℕ
version_of None = 0
version_of (Some complete) = 1

-- the number of complete rows, which version 1 alone has, in eight bytes
abbrev pub complete_bytes : Option ℕ → List ℕ
complete_bytes None = []
complete_bytes (Some complete) = to_be_bytes w64 complete

-- both offsets in eight bytes, the state in one and the count in two
abbrev pub run_bytes : Run → List ℕ
run_bytes run = to_be_bytes w64 run.first ++ (to_be_bytes w64 run.last ++ ((state_number run.state ∷ []) ++ to_be_bytes w16 run.count))

-- a number of runs in four bytes, and runs
abbrev pub counted_runs : ℕ → List Run → List ℕ
counted_runs count runs = to_be_bytes w32 count ++ flat_map run_bytes runs

abbrev pub runs_bytes : List Run → List ℕ
runs_bytes runs = counted_runs (length runs) runs

-- the key, the snapshot epoch, the state and leader epochs, the start, the number of complete rows, and the runs with a number before
-- them
abbrev pub counted_state : ℕ → StateParts → List ℕ
counted_state count state =
    key_bytes state.key ++ (to_be_bytes w64 state.snapshot ++ (to_be_bytes w32 (epoch_number state.state_epoch)
    ++ (to_be_bytes w32 (epoch_number state.leader_epoch) ++ (to_be_bytes w64 (start_number state.start)
    ++ (complete_bytes state.complete ++ counted_runs count state.runs)))))

abbrev pub state_bytes : StateParts → List ℕ
state_bytes state = counted_state (length state.runs) state

-- the kind, the version and the fields
abbrev pub record_bytes : StateRecord → List ℕ
record_bytes (Snapshot state) = 0 ∷ version_of state.complete ∷ state_bytes state
record_bytes (Update state) = 1 ∷ version_of state.complete ∷ state_bytes state
record_bytes (Removal key) = 2 ∷ 0 ∷ key_bytes key
record_bytes (Head generation) = 3 ∷ 0 ∷ to_be_bytes w64 generation
record_bytes Seal = 4 ∷ 0 ∷ []

-- the records that there are
abbrev pub IsRecord : StateRecord → Type 0
IsRecord (Snapshot state) = IsState state
IsRecord (Update state) = IsState state
IsRecord (Removal key) = IsKey key
IsRecord (Head generation) = generation < 2 ^ 64
IsRecord Seal = Unit {0}
