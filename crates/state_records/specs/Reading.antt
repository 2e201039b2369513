-- Reading a state record from left to right: the value, or the place of the first field that is wrong (this project's own).
-- Which bytes are read at all is said by `Spelling.antt`; this says of the others where they are wrong, and `Faults.antt` what
-- such a place means for the spelling.
-- For example 53 bytes of a snapshot of 54 are wrong at byte 50, where the number of runs begins, 61 bytes of one of version 1, of
-- 62, are wrong at byte 58, and an update whose second run begins where the first one ends is wrong at the second's first byte, 73.
use Rattle.std.specs.Prelude.{◌≡◌, ◌+◌, ◌-◌, ◌^◌, ℕ, zero, suc, ℤ, pos, negsuc, Bool, true, false, ◌==◌, ◌&&◌, ◌||◌, List, [], ◌∷◌}
use Rattle.std.specs.Prelude.{length, take, Option, Some, None, Result, Ok, Err, nat_le, nat_lt, if◌then◌else◌}
use Rattle.std.specs.Int.{Width, w16, w32, w64, byte_len, from_be_bytes}
use Rattle.std.specs.Str.{is_utf8}
use Rattle.flex_fields.specs.Reading.{At, past}
use Rattle.share_model.specs.Keys.{KeyParts}
use Rattle.share_model.specs.Rows.{state_of}
use Rattle.share_model.specs.declared.row.RowState.{RowState}
use Rattle.share_model.specs.declared.run.Run.{Run}
use Rattle.offset_runs.specs.Parts.{touches}
use Rattle.state_records.specs.States.{StateParts}
use Rattle.state_records.specs.declared.fault.RecordFault.{RecordFault}
use Rattle.state_records.specs.declared.fault.RecordFault.TheVariants as faults
use Rattle.state_records.specs.declared.record.StateRecord.{StateRecord}
use Rattle.state_records.specs.declared.record.StateRecord.TheVariants.{Snapshot, Update, Removal, Head, Seal}

-- the first fault is the answer; a fault is a place
infixl 10 ◌>>=◌
abbrev pub ◌>>=◌ : {A B : Type 0} → Result A ℕ → (A → Result B ℕ) → Result B ℕ
(Ok x) >>= f = f x
(Err place) >>= f = Err place

-- what a function returned is what reading gives, unless memory ran out
abbrev pub Fails : {Y : Type 0} → RecordFault → Result Y ℕ → Type 0
Fails faults.NoMemory read = Unit {0}
Fails (faults.BadState place) read = read ≡ Err place

abbrev pub Gives : {X Y : Type 0} → (X → Y) → Result X RecordFault → Result Y ℕ → Type 0
Gives view (Ok x) read = read ≡ Ok (view x)
Gives view (Err e) read = Fails e read

-- the same of a reader, which stands behind what it read
abbrev pub Moves : {X Y : Type 0} → (X → Y) → At → Result X RecordFault → Result (Y × At) ℕ → Type 0
Moves view new (Ok x) read = read ≡ Ok (view x, new)
Moves view new (Err e) read = Fails e read

-- what a reader reads, seen by f
abbrev pub as_at : {A B : Type 0} → (A → B) → (At → Result (A × At) ℕ) → At → Result (B × At) ℕ
as_at f read at = do
  x ← read at
  Ok (f x.0, x.1)

-- one after the other
abbrev pub then_at : {A B : Type 0} → (At → Result (A × At) ℕ) → (At → Result (B × At) ℕ) → At → Result ((A × B) × At) ℕ
then_at first second at = do
  a ← first at
  b ← second a.1
  Ok ((a.0, b.0), b.1)

-- what passes a test; else the fault is at the field's first byte
abbrev pub only_at : {A : Type 0} → (A → Bool) → (At → Result (A × At) ℕ) → At → Result (A × At) ℕ
only_at test read at = do
  x ← read at
  if test x.0 then Ok x else Err at.place

abbrev pub byte_in : ℕ → List ℕ → Result (ℕ × List ℕ) ℕ
byte_in place [] = Err place
byte_in place (b ∷ bytes) = Ok (b, bytes)

abbrev pub byte_at : At → Result (ℕ × At) ℕ
byte_at at = do
  b ← byte_in at.place at.left
  Ok (b.0, record { place = at.place + 1; left = b.1 })

-- so many bytes
abbrev pub raw_at : ℕ → At → Result (List ℕ × At) ℕ
raw_at n at = if nat_lt (length at.left) n then Err at.place else Ok (take n at.left, past n at)

-- an unsigned number of this width, high byte first
abbrev pub number_at : Width → At → Result (ℕ × At) ℕ
number_at w at = if nat_lt (length at.left) (byte_len w) then Err at.place else Ok (from_be_bytes w (take (byte_len w) at.left), past (byte_len w) at)

-- one that is below a limit
abbrev pub below_at : Width → ℕ → At → Result (ℕ × At) ℕ
below_at w limit at = only_at (λ n. nat_lt n limit) (number_at w) at

-- a length and that many bytes, 1 to 255 of UTF-8: one field
abbrev pub is_name : List ℕ → Bool
is_name bytes = (nat_le 1 (length bytes) && nat_le (length bytes) 255) && is_utf8 bytes

unfoldable pub name_at : At → Result (List ℕ × At) ℕ
name_at at = do
  n ← number_at w16 at
  if nat_lt (length n.1.left) n.0 then Err at.place else
      if is_name (take n.0 n.1.left) then Ok (take n.0 n.1.left, past n.0 n.1) else Err at.place

abbrev pub key_of : List ℕ × (List ℕ × ℕ) → KeyParts
key_of x = record { group = x.0; topic = x.1.0; part = x.1.1 }

unfoldable pub key_at : At → Result (KeyParts × At) ℕ
key_at at = as_at key_of (then_at name_at (then_at (raw_at 16) (below_at w32 (2 ^ 31)))) at

unfoldable pub epoch_at : At → Result (ℤ × At) ℕ
epoch_at at = as_at pos (below_at w32 (2 ^ 31)) at

-- the offset that a number stands for: 2 ^ 64 - 1 is -1
abbrev pub start_of : ℕ → Option ℤ
start_of n = if nat_lt n (2 ^ 63) then Some (pos n) else if n == 2 ^ 64 - 1 then Some (negsuc 0) else None

abbrev pub found_at : {A : Type 0} → ℕ → Option A → At → Result (A × At) ℕ
found_at place None at = Err place
found_at place (Some x) at = Ok (x, at)

unfoldable pub start_at : At → Result (ℤ × At) ℕ
start_at at = do
  n ← number_at w64 at
  found_at at.place (start_of n.0) n.1

-- the number of complete rows, which version 1 alone has
unfoldable pub complete_at : ℕ → At → Result (Option ℕ × At) ℕ
complete_at zero at = Ok (None, at)
complete_at (suc n) at = as_at (λ k. Some k) (number_at w64) at

unfoldable pub row_state_at : At → Result (RowState × At) ℕ
row_state_at at = do
  n ← byte_at at
  found_at at.place (state_of n.0) n.1

-- a run behind the one before it
abbrev pub is_behind : Option Run → ℕ → Bool
is_behind None first = true
is_behind (Some run) first = nat_lt run.last first

abbrev pub could_join : Option Run → Run → Bool
could_join None run = false
could_join (Some before) run = touches before run

-- Offsets are signed, and a run goes forward: its last offset is neither negative nor below its first one.
abbrev pub is_backward : ℕ → ℕ → Bool
is_backward first last = nat_le (2 ^ 63) last || nat_lt last first

-- Offsets, state and count. A run that isn't in order, or could be joined with the one before it, is a fault at its
-- first byte, which comes before the faults of its later fields.
unfoldable pub run_at : Option Run → At → Result (Run × At) ℕ
run_at before at = do
  first ← only_at (is_behind before) (below_at w64 (2 ^ 63)) at
  last ← number_at w64 first.1
  if is_backward first.0 last.0 then Err at.place else do
    state ← row_state_at last.1
    count ← below_at w16 (2 ^ 15) state.1
    if could_join before (record { first = first.0; last = last.0; state = state.0; count = count.0 }) then Err at.place
        else Ok (record { first = first.0; last = last.0; state = state.0; count = count.0 }, count.1)

unfoldable pub runs_at : ℕ → Option Run → At → Result (List Run × At) ℕ
runs_at zero before at = Ok ([], at)
runs_at (suc n) before at = do
  run ← run_at before at
  runs ← runs_at n (Some run.0) run.1
  Ok (run.0 ∷ runs.0, runs.1)

-- the number of runs, and the runs
unfoldable pub all_runs_at : At → Result (List Run × At) ℕ
all_runs_at at = do
  n ← number_at w32 at
  runs_at n.0 None n.1

abbrev pub state_of_parts : KeyParts × (ℕ × (ℤ × (ℤ × (ℤ × (Option ℕ × List Run))))) → StateParts
state_of_parts x = record {
  key = x.0;
  snapshot = x.1.0;
  state_epoch = x.1.1.0;
  leader_epoch = x.1.1.1.0;
  start = x.1.1.1.1.0;
  complete = x.1.1.1.1.1.0;
  runs = x.1.1.1.1.1.1;
}

unfoldable pub state_at : ℕ → At → Result (StateParts × At) ℕ
state_at version at = as_at state_of_parts
    (then_at key_at (then_at (number_at w64) (then_at epoch_at (then_at epoch_at (then_at start_at (then_at (complete_at version) all_runs_at)))))) at

-- the fields of a kind and a version
unfoldable pub fields_at : ℕ → ℕ → At → Result (StateRecord × At) ℕ
fields_at zero version at = as_at Snapshot (state_at version) at
fields_at (suc zero) version at = as_at Update (state_at version) at
fields_at (suc (suc zero)) version at = as_at (λ k. Removal k) key_at at
fields_at (suc (suc (suc zero))) version at = as_at (λ g. Head g) (number_at w64) at
fields_at (suc (suc (suc (suc n)))) version at = Ok (Seal, at)

-- how many versions a kind has: 0 and 1 those of a state, and else 0
unfoldable pub versions : ℕ → ℕ
versions zero = 2
versions (suc zero) = 2
versions (suc (suc n)) = 1

-- a kind of 0 to 4, a version of that kind, the fields, and nothing behind them
unfoldable pub record_at : List ℕ → Result StateRecord ℕ
record_at bytes = do
  kind ← only_at (λ n. nat_lt n 5) byte_at (record { place = 0; left = bytes })
  version ← only_at (λ n. nat_lt n (versions kind.0)) byte_at kind.1
  fields ← fields_at kind.0 version.0 version.1
  if length fields.1.left == 0 then Ok fields.0 else Err fields.1.place
