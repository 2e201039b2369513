-- A record fits a frame.
use Rattle.std.proofs.Common.{◌≡◌, ◌≤◌, ◌*◌, refl, sym, subst, arith, ℕ, List, [], ◌∷◌, ◌++◌, length, length-append, ◌+◌, Bool, true, false, Option, Some, None, w32, w64}
use Rattle.std.specs.Int.{to_be_bytes}
use Rattle.std.specs.List.{flat_map}
use Rattle.gate_journal.specs.Frames.{IsFrame}
use Rattle.share_model.specs.Keys.{KeyParts}
use Rattle.share_model.specs.declared.run.Run.{Run}
use Rattle.state_records.specs.Spelling.{complete_bytes, epoch_number, start_number, key_bytes, run_bytes, runs_bytes, state_bytes, record_bytes}
use Rattle.state_records.specs.States.{StateParts, IsKey}
use Rattle.share_coord.specs.Reserved.{lent_record}
use Rattle.state_records.specs.declared.record.StateRecord.{StateRecord}
use Rattle.state_records.specs.declared.record.StateRecord.TheVariants.{Snapshot, Update, Removal}

key_size : (key : KeyParts) → IsKey key → length (key_bytes key) ≤ 277
key_size key is =
    omega (arith, length-append key.group (key.topic ++ to_be_bytes w32 key.part), length-append key.topic (to_be_bytes w32 key.part), is.group.few, is.topic)

run_size : (run : Run) → length (run_bytes run) ≡ 19
run_size run = refl

runs_size : (runs : List Run) → length (flat_map run_bytes runs) ≡ 19 * length runs
runs_size [] = refl
runs_size (x ∷ xs) = omega (arith, runs_size xs, run_size x, length-append (run_bytes x) (flat_map run_bytes xs))

complete_size : (complete : Option ℕ) → length (complete_bytes complete) ≤ 8
complete_size None = omega arith
complete_size (Some n) = let size : length (to_be_bytes w64 n) ≡ 8 = refl in omega (arith, size)

state_size : (state : StateParts) → IsKey state.key → length state.runs ≤ 1000000 → length (state_bytes state) ≤ 19000400
state_size state is few =
    omega (
      arith,
      key_size state.key is,
      runs_size state.runs,
      few,
      complete_size state.complete,
      length-append (complete_bytes state.complete) (runs_bytes state.runs),
      length-append (key_bytes state.key)
          (to_be_bytes w64 state.snapshot ++ (to_be_bytes w32 (epoch_number state.state_epoch)
          ++ (to_be_bytes w32 (epoch_number state.leader_epoch) ++ (to_be_bytes w64 (start_number state.start)
          ++ (complete_bytes state.complete ++ runs_bytes state.runs))))),
    )

-- a record of version 1, by the number of its runs
state_least : (state : StateParts) → IsKey state.key → length (state_bytes state) ≤ 313 + 19 * length state.runs
state_least state is =
    omega (
      arith,
      key_size state.key is,
      runs_size state.runs,
      complete_size state.complete,
      length-append (complete_bytes state.complete) (runs_bytes state.runs),
      length-append (key_bytes state.key)
          (to_be_bytes w64 state.snapshot ++ (to_be_bytes w32 (epoch_number state.state_epoch)
          ++ (to_be_bytes w32 (epoch_number state.leader_epoch) ++ (to_be_bytes w64 (start_number state.start)
          ++ (complete_bytes state.complete ++ runs_bytes state.runs))))),
    )

pub lent_size : (updates : Bool) (state : StateParts) → IsKey state.key → length (record_bytes (lent_record updates state)) ≤ 315 + 19 * length state.runs
lent_size true state is = omega (arith, state_least state is)
lent_size false state is = omega (arith, state_least state is)

pub update_fits : (r : StateRecord) (state : StateParts) → r ≡ Update state → IsKey state.key → length state.runs ≤ 1000000 → IsFrame (record_bytes r)
update_fits r state e is few = subst (λ (x : StateRecord). IsFrame (record_bytes x)) (sym e) (omega arith, omega (arith, state_size state is few))

pub snapshot_fits : (r : StateRecord) (state : StateParts) → r ≡ Snapshot state → IsKey state.key → length state.runs ≤ 1000000 → IsFrame (record_bytes r)
snapshot_fits r state e is few = subst (λ (x : StateRecord). IsFrame (record_bytes x)) (sym e) (omega arith, omega (arith, state_size state is few))

pub removal_fits : (r : StateRecord) (key : KeyParts) → r ≡ Removal key → IsKey key → IsFrame (record_bytes r)
removal_fits r key e is = subst (λ (x : StateRecord). IsFrame (record_bytes x)) (sym e) (omega arith, omega (arith, key_size key is))
