-- How many bytes keys, runs and states have.
use Rattle.std.proofs.Common.{◌≡◌, ℕ, ◌+◌, ◌*◌, List, [], ◌∷◌, ◌++◌, length, refl, arith}
use Rattle.std.proofs.lemmas.List.{length-append}
use Rattle.std.specs.Int.{w32, w64, to_be_bytes}
use Rattle.std.specs.List.{flat_map}
use Rattle.share_model.specs.Keys.{KeyParts}
use Rattle.share_model.specs.declared.run.Run.{Run}
use Rattle.state_records.specs.States.{StateParts}
use Rattle.state_records.specs.Spelling.{complete_bytes, counted_runs, epoch_number, key_bytes, run_bytes, start_number, state_bytes}

pub key_length : (k : KeyParts) → length (key_bytes k) ≡ length k.group + (length k.topic + 6)
key_length k =
    let whole : length (k.group ++ (k.topic ++ to_be_bytes w32 k.part)) ≡ length k.group + length (k.topic ++ to_be_bytes w32 k.part) =
    length-append k.group (k.topic ++ to_be_bytes w32 k.part) in
    let end : length (k.topic ++ to_be_bytes w32 k.part) ≡ length k.topic + 4 = length-append k.topic (to_be_bytes w32 k.part) in
    omega (arith, whole, end)

pub runs_length : (runs : List Run) → length (flat_map run_bytes runs) ≡ 19 * length runs
runs_length [] = refl
runs_length (run ∷ runs) =
    let one : length (flat_map run_bytes (run ∷ runs)) ≡ 19 + length (flat_map run_bytes runs) = length-append (run_bytes run) (flat_map run_bytes runs) in
    omega (arith, one, runs_length runs)

pub state_length : (s : StateParts) → length (state_bytes s) ≡ length (key_bytes s.key) + (28 + (length (complete_bytes s.complete) + 19 * length s.runs))
state_length s =
    let r6 = counted_runs (length s.runs) s.runs in
    let r5 = complete_bytes s.complete ++ r6 in
    let r4 = to_be_bytes w64 (start_number s.start) ++ r5 in
    let r3 = to_be_bytes w32 (epoch_number s.leader_epoch) ++ r4 in
    let r2 = to_be_bytes w32 (epoch_number s.state_epoch) ++ r3 in
    let r1 = to_be_bytes w64 s.snapshot ++ r2 in
    let e0 : length (state_bytes s) ≡ length (key_bytes s.key) + length r1 = length-append (key_bytes s.key) r1 in
    let e1 : length r1 ≡ 8 + length r2 = length-append (to_be_bytes w64 s.snapshot) r2 in
    let e2 : length r2 ≡ 4 + length r3 = length-append (to_be_bytes w32 (epoch_number s.state_epoch)) r3 in
    let e3 : length r3 ≡ 4 + length r4 = length-append (to_be_bytes w32 (epoch_number s.leader_epoch)) r4 in
    let e4 : length r4 ≡ 8 + length r5 = length-append (to_be_bytes w64 (start_number s.start)) r5 in
    let e5 : length r5 ≡ length (complete_bytes s.complete) + length r6 = length-append (complete_bytes s.complete) r6 in
    let e6 : length r6 ≡ 4 + length (flat_map run_bytes s.runs) = length-append (to_be_bytes w32 (length s.runs)) (flat_map run_bytes s.runs) in
    omega (arith, e0, e1, e2, e3, e4, e5, e6, runs_length s.runs)
