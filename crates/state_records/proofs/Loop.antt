-- Reading runs one after the other, as a loop does.
use Rattle.std.proofs.Common.{◌≡◌, ℕ, suc, ◌-◌, ◌+◌, ◌≤◌, ◌<◌, List, [], ◌∷◌, ◌++◌, Option, Some, Result}
use Rattle.std.proofs.Common.{Ok, Err, refl, sym, ap, ◌∙◌, append_assoc, append-nil, arith}
use Rattle.share_model.specs.declared.run.Run.{Run}
use Rattle.state_records.specs.declared.fault.RecordFault.{RecordFault}
use Rattle.state_records.specs.declared.fault.RecordFault.TheVariants as faults
use Rattle.flex_fields.specs.Reading.{At}
use Rattle.state_records.specs.Reading.{◌>>=◌, Fails, run_at, runs_at}

-- what was read before, and what is still read
abbrev pub with_front : List Run → Result (List Run × At) ℕ → Result (List Run × At) ℕ
with_front front read = read >>= λ x. Ok (front ++ x.0, x.1)

regroup : (front : List Run) (run : Run) (read : Result (List Run × At) ℕ) → with_front front (read >>= λ x. Ok (run ∷ x.0, x.1)) ≡ with_front (front ++ run ∷ []) read
regroup front run (Ok x) = ap (λ (runs : List Run). Ok (runs, x.1)) (simp append_assoc)
regroup front run (Err f) = refl

pub goes_on : (front : List Run) (count i : ℕ) (before : Option Run) (at : At) (run : Run) (after : At) (total : Result (List Run × At) ℕ) → i < count → run_at before at ≡ Ok (run, after)
    → with_front front (runs_at (count - i) before at) ≡ total → with_front (front ++ run ∷ []) (runs_at (count - (i + 1)) (Some run) after) ≡ total
unfolding runs_at
goes_on front count i before at run after total lt h so_far =
    let k : count - i ≡ suc (count - (i + 1)) = omega arith in
    let one : with_front front (runs_at (count - i) before at) ≡ with_front (front ++ run ∷ []) (runs_at (count - (i + 1)) (Some run) after) =
    rw (k, h) (regroup front run (runs_at (count - (i + 1)) (Some run) after)) in
    sym one ∙ so_far

pub ends : (e : RecordFault) (front : List Run) (count i : ℕ) (before : Option Run) (at : At) (total : Result (List Run × At) ℕ) → i < count → Fails e (run_at before at)
    → with_front front (runs_at (count - i) before at) ≡ total → Fails e total
unfolding runs_at
ends faults.NoMemory front count i before at total lt h so_far = tt
ends (faults.BadState f) front count i before at total lt h so_far =
    let k : count - i ≡ suc (count - (i + 1)) = omega arith in
    let one : with_front front (runs_at (count - i) before at) ≡ Err f = rw (k, h) refl in
    sym so_far ∙ one

pub is_done : (front : List Run) (count i : ℕ) (before : Option Run) (at : At) (total : Result (List Run × At) ℕ) → count ≤ i →
    with_front front (runs_at (count - i) before at) ≡ total → total ≡ Ok (front, at)
unfolding runs_at
is_done front count i before at total le so_far =
    let k : count - i ≡ 0 = omega arith in
    let one : with_front front (runs_at (count - i) before at) ≡ Ok (front, at) = rw k (ap (λ (runs : List Run). Ok (runs, at)) (append-nil front)) in
    sym so_far ∙ one
