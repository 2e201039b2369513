-- Numbers that a call takes, which are in range where they are not refused.
use Rattle.std.proofs.Common.{◌≡◌, refl, sym, ap, ◌∙◌, subst, arith, ℤ, pos, negsuc, List, Option, Some, None, Bool, true, false, int_lt, ◌||◌, not, if◌then◌else◌, to_z, of_z, w32, w64, FitsSigned}
use Rattle.std.proofs.lemmas.Int.{to_z-of_z}
use Rattle.std.proofs.lemmas.Bool.Decides.{nat_tests}
use Rattle.std.specs.List.{list_all}
use Rattle.share_model.specs.Keys.{KeyParts}
use Rattle.share_model.specs.declared.run.Run.{Run}
use Rattle.state_records.specs.States.{IsEpoch, IsStart}
use Rattle.state_records.specs.declared.record.StateRecord.{StateRecord}
use Rattle.share_coord.specs.Stored.{Entries}
use Rattle.share_coord.specs.Recorded.{IsInitRecord}
use Rattle.share_model.specs.ShareStates.{is_writable}
use Rattle.share_coord.specs.Calls.{fenced_write, init_refusal, write_refusal, IsInitialised, IsWritten}
use Rattle.share_coord.specs.declared.fault.CoordFault.{CoordFault}
use Rattle.share_coord.specs.declared.fault.CoordFault.TheVariants.{Invalid}
use Rattle.share_coord.specs.Parts.{KeptState}
use Rattle.share_coord.proofs.Keys.{clash, some_none}

pub epoch_fits : (z : ℤ) → FitsSigned w32 z → int_lt z (pos 0) ≡ false → IsEpoch (to_z w32 (of_z w32 z))
epoch_fits z fits e = subst IsEpoch (sym (to_z-of_z w32 z fits)) (go z fits e)
  where
    go : (z : ℤ) → FitsSigned w32 z → int_lt z (pos 0) ≡ false → IsEpoch z
    go (pos n) fits e = fits.sfits
    go (negsuc n) fits e = absurd (clash e)

pub start_fits : (z : ℤ) → FitsSigned w64 z → int_lt z (negsuc 0) ≡ false → IsStart (to_z w64 (of_z w64 z))
start_fits z fits e = subst IsStart (sym (to_z-of_z w64 z fits)) (go z fits e)
  where
    go : (z : ℤ) → FitsSigned w64 z → int_lt z (negsuc 0) ≡ false → IsStart z
    go (pos n) fits e = fits.sfits
    go (negsuc n) fits e = grind (arith, nat_tests)

or_false : (a b : Bool) → (a || b) ≡ false → (a ≡ false) × (b ≡ false)
or_false false false e = (refl, refl)
or_false false true e = absurd (clash e)
or_false true b e = absurd (clash e)

pub not_false : (a : Bool) → not a ≡ false → a ≡ true
not_false true e = refl
not_false false e = absurd (clash e)

not_refused : (b : Bool) (rest : Option CoordFault) → (if b then Some Invalid else rest) ≡ None → b ≡ false
not_refused true rest e = absurd (some_none Invalid e)
not_refused false rest e = refl

-- what a write that isn't refused has
pub record InRange (state leader start : ℤ) (runs : List Run) : Type 0 where
  pub state_is : int_lt state (pos 0) ≡ false
  pub leader_is : int_lt leader (pos 0) ≡ false
  pub start_is : int_lt start (negsuc 0) ≡ false
  pub runs_are : list_all is_writable runs ≡ true

pub in_range : (known : Option KeptState) (state leader start : ℤ) (runs : List Run) → write_refusal known state leader start runs ≡ None → InRange state leader start runs
in_range known state leader start runs e =
    let all = or_false (int_lt state (pos 0) || int_lt leader (pos 0)) (int_lt start (negsuc 0) || not (list_all is_writable runs))
    (not_refused ((int_lt state (pos 0) || int_lt leader (pos 0)) || (int_lt start (negsuc 0) || not (list_all is_writable runs))) (fenced_write known state leader) e) in
    let epochs = or_false (int_lt state (pos 0)) (int_lt leader (pos 0)) all.0 in
    let rest = or_false (int_lt start (negsuc 0)) (not (list_all is_writable runs)) all.1 in
    record { state_is = epochs.0; leader_is = epochs.1; start_is = rest.0; runs_are = not_false (list_all is_writable runs) rest.1 }

-- the numbers as they reach the functions below
pub written_as : (old : Entries) (key : KeyParts) (state leader start : ℤ) (runs : List Run) (new es : Entries) → FitsSigned w32 state → FitsSigned w32 leader
    → FitsSigned w64 start → IsWritten old key (to_z w32 (of_z w32 state)) (to_z w32 (of_z w32 leader)) (to_z w64 (of_z w64 start)) runs new → es ≡ new
    → IsWritten old key state leader start runs es
written_as old key state leader start runs new es f g h is e =
    subst (λ (n : Entries). IsWritten old key state leader start runs n) (sym e)
    (subst (λ (z : ℤ). IsWritten old key state leader z runs new) (to_z-of_z w64 start h)
    (subst (λ (z : ℤ). IsWritten old key state z (to_z w64 (of_z w64 start)) runs new) (to_z-of_z w32 leader g)
    (subst (λ (z : ℤ). IsWritten old key z (to_z w32 (of_z w32 leader)) (to_z w64 (of_z w64 start)) runs new) (to_z-of_z w32 state f) is)))

pub init_as : (old : Entries) (key : KeyParts) (state start : ℤ) (es : Entries) → FitsSigned w32 state → FitsSigned w64 start
    → IsInitialised old key (to_z w32 (of_z w32 state)) (to_z w64 (of_z w64 start)) es → IsInitialised old key state start es
init_as old key state start es f g is =
    subst (λ (z : ℤ). IsInitialised old key state z es) (to_z-of_z w64 start g)
    (subst (λ (z : ℤ). IsInitialised old key z (to_z w64 (of_z w64 start)) es) (to_z-of_z w32 state f) is)

pub init_record_as : (old : Entries) (key : KeyParts) (state start : ℤ) (one : StateRecord) → FitsSigned w32 state → FitsSigned w64 start
    → IsInitRecord old key (to_z w32 (of_z w32 state)) (to_z w64 (of_z w64 start)) one → IsInitRecord old key state start one
init_record_as old key state start one f g is =
    subst (λ (z : ℤ). IsInitRecord old key state z one) (to_z-of_z w64 start g)
    (subst (λ (z : ℤ). IsInitRecord old key z (to_z w64 (of_z w64 start)) one) (to_z-of_z w32 state f) is)

-- the refusal is that of the numbers as they came
pub init_refusal_as : (known : Option KeptState) (state start : ℤ) → FitsSigned w32 state → FitsSigned w64 start
    → init_refusal known state start ≡ init_refusal known (to_z w32 (of_z w32 state)) (to_z w64 (of_z w64 start))
init_refusal_as known state start f g = sym
    (ap (λ (z : ℤ). init_refusal known z (to_z w64 (of_z w64 start))) (to_z-of_z w32 state f)
    ∙ ap (λ (z : ℤ). init_refusal known state z) (to_z-of_z w64 start g))

pub refusal_as : (known : Option KeptState) (state leader start : ℤ) (runs : List Run) → FitsSigned w32 state → FitsSigned w32 leader → FitsSigned w64 start
    → write_refusal known state leader start runs ≡ write_refusal known (to_z w32 (of_z w32 state)) (to_z w32 (of_z w32 leader)) (to_z w64 (of_z w64 start)) runs
refusal_as known state leader start runs f g h = sym
    (ap (λ (z : ℤ). write_refusal known z (to_z w32 (of_z w32 leader)) (to_z w64 (of_z w64 start)) runs) (to_z-of_z w32 state f)
    ∙ (ap (λ (z : ℤ). write_refusal known state z (to_z w64 (of_z w64 start)) runs) (to_z-of_z w32 leader g)
    ∙ ap (λ (z : ℤ). write_refusal known state leader z runs) (to_z-of_z w64 start h)))
