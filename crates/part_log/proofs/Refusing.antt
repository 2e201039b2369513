-- Which refusal comes.
use Rattle.std.proofs.Common.{◌≡◌, ◌≢◌, ◌↔◌, ◌⊎◌, inl, inr, ℕ, ◌+◌, ◌^◌, ◌≤◌, List, sym, ap, subst, ◌∙◌}
use Rattle.std.specs.Prelude.{Result, Ok, Err, IfOk, OnOk}
use Rattle.share_model.specs.declared.fault.BatchFault.{BatchFault}
use Rattle.share_model.specs.declared.fault.BatchFault.TheVariants.{Short}
use Rattle.share_model.specs.declared.fault.StoreFault.TheVariants.{Device, Full}
use Rattle.share_model.specs.declared.fault.LogFault.{LogFault}
use Rattle.share_model.specs.declared.fault.LogFault.TheVariants.{Batch, Behind, NoMemory, Store}
use Rattle.rec_batch.specs.declared.form.Form.{Form}
use Rattle.rec_batch.specs.declared.form.BatchView.{BatchView}
use Rattle.rec_batch.specs.Batches.{Accepts, IsFirstFault}
use Rattle.rec_batch.proofs.OneFault.{one_first_fault}
use Rattle.rec_batch.proofs.Uniqueness.{batch_clear}

batch_fault : Result ℕ LogFault → BatchFault
batch_fault (Err (Batch f)) = f
batch_fault r = Short

batch_is : (f h : BatchFault) → ◌≡◌ {A = Result ℕ LogFault} (Err (Batch f)) (Err (Batch h)) → f ≡ h
unfolding batch_fault
batch_is f h e = ap batch_fault e

pub refused_so : (form : Form) (bytes : List ℕ) (f : BatchFault) → IsFirstFault form bytes f → (fault : BatchFault) →
    ◌≡◌ {A = Result ℕ LogFault} (Err (Batch f)) (Err (Batch fault)) ↔ IsFirstFault form bytes fault
refused_so form bytes f first fault =
    (λ e. subst (IsFirstFault form bytes) (batch_is f fault e) first, λ h. ap (λ (x : BatchFault). Err (Batch x)) (one_first_fault form bytes f fault first h))

pub not_refused : (form : Form) (bytes : List ℕ) (view : BatchView) → Accepts form bytes view → (r : Result ℕ LogFault) → ((fault : BatchFault) → r ≢ Err (Batch fault)) → (fault : BatchFault) →
    (r ≡ Err (Batch fault)) ↔ IsFirstFault form bytes fault
not_refused form bytes view a r never fault = (λ e. absurd (never fault e), λ h. absurd (batch_clear form bytes a.1.0 a.1.1 fault h.0))

behind_end : Result ℕ LogFault → ℕ
behind_end (Err (Behind end)) = end
behind_end r = 0

pub behind_is : (m n : ℕ) → ◌≡◌ {A = Result ℕ LogFault} (Err (Behind m)) (Err (Behind n)) → m ≡ n
unfolding behind_end
behind_is m n e = ap behind_end e

full_end : Result ℕ LogFault → ℕ
full_end (Err (Store (Full end))) = end
full_end r = 0

pub full_is : (m n : ℕ) → ◌≡◌ {A = Result ℕ LogFault} (Err (Store (Full m))) (Err (Store (Full n))) → m ≡ n
unfolding full_end
full_is m n e = ap full_end e

pub ok_both : {T E : Type 0} (r : Result T E) (P : Type 0) (Q R : T → Type 0) → OnOk r P → IfOk r Q → ((x : T) → P → Q x → R x) → IfOk r R
ok_both (Ok x) P Q R p q f = f x p q
ok_both (Err e) P Q R p q f = tt

-- where it was written, there was room
module _ (end n : ℕ) where
  pub ok_has_room : (r : Result ℕ LogFault) → (r ≡ Err NoMemory) ⊎ ((end + n ≤ 2 ^ 62) ⊎ (r ≡ Err (Store (Full end)))) → OnOk r (end + n ≤ 2 ^ 62)
  ok_has_room (Ok x) (inl e) = absurd (let never : ⊥ = cc in never)
  ok_has_room (Ok x) (inr (inl le)) = le
  ok_has_room (Ok x) (inr (inr e)) = absurd (let never : ⊥ = cc in never)
  ok_has_room (Err f) h = tt

  pub device_has_room : (r : Result ℕ LogFault) → r ≡ Err (Store Device) → (r ≡ Err NoMemory) ⊎ ((end + n ≤ 2 ^ 62) ⊎ (r ≡ Err (Store (Full end)))) → end + n ≤ 2 ^ 62
  device_has_room r e (inl h) = absurd (let x : ◌≡◌ {A = Result ℕ LogFault} (Err (Store Device)) (Err NoMemory) = sym e ∙ h in let never : ⊥ = cc in never)
  device_has_room r e (inr (inl le)) = le
  device_has_room r e (inr (inr h)) = absurd (let x : ◌≡◌ {A = Result ℕ LogFault} (Err (Store Device)) (Err (Store (Full end))) = sym e ∙ h in let never : ⊥ = cc in never)
