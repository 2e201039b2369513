-- An initialisation, where no checkpoint is made before it, and behind one.
use Rattle.std.proofs.Common.{◌≡◌, refl, sym, ap, ◌∙◌, subst, arith, ℕ, ℤ, pos, List, [], length, Bool, true, false, if◌then◌else◌, Option, Some, None, Bor}
use Rattle.std.specs.Prelude.{is_some}
use Rattle.std.specs.Option.{IfSome, option_map}
use Rattle.share_model.specs.Keys.{KeyParts}
use Rattle.share_model.specs.declared.run.Run.{Run}
use Rattle.offset_runs.specs.Complete.{complete_rows}
use Rattle.state_records.specs.States.{IsKey}
use Rattle.state_records.specs.declared.record.StateRecord.{StateRecord}
use Rattle.state_records.specs.declared.record.StateRecord.TheVariants.{Snapshot}
use Rattle.share_coord.specs.Calls.{IsInitialised, init_refusal}
use Rattle.share_coord.specs.Planning.{GoesOn, IsFirst, LeadsTo, fresh_kept, left_by, record_of}
use Rattle.share_coord.specs.Putting.{FitFrames, FitsFrame, IsPut}
use Rattle.share_coord.specs.Recorded.{IsInitRecord}
use Rattle.share_coord.specs.Stored.{Entries, kept_at, next_snapshot, renewed, renewed_kept, with_kept}
use Rattle.share_coord.specs.Unwritten.{AreKeptOf, IsKeptOf}
use Rattle.share_coord.specs.declared.plan.Fresh.{Fresh}
use Rattle.share_coord.specs.Parts.{KeptState}
use Rattle.share_coord.specs.Tables.{found}
use Rattle.share_coord.specs.declared.view.Kept.{Kept}
use Rattle.share_coord.proofs.Keys.{clash, kept_renewed}
use Rattle.share_coord.proofs.Planning.{at_some, fit_fresh, fits_snapshot, fresh_of, if_some}
use Rattle.share_coord.proofs.Spans.{nothing_laid}
use Rattle.share_coord.proofs.Unwritten.{alike_with, next_same, unraised_self}

abbrev initial : KeyParts → ℕ → ℤ → ℤ → List Run → StateRecord
initial key n state start runs =
    Snapshot (record { key = key; snapshot = n; state_epoch = state; leader_epoch = pos 0; start = start; complete = Some (complete_rows runs); runs = runs })

abbrev first_of : ℤ → ℤ → List Run → ℕ → KeptState
first_of state start runs n = record {
  view = record { state_epoch = state; leader_epoch = pos 0; start = start; runs = runs };
  snapshot = n;
  updates = 0;
  raised = false;
  tells = false;
}

-- the record behind a checkpoint, where the key is known or not
abbrev pub IsFreshInit : KeyParts → ℤ → ℤ → Bool → Fresh → Type 0
IsFreshInit key state start is_known f = (f.written ≡ Snapshot (record {
  key = key;
  snapshot = if is_known then 1 else 0;
  state_epoch = state;
  leader_epoch = pos 0;
  start = start;
  complete = Some 0;
  runs = [];
})) × (f.snapshot ≡ (if is_known then 1 else 0)) × (f.updates ≡ 0)

pub copied_some : (o : Option (Bor Kept)) → is_some (found o) ≡ is_some o
copied_some None = refl
copied_some (Some x) = refl

pub none_of : (o : Option KeptState) → is_some o ≡ false → o ≡ None
none_of None is = refl
none_of (Some x) is = absurd (clash is)

next_by : (o : Option KeptState) → (if is_some o then 1 else 0) ≡ next_snapshot (option_map renewed_kept o)
next_by None = refl
next_by (Some kept) = refl

module _ (old : Entries) (key : KeyParts) (state start : ℤ) (runs : List Run) (n : ℕ) (is_known : Bool) (plain : StateRecord) (kept : KeptState) (fresh : Option Fresh)
    (none : runs ≡ []) (next : n ≡ next_snapshot (kept_at old key)) (known : is_known ≡ is_some (kept_at old key))
    (plain_is : plain ≡ initial key n state start runs) (kept_is : kept ≡ first_of state start runs n)
    (is_fresh : IfSome fresh (IsFreshInit key state start is_known)) where
  next_behind : (if is_known then 1 else 0) ≡ next_snapshot (kept_at (renewed old) key)
  next_behind = ap (λ (b : Bool). if b then 1 else 0) known ∙ (next_by (kept_at old key) ∙ ap next_snapshot (sym (kept_renewed old key)))

  behind_kept : (f : Fresh) → IsFreshInit key state start is_known f → fresh ≡ Some f
      → fresh_kept kept fresh ≡ first_of state start [] (next_snapshot (kept_at (renewed old) key))
  behind_kept f h is = ap (fresh_kept kept) is ∙ (ap (λ (k : KeptState). fresh_kept k (Some f)) kept_is
      ∙ (ap (λ (l : List Run). fresh_kept (first_of state start l n) (Some f)) none
      ∙ λ i. record {
        view = record { state_epoch = state; leader_epoch = pos 0; start = start; runs = [] };
        snapshot = (h.1 ∙ next_behind) i;
        updates = h.2 i;
        raised = false;
        tells = false;
      }))

  -- the first of its key, or one more than those that are written
  leads_by : (base es : Entries) (m : ℕ) → AreKeptOf base es → m ≡ next_snapshot (kept_at es key)
      → LeadsTo base (initial key m state start []) (with_kept es key (first_of state start [] m))
  leads_by base es m from is = (
    with_kept base key (first_of state start [] m),
    record {
      runs = [];
      next = is ∙ sym (next_same base es key from);
      laid = nothing_laid start;
      few = omega arith;
      told = refl;
      is = refl;
    },
    alike_with IsKeptOf base es key (first_of state start [] m) (first_of state start [] m) from (unraised_self (first_of state start [] m) refl),
  )

  pub init_goes : GoesOn old plain (record_of fresh) (left_by old key kept fresh)
  init_goes false one is base from =
      subst (λ (r : StateRecord). LeadsTo base r (with_kept old key kept)) (sym (is ∙ (plain_is ∙ ap (initial key n state start) none)))
      (subst (λ (k : KeptState). LeadsTo base (initial key n state start []) (with_kept old key k)) (sym (kept_is ∙ ap (λ (l : List Run). first_of state start l n) none))
      (leads_by base old n from next))
  init_goes true one is base from =
      let f = fresh_of fresh one is in
      let h = at_some (IsFreshInit key state start is_known) fresh f.0 f.1 is_fresh in
      let m = next_snapshot (kept_at (renewed old) key) in
      subst (λ (r : StateRecord). LeadsTo base r (with_kept (renewed old) key (fresh_kept kept fresh)))
      (sym (f.2 ∙ (h.0 ∙ ap (λ (k : ℕ). initial key k state start []) next_behind)))
      (subst (λ (k : KeptState). LeadsTo base (initial key m state start []) (with_kept (renewed old) key k)) (sym (behind_kept f.0 h f.1))
      (leads_by base (renewed old) m from refl))

  pub init_left : init_refusal (kept_at old key) state start ≡ None → (c : Bool) (one : StateRecord) → IsPut plain (record_of fresh) c one
      → IsInitialised old key state start (left_by old key kept fresh c)
  init_left granted false one is = record {
    granted = granted;
    checkpointed = false;
    is = ap (with_kept old key) (kept_is ∙ (ap (λ (l : List Run). first_of state start l n) none ∙ ap (first_of state start []) next));
  }
  init_left granted true one is =
      let f = fresh_of fresh one is in
      let h = at_some (IsFreshInit key state start is_known) fresh f.0 f.1 is_fresh in
      record { granted = granted; checkpointed = true; is = ap (with_kept (renewed old) key) (behind_kept f.0 h f.1) }

  pub init_one : (c : Bool) (one : StateRecord) → IsPut plain (record_of fresh) c one → IsInitRecord old key state start one
  init_one false one is = (false, is ∙ (plain_is ∙ (ap (initial key n state start) none ∙ ap (λ (m : ℕ). initial key m state start []) next)))
  init_one true one is =
      let f = fresh_of fresh one is in
      let h = at_some (IsFreshInit key state start is_known) fresh f.0 f.1 is_fresh in
      (true, f.2 ∙ (h.0 ∙ ap (λ (m : ℕ). initial key m state start []) next_behind))

  pub init_fits : IsKey key → FitFrames plain (record_of fresh)
  init_fits is_key = (
    fits_snapshot plain _ plain_is is_key (let e = ap (λ (l : List Run). length l) none in omega (arith, e)),
    fit_fresh fresh (if_some (IsFreshInit key state start is_known) (λ f. FitsFrame f.written) fresh (λ f h. fits_snapshot f.written _ h.0 is_key (omega arith)) is_fresh),
  )

  -- a key that isn't there has its first snapshot
  pub init_first : is_known ≡ false → n ≡ 0 → IsFirst kept fresh
  init_first unknown zero = (
    ap (λ (k : KeptState). k.snapshot) kept_is ∙ zero,
    ap (λ (k : KeptState). k.updates) kept_is,
    ap (λ (k : KeptState). k.raised) kept_is,
    if_some (IsFreshInit key state start is_known) (λ f. (f.snapshot ≡ 0) × (f.updates ≡ 0)) fresh
        (λ f h. (h.1 ∙ ap (λ (b : Bool). if b then 1 else 0) unknown, h.2)) is_fresh,
  )
