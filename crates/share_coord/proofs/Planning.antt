-- A write whose numbers are not refused, and an initialisation: what they are to change.
use Rattle.std.proofs.Common.{◌≡◌, ◌<◌, ◌≤◌, ◌+◌, refl, sym, ap, ◌∙◌, subst, arith, ℕ, ℤ, List, length, Bool, true, false, nat_lt, if◌then◌else◌, Option, Some, None}
use Rattle.std.specs.Option.{IfSome}
use Rattle.std.proofs.lemmas.Bool.Decides.{nat_tests}
use Rattle.share_model.specs.Keys.{KeyParts}
use Rattle.share_model.specs.ShareStates.{AreLaid, AreWritten, start_after}
use Rattle.share_model.specs.declared.run.Run.{Run}
use Rattle.offset_runs.specs.Complete.{complete_rows}
use Rattle.state_records.specs.States.{IsKey, StateParts}
use Rattle.state_records.specs.declared.record.StateRecord.{StateRecord}
use Rattle.state_records.specs.declared.record.StateRecord.TheVariants.{Snapshot, Update}
use Rattle.share_coord.specs.Calls.{IsWritten, counted, write_refusal}
use Rattle.share_coord.specs.Planning.{GoesOn, IsPlanned, LeadsTo, fresh_kept, left_by, record_of}
use Rattle.share_coord.specs.Putting.{FitsFrame, IsOfKey, IsPut}
use Rattle.share_coord.specs.Recorded.{IsWriteRecord, start_told}
use Rattle.share_coord.specs.Stored.{Entries, kept_at, renewed, renewed_kept, with_kept}
use Rattle.share_coord.specs.Unwritten.{AreKeptOf}
use Rattle.share_coord.specs.declared.plan.Fresh.{Fresh}
use Rattle.share_coord.specs.Parts.{KeptState}
use Rattle.share_coord.proofs.Keys.{clash, kept_based, some_is, some_none}
use Rattle.share_coord.proofs.Leading.{kept_by, snapshot_leads, update_leads}
use Rattle.share_coord.proofs.Sizes.{snapshot_fits, update_fits}
use Rattle.share_coord.proofs.Unwritten.{IsLow, counted_low, told_after}

-- the record behind a checkpoint is one that there is
pub fresh_of : (fresh : Option Fresh) (one : StateRecord) → record_of fresh ≡ Some one → (f : Fresh) × (fresh ≡ Some f) × (one ≡ f.written)
fresh_of None one is = absurd (some_none one (sym is))
fresh_of (Some f) one is = (f, refl, sym (some_is f.written one is))

pub at_some : (P : Fresh → Type 0) (fresh : Option Fresh) (f : Fresh) → fresh ≡ Some f → IfSome fresh P → P f
at_some P fresh f is h = subst (λ (o : Option Fresh). IfSome o P) is h

fits_update : (r : StateRecord) (state : StateParts) → r ≡ Update state → IsKey state.key → length state.runs ≤ 1000000 → FitsFrame r
fits_update r state is key few = (update_fits r state is key few, subst IsOfKey (sym is) tt)

pub fits_snapshot : (r : StateRecord) (state : StateParts) → r ≡ Snapshot state → IsKey state.key → length state.runs ≤ 1000000 → FitsFrame r
fits_snapshot r state is key few = (snapshot_fits r state is key few, subst IsOfKey (sym is) tt)

pub fit_fresh : (fresh : Option Fresh) → IfSome fresh (λ f. FitsFrame f.written) → IfSome (record_of fresh) FitsFrame
fit_fresh None h = tt
fit_fresh (Some f) h = h

pub if_some : (P Q : Fresh → Type 0) (fresh : Option Fresh) → ((f : Fresh) → P f → Q f) → IfSome fresh P → IfSome fresh Q
if_some P Q None g h = tt
if_some P Q (Some f) g h = g f h

-- ---- a write

abbrev update_record : KeyParts → ℕ → ℤ → ℤ → ℤ → ℕ → List Run → StateRecord
update_record key n state leader start complete runs =
    Update (record { key = key; snapshot = n; state_epoch = state; leader_epoch = leader; start = start; complete = Some complete; runs = runs })

abbrev snapshot_record : KeyParts → ℕ → ℤ → ℤ → ℤ → ℕ → List Run → StateRecord
snapshot_record key n state leader start complete runs =
    Snapshot (record { key = key; snapshot = n; state_epoch = state; leader_epoch = leader; start = start; complete = Some complete; runs = runs })

-- what is behind a checkpoint, if one is tried
abbrev pub IsFreshUpdate : KeyParts → ℤ → ℤ → ℤ → ℕ → List Run → Fresh → Type 0
IsFreshUpdate key state leader told complete over f = (f.written ≡ Update (record {
  key = key;
  snapshot = 0;
  state_epoch = state;
  leader_epoch = leader;
  start = told;
  complete = Some complete;
  runs = over;
}))
    × (f.snapshot ≡ 0) × (f.updates ≡ 1)

module _ (key : KeyParts) (known : KeptState) (state leader start : ℤ) (runs over rows : List Run) (is_key : IsKey key)
    (are_written : AreWritten runs over) (are_laid : AreLaid (start_after known.view.start start) known.view.runs over rows)
    (few_over : length over ≤ 1000000) (few : length rows ≤ 1000000) (complete : ℕ) (complete_is : complete ≡ complete_rows rows)
    (told : ℤ) (told_is : told ≡ start_told known start)
    (plain : StateRecord) (kept : KeptState) (fresh : Option Fresh) (is_fresh : IfSome fresh (IsFreshUpdate key state leader told complete over)) where
  abbrev Start : ℤ
  Start = start_after known.view.start start

  abbrev Count : ℕ
  Count = (counted known Start).updates

  -- behind a checkpoint
  behind_kept : (n m : ℕ) (f : Fresh) → IsFreshUpdate key state leader told complete over f → kept ≡ kept_by state leader Start rows n m
      → fresh ≡ Some f → fresh_kept kept fresh ≡ kept_by state leader Start rows 0 1
  behind_kept n m f h shape is =
      ap (fresh_kept kept) is ∙ (ap (λ (k : KeptState). fresh_kept k (Some f)) shape ∙ λ i. kept_by state leader Start rows (h.1 i) (h.2 i))

  behind_record_is : (f : Fresh) → IsFreshUpdate key state leader told complete over f → f.written ≡ update_record key 0 state leader (start_told known start) (complete_rows rows) over
  behind_record_is f h = h.0 ∙ λ i. update_record key 0 state leader (told_is i) (complete_is i) over

  -- none was made since, and nothing is raised
  low_behind : IsLow (renewed_kept known) Start
  low_behind = record { low = omega arith; same = refl; stays = λ never. absurd (clash (sym never)) }

  behind_goes : (n m : ℕ) → kept ≡ kept_by state leader Start rows n m → (old : Entries) → kept_at old key ≡ Some known
      → (one : StateRecord) → record_of fresh ≡ Some one → (base : Entries) → AreKeptOf base (renewed old)
      → LeadsTo base one (with_kept (renewed old) key (fresh_kept kept fresh))
  behind_goes n m shape old at one is base from =
      let f = fresh_of fresh one is in
      let h = at_some (IsFreshUpdate key state leader told complete over) fresh f.0 f.1 is_fresh in
      subst (λ (k : KeptState). LeadsTo base one (with_kept (renewed old) key k)) (sym (behind_kept n m f.0 h shape f.1))
      (subst (λ (r : StateRecord). LeadsTo base r (with_kept (renewed old) key (kept_by state leader Start rows 0 1)))
      (sym (f.2 ∙ behind_record_is f.0 h)) (update_leads base (renewed old) key (renewed_kept known) state leader start over rows (kept_based true old key known at) are_laid few from low_behind))

  behind_written : (n m : ℕ) → kept ≡ kept_by state leader Start rows n m → (old : Entries) → kept_at old key ≡ Some known
      → write_refusal (kept_at old key) state leader start runs ≡ None → (one : StateRecord) → record_of fresh ≡ Some one
      → IsWritten old key state leader start runs (with_kept (renewed old) key (fresh_kept kept fresh))
  behind_written n m shape old at none one is =
      let f = fresh_of fresh one is in
      let h = at_some (IsFreshUpdate key state leader told complete over) fresh f.0 f.1 is_fresh in
      record {
        granted = none;
        checkpointed = true;
        kept = known;
        written = over;
        laid = rows;
        known = at;
        are_written = are_written;
        are_laid = are_laid;
        few_written = few_over;
        few = few;
        is = ap (with_kept (renewed old) key) (behind_kept n m f.0 h shape f.1);
      }

  behind_record : (old : Entries) → kept_at old key ≡ Some known → (one : StateRecord) → record_of fresh ≡ Some one → IsWriteRecord old key state leader start runs one
  behind_record old at one is =
      let f = fresh_of fresh one is in
      let h = at_some (IsFreshUpdate key state leader told complete over) fresh f.0 f.1 is_fresh in
      record {
        checkpointed = true;
        kept = known;
        written = over;
        laid = rows;
        known = at;
        are_written = are_written;
        are_laid = are_laid;
        is = f.2 ∙ behind_record_is f.0 h;
      }

  behind_fits : IfSome (record_of fresh) FitsFrame
  behind_fits = fit_fresh fresh (if_some (IsFreshUpdate key state leader told complete over) (λ f. FitsFrame f.written) fresh
      (λ f h. fits_update f.written _ h.0 is_key few_over) is_fresh)

  -- stored as an update
  module _ (low : Count < 500) (plain_is : plain ≡ update_record key known.snapshot state leader told (complete_rows rows) over)
      (kept_is : kept ≡ kept_by state leader Start rows known.snapshot (known.updates + 1)) where
    low_test : nat_lt Count 500 ≡ true
    low_test = grind (arith, nat_tests)

    -- the updates that count are those that there are
    count_is : Count ≡ known.updates
    count_is = (counted_low known Start low).same

    told_plain : plain ≡ update_record key known.snapshot state leader (start_told known start) (complete_rows rows) over
    told_plain = plain_is ∙ ap (λ (z : ℤ). update_record key known.snapshot state leader z (complete_rows rows) over) told_is

    update_goes : (old : Entries) → kept_at old key ≡ Some known → GoesOn old plain (record_of fresh) (left_by old key kept fresh)
    update_goes old at false one is base from =
        subst (λ (k : KeptState). LeadsTo base one (with_kept old key k)) (sym kept_is)
        (subst (λ (r : StateRecord). LeadsTo base r (with_kept old key (kept_by state leader Start rows known.snapshot (known.updates + 1)))) (sym (is ∙ told_plain))
        (update_leads base old key known state leader start over rows at are_laid few from (counted_low known Start low)))
    update_goes old at true one is base from = behind_goes known.snapshot (known.updates + 1) kept_is old at one is base from

    update_written : (old : Entries) → kept_at old key ≡ Some known → write_refusal (kept_at old key) state leader start runs ≡ None
        → (c : Bool) (one : StateRecord) → IsPut plain (record_of fresh) c one → IsWritten old key state leader start runs (left_by old key kept fresh c)
    update_written old at none true one is = behind_written known.snapshot (known.updates + 1) kept_is old at none one is
    update_written old at none false one is = record {
      granted = none;
      checkpointed = false;
      kept = known;
      written = over;
      laid = rows;
      known = at;
      are_written = are_written;
      are_laid = are_laid;
      few_written = few_over;
      few = few;
      is = ap (with_kept old key) (kept_is ∙ (ap (λ (n : ℕ). kept_by state leader Start rows known.snapshot (n + 1)) (sym count_is)
          ∙ ap (λ (b : Bool). kept_by state leader Start rows
          (if b then known.snapshot else known.snapshot + 1) (if b then Count + 1 else 0)) (sym low_test)));
    }

    update_records : (old : Entries) → kept_at old key ≡ Some known → (c : Bool) (one : StateRecord) → IsPut plain (record_of fresh) c one
        → IsWriteRecord old key state leader start runs one
    update_records old at true one is = behind_record old at one is
    update_records old at false one is = record {
      checkpointed = false;
      kept = known;
      written = over;
      laid = rows;
      known = at;
      are_written = are_written;
      are_laid = are_laid;
      is = is ∙ (told_plain ∙ ap (λ (b : Bool). if b then update_record key known.snapshot state leader (start_told known start) (complete_rows rows) over
          else snapshot_record key (known.snapshot + 1) state leader (start_after known.view.start (start_told known start)) (complete_rows rows) rows) (sym low_test));
    }

    pub planned_update : IsPlanned key known state leader start runs plain kept fresh
    planned_update = record {
      frames = (fits_update plain _ plain_is is_key few_over, behind_fits);
      follows = update_goes;
      written = update_written;
      records = update_records;
    }

  -- stored as a snapshot
  module _ (high : 500 ≤ Count) (plain_is : plain ≡ snapshot_record key (known.snapshot + 1) state leader (start_after known.view.start start) (complete_rows rows) rows)
      (kept_is : kept ≡ kept_by state leader Start rows (known.snapshot + 1) 0) where
    high_test : nat_lt Count 500 ≡ false
    high_test = grind (arith, nat_tests)

    snapshot_goes : (old : Entries) → kept_at old key ≡ Some known → GoesOn old plain (record_of fresh) (left_by old key kept fresh)
    snapshot_goes old at false one is base from =
        subst (λ (k : KeptState). LeadsTo base one (with_kept old key k)) (sym kept_is)
        (subst (λ (r : StateRecord). LeadsTo base r (with_kept old key (kept_by state leader Start rows (known.snapshot + 1) 0))) (sym (is ∙ plain_is))
        (snapshot_leads base old key known state leader start over rows at are_laid few from))
    snapshot_goes old at true one is base from = behind_goes (known.snapshot + 1) 0 kept_is old at one is base from

    snapshot_written : (old : Entries) → kept_at old key ≡ Some known → write_refusal (kept_at old key) state leader start runs ≡ None
        → (c : Bool) (one : StateRecord) → IsPut plain (record_of fresh) c one → IsWritten old key state leader start runs (left_by old key kept fresh c)
    snapshot_written old at none true one is = behind_written (known.snapshot + 1) 0 kept_is old at none one is
    snapshot_written old at none false one is = record {
      granted = none;
      checkpointed = false;
      kept = known;
      written = over;
      laid = rows;
      known = at;
      are_written = are_written;
      are_laid = are_laid;
      few_written = few_over;
      few = few;
      is = ap (with_kept old key) (kept_is ∙ ap (λ (b : Bool). kept_by state leader Start rows
          (if b then known.snapshot else known.snapshot + 1) (if b then Count + 1 else 0)) (sym high_test));
    }

    snapshot_records : (old : Entries) → kept_at old key ≡ Some known → (c : Bool) (one : StateRecord) → IsPut plain (record_of fresh) c one
        → IsWriteRecord old key state leader start runs one
    snapshot_records old at true one is = behind_record old at one is
    snapshot_records old at false one is = record {
      checkpointed = false;
      kept = known;
      written = over;
      laid = rows;
      known = at;
      are_written = are_written;
      are_laid = are_laid;
      is = is ∙ (plain_is ∙ (ap (λ (z : ℤ). snapshot_record key (known.snapshot + 1) state leader z (complete_rows rows) rows) (sym (told_after known start))
          ∙ ap (λ (b : Bool). if b then update_record key known.snapshot state leader (start_told known start) (complete_rows rows) over
          else snapshot_record key (known.snapshot + 1) state leader (start_after known.view.start (start_told known start)) (complete_rows rows) rows) (sym high_test)));
    }

    pub planned_snapshot : IsPlanned key known state leader start runs plain kept fresh
    planned_snapshot = record {
      frames = (fits_snapshot plain _ plain_is is_key few, behind_fits);
      follows = snapshot_goes;
      written = snapshot_written;
      records = snapshot_records;
    }
