-- Each call, as the callers of the shard see it.
use Rattle.std.proofs.Common.{◌≡◌, ⊎_elim, ◌∙◌, refl, sym, ap, subst, ℕ, ℤ, List, Option, Some, None, Bool, true, false, Result, Ok, Err, IfOk, IfErr, to_z, of_z, w32, w64, FitsSigned}
use Rattle.std.specs.Option.{IsSome, option_map}
use Rattle.std.specs.Prelude.{is_some}
use Rattle.std.proofs.lemmas.Int.{to_z-of_z}
use Rattle.std.proofs.lemmas.Result.{IfOk-weaker}
use Rattle.flex_fields.specs.declared.fault.NoMemory.{NoMemory as want}
use Rattle.share_model.specs.ForeignRules.{code_alone}
use Rattle.share_model.specs.ForeignRules.{ShareStates, runs_of, read_share_state, Does, WritesBatches, share_state_at}
use Rattle.share_model.specs.Keys.{KeyParts}
use Rattle.share_model.specs.ShareStates.{ShareState}
use Rattle.share_model.specs.ErrorCodes.{NONE, INVALID_REQUEST, KAFKA_STORAGE_ERROR}
use Rattle.share_model.specs.declared.foreign.ForeignAnswer.{ForeignAnswer}
use Rattle.share_model.specs.declared.foreign.ForeignOp.TheVariants.{Init, Read, Write, Delete}
use Rattle.share_model.specs.declared.foreign.StateBatch.{StateBatch}
use Rattle.share_model.specs.declared.run.Run.{Run}
use Rattle.coord_checkpoint.specs.Disks.{HasFailed}
use Rattle.share_coord.specs.Parts.{StoreParts}
use Rattle.share_coord.specs.Stored.{kept_at, snapshot_frames}
use Rattle.share_coord.specs.Calls.{Causes, IsInitialised, IsWritten, IsTooMany, IsForgotten, init_refusal, write_refusal}
use Rattle.share_coord.specs.Holding.{WritesOnce}
use Rattle.share_coord.specs.Recorded.{IsInitRecord, IsWriteRecord, StoresOne}
use Rattle.state_records.specs.declared.record.StateRecord.TheVariants.{Removal}
use Rattle.share_coord.specs.declared.fault.CoordFault.{CoordFault}
use Rattle.share_coord.specs.declared.fault.CoordFault.TheVariants.{Invalid, Unknown, FencedLeader, FencedState, TooMany, Store, NoMemory}
use Rattle.share_coord.specs.Parts.{KeptState}
use Rattle.share_coord.proofs.Keys.{some_none}
use Rattle.share_coord.proofs.Seen.{either_there}
use Rattle.share_coord.proofs.Storing.{as_this}
use Rattle.share_coord.proofs.Unraised.{forgotten_unraised, init_unraised, write_unraised}
use Rattle.share_coord.specs.States.{states_of}
use Rattle.foreign_coord.specs.Codes.{Tells, TellsFault, code_in}
use Rattle.foreign_coord.specs.Once.{ActsOnce}
use Rattle.foreign_coord.specs.Shards.{IsRecordOf, is_granted}
use Rattle.foreign_coord.proofs.Acting.{acts, idle, err_at, cause_some, cause_many}
use Rattle.foreign_coord.proofs.Rules.{IsNumeric, init_granted, init_refused, write_granted, write_refused, write_many, none_code, other_code, read_code}
use Rattle.foreign_coord.proofs.States.{view_of, state_seen, without_based, without_seen, without_none}
use Rattle.edge_io.specs.Views.{DiskView}

-- a refusal by numbers isn't code 0
not_granted : (e : CoordFault) → IsNumeric e → is_granted (code_alone (code_in e)) ≡ false
not_granted Invalid n = refl
not_granted Unknown n = refl
not_granted (FencedLeader k) n = refl
not_granted (FencedState k) n = refl
not_granted (TooMany k) n = absurd n
not_granted (Store f) n = absurd n
not_granted NoMemory n = absurd n

there_by : (o : Option KeptState) (s : Option ShareState) → s ≡ option_map view_of o → (kept : KeptState) → o ≡ Some kept → is_some s ≡ true
there_by o s shown kept is = ap is_some (shown ∙ ap (option_map view_of) is)

gone_by : (o : Option KeptState) (s : Option ShareState) → s ≡ option_map view_of o → o ≡ None → is_some s ≡ false
gone_by o s shown none = ap is_some (shown ∙ ap (option_map view_of) none)

module _ {D : Type 0} (seen : D → DiskView)
    (shown now new : StoreParts D) (key : KeyParts) (result : Result ForeignAnswer want) (same : shown ≡ now) where
  init_by : (done : Result (Unit {0}) CoordFault) (state start : ℤ) → Tells done result
      → IfErr done (Causes (init_refusal (kept_at shown.entries key) state start) (λ _. ⊥))
      → WritesOnce seen (HasFailed seen) (IsInitialised shown.entries key state start) shown new done
      → StoresOne seen (snapshot_frames shown.entries) (IsInitRecord shown.entries key state start) shown.journal new.journal done
      → ActsOnce seen (Init key state start) shown new result
  init_by done state start tells causes once puts =
      let Caused : CoordFault → Type 0 = Causes (init_refusal (kept_at shown.entries key) state start) (λ _. ⊥) in
      acts seen (Init key state start) shown new (IsInitialised shown.entries key state start)
      (λ es is. (init_granted shown.entries key state start es is, refl)) (λ es is. init_unraised shown.entries key state start es is) done result tells once puts
      (λ e is numeric. record {
        does = init_refused shown.entries key state start e
            (cause_some (init_refusal (kept_at shown.entries key) state start) (λ _. ⊥) e (err_at done e Caused is causes) numeric) numeric;
        unwritten = not_granted e numeric;
      })
      (λ e n is at. absurd (cause_many (init_refusal (kept_at shown.entries key) state start) (λ _. ⊥) e n at (err_at done e Caused is causes)).1)

  pub init_acts : (done : Result (Unit {0}) CoordFault) (state start : ℤ) → FitsSigned w32 state → FitsSigned w64 start → Tells done result
      → IfErr done (Causes (init_refusal (kept_at shown.entries key) (to_z w32 (of_z w32 state)) (to_z w64 (of_z w64 start))) (λ _. ⊥))
      → WritesOnce seen (HasFailed seen) (IsInitialised shown.entries key (to_z w32 (of_z w32 state)) (to_z w64 (of_z w64 start))) shown new done
      → StoresOne seen (snapshot_frames shown.entries) (IsInitRecord shown.entries key (to_z w32 (of_z w32 state)) (to_z w64 (of_z w64 start))) shown.journal new.journal done
      → ActsOnce seen (Init key state start) now new result
  init_acts done state start f g tells causes once puts =
      subst (λ (p : StoreParts D). ActsOnce seen (Init key state start) p new result) same
      (subst (λ (z : ℤ). ActsOnce seen (Init key state z) shown new result) (to_z-of_z w64 start g)
      (subst (λ (z : ℤ). ActsOnce seen (Init key z (to_z w64 (of_z w64 start))) shown new result) (to_z-of_z w32 state f)
      (init_by done (to_z w32 (of_z w32 state)) (to_z w64 (of_z w64 start)) tells causes once puts)))

  write_by : (done : Result (Unit {0}) CoordFault) (state leader start : ℤ) (batches : List StateBatch) (runs : List Run) → runs_of batches ≡ Some runs
      → Tells done result
      → IfErr done (Causes (write_refusal (kept_at shown.entries key) state leader start runs) (IsTooMany shown.entries key start runs))
      → WritesOnce seen (HasFailed seen) (IsWritten shown.entries key state leader start runs) shown new done
      → StoresOne seen (snapshot_frames shown.entries) (IsWriteRecord shown.entries key state leader start runs) shown.journal new.journal done
      → ActsOnce seen (Write key state leader start batches) shown new result
  write_by done state leader start batches runs are tells causes once puts =
      let refusal = write_refusal (kept_at shown.entries key) state leader start runs in
      let Caused : CoordFault → Type 0 = Causes refusal (IsTooMany shown.entries key start runs) in
      let batched : (answer : ForeignAnswer) (states : ShareStates) → WritesBatches (states_of shown.entries) key state leader start (Some runs) answer states
      → WritesBatches (states_of shown.entries) key state leader start (runs_of batches) answer states =
      λ answer states h. subst (λ (o : Option (List Run)). WritesBatches (states_of shown.entries) key state leader start o answer states) (sym are) h in
      acts seen (Write key state leader start batches) shown new (IsWritten shown.entries key state leader start runs)
      (λ es is. (batched _ _ (write_granted shown.entries key state leader start runs es is), refl))
      (λ es is. write_unraised shown.entries key state leader start runs es is) done result tells once
      (as_this seen (snapshot_frames shown.entries) (IsWriteRecord shown.entries key state leader start runs) (IsRecordOf shown.entries (Write key state leader start batches))
      shown.journal new.journal (λ one is. (runs, are, is)) done puts)
      (λ e is numeric. record {
        does = batched _ _ (write_refused shown.entries key state leader start runs e
            (cause_some refusal (IsTooMany shown.entries key start runs) e (err_at done e Caused is causes) numeric) numeric);
        unwritten = not_granted e numeric;
      })
      (λ e n is at.
      let many = cause_many refusal (IsTooMany shown.entries key start runs) e n at (err_at done e Caused is causes) in
      record { does = batched _ _ (write_many shown.entries key state leader start runs n many.0 many.1); unwritten = refl })

  pub write_acts : (done : Result (Unit {0}) CoordFault) (state leader start : ℤ) (batches : List StateBatch) (runs : List Run) → runs_of batches ≡ Some runs
      → FitsSigned w32 state → FitsSigned w32 leader → FitsSigned w64 start → Tells done result
      → IfErr done (Causes (write_refusal (kept_at shown.entries key) (to_z w32 (of_z w32 state)) (to_z w32 (of_z w32 leader)) (to_z w64 (of_z w64 start)) runs)
      (IsTooMany shown.entries key (to_z w64 (of_z w64 start)) runs))
      → WritesOnce seen (HasFailed seen)
      (IsWritten shown.entries key (to_z w32 (of_z w32 state)) (to_z w32 (of_z w32 leader)) (to_z w64 (of_z w64 start)) runs) shown new done
      → StoresOne seen (snapshot_frames shown.entries) (IsWriteRecord shown.entries key (to_z w32 (of_z w32 state)) (to_z w32 (of_z w32 leader)) (to_z w64 (of_z w64 start)) runs)
      shown.journal new.journal done
      → ActsOnce seen (Write key state leader start batches) now new result
  write_acts done state leader start batches runs are f g h tells causes once puts =
      subst (λ (p : StoreParts D). ActsOnce seen (Write key state leader start batches) p new result) same
      (subst (λ (z : ℤ). ActsOnce seen (Write key state leader z batches) shown new result) (to_z-of_z w64 start h)
      (subst (λ (z : ℤ). ActsOnce seen (Write key state z (to_z w64 (of_z w64 start)) batches) shown new result) (to_z-of_z w32 leader g)
      (subst (λ (z : ℤ). ActsOnce seen (Write key z (to_z w32 (of_z w32 leader)) (to_z w64 (of_z w64 start)) batches) shown new result)
      (to_z-of_z w32 state f)
      (write_by done (to_z w32 (of_z w32 state)) (to_z w32 (of_z w32 leader)) (to_z w64 (of_z w64 start)) batches runs are tells causes once puts))))

  delete_there : (done : Result Bool CoordFault) → Tells done result → IfErr done (Causes None (λ _. ⊥))
      → WritesOnce seen (HasFailed seen) (IsForgotten shown.entries key) shown new done
      → StoresOne seen (snapshot_frames shown.entries) (λ one. one ≡ Removal key) shown.journal new.journal done
      → ActsOnce seen (Delete key) shown new result
  delete_there done tells causes once puts =
      let Caused : CoordFault → Type 0 = Causes None (λ _. ⊥) in
      acts seen (Delete key) shown new (IsForgotten shown.entries key)
      (λ es is. (
        (refl, ap states_of is.1.1 ∙ without_based is.1.0 shown.entries key),
        there_by (kept_at shown.entries key) (share_state_at (states_of shown.entries) key) (state_seen shown.entries key) is.0.0 is.0.1,
      )) (λ es is. forgotten_unraised shown.entries key es is) done result tells once puts
      (λ e is numeric. absurd (some_none e (sym (cause_some None (λ _. ⊥) e (err_at done e Caused is causes) numeric))))
      (λ e n is at. absurd (cause_many None (λ _. ⊥) e n at (err_at done e Caused is causes)).1)

  delete_gone : (only_now : (d : D) (c : List ℕ) → (seen d).since (seen d).moment c → (seen d).image c) (done : Result Bool CoordFault) (x : Bool) → Tells done result
      → kept_at shown.entries key ≡ None → done ≡ Ok x → new ≡ shown → ActsOnce seen (Delete key) shown new result
  delete_gone only_now done x tells none is stays =
      let answer : result ≡ Ok (code_alone NONE) = subst (λ (r : Result Bool CoordFault). Tells r result) is tells in
      subst (λ (p : StoreParts D). ActsOnce seen (Delete key) shown p result) (sym stays)
      (idle seen only_now (Delete key) shown result
      (subst (λ (r : Result ForeignAnswer want). IfOk r (λ a. Does (states_of shown.entries) (Delete key) a (states_of shown.entries)
      × (is_some (share_state_at (states_of shown.entries) key) ≡ false) × (a.code ≡ KAFKA_STORAGE_ERROR → ⊥))) (sym answer) (
        (refl, ap states_of (sym (without_none shown.entries key none)) ∙ without_seen shown.entries key),
        gone_by (kept_at shown.entries key) (share_state_at (states_of shown.entries) key) (state_seen shown.entries key) none,
        none_code,
      )))

  pub delete_acts : (only_now : (d : D) (c : List ℕ) → (seen d).since (seen d).moment c → (seen d).image c) (done : Result Bool CoordFault) → Tells done result
      → (kept_at shown.entries key ≡ None → (done ≡ Ok false) × (new ≡ shown)) → IfErr done (Causes None (λ _. ⊥))
      → (IsSome (kept_at shown.entries key) → WritesOnce seen (HasFailed seen) (IsForgotten shown.entries key) shown new done)
      → (IsSome (kept_at shown.entries key) → StoresOne seen (snapshot_frames shown.entries) (λ one. one ≡ Removal key) shown.journal new.journal done)
      → ActsOnce seen (Delete key) now new result
  delete_acts only_now done tells absent causes once puts =
      subst (λ (p : StoreParts D). ActsOnce seen (Delete key) p new result) same
      (⊎_elim (λ none. delete_gone only_now done false tells none (absent none).0 (absent none).1)
      (λ there. delete_there done tells causes (once there) (puts there)) (either_there (kept_at shown.entries key)))

pub tells_ok : {T : Type 0} (done : Result T CoordFault) (x : T) (result : Result ForeignAnswer want) → done ≡ Ok x → result ≡ Ok (code_alone NONE) → Tells done result
tells_ok {T} done x result is told = subst (λ (r : Result T CoordFault). Tells r result) (sym is) told

pub tells_err : {T : Type 0} (done : Result T CoordFault) (e : CoordFault) (result : Result ForeignAnswer want) → done ≡ Err e → TellsFault e result → Tells done result
tells_err {T} done e result is told = subst (λ (r : Result T CoordFault). Tells r result) (sym is) told

module _ {D : Type 0} (seen : D → DiskView) (only_now : (d : D) (c : List ℕ) → (seen d).since (seen d).moment c → (seen d).image c) where
  pub read_acts : (shown now : StoreParts D) (key : KeyParts) (leader : ℤ) (looked : Option ShareState) (result : Result ForeignAnswer want) → shown ≡ now → FitsSigned w32 leader
      → looked ≡ option_map view_of (kept_at shown.entries key) → IfOk result (λ a. a ≡ read_share_state looked (to_z w32 (of_z w32 leader)))
      → ActsOnce seen (Read key leader) now now result
  read_acts shown now key leader looked result same f is told =
      subst (λ (p : StoreParts D). ActsOnce seen (Read key leader) p p result) same
      (idle seen only_now (Read key leader) shown result
      (IfOk-weaker result _ _ (λ a e. (
        (
          e ∙ (ap (λ (z : ℤ). read_share_state looked z) (to_z-of_z w32 leader f)
              ∙ ap (λ (o : Option ShareState). read_share_state o leader) (is ∙ sym (state_seen shown.entries key))),
          refl,
        ),
        refl,
        λ at. read_code looked (to_z w32 (of_z w32 leader)) (sym (ap (λ (x : ForeignAnswer). x.code) e) ∙ at),
      )) told))

  -- a write with a batch that is bad
  pub bad_acts : (store : StoreParts D) (key : KeyParts) (state epoch start : ℤ) (batches : List StateBatch) (answer : ForeignAnswer) → runs_of batches ≡ None
      → answer ≡ code_alone INVALID_REQUEST → ActsOnce seen (Write key state epoch start batches) store store (Ok answer)
  bad_acts store key state epoch start batches answer none is =
      subst (λ (a : ForeignAnswer). ActsOnce seen (Write key state epoch start batches) store store (Ok a)) (sym is)
      (idle seen only_now (Write key state epoch start batches) store (Ok (code_alone INVALID_REQUEST)) (
        subst (λ (o : Option (List Run)). WritesBatches (states_of store.entries) key state epoch start o (code_alone INVALID_REQUEST) (states_of store.entries)) (sym none) (refl, refl),
        refl,
        other_code Invalid tt,
      ))
