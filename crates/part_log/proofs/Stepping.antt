-- A write is a step of the log's shard.
use Rattle.std.proofs.Common.{◌≡◌, ◌≢◌, ◌⊎◌, ◌↔◌, ◌+◌, ◌^◌, ◌<◌, ◌≤◌, inl, inr, ⊎_elim, ℕ, List, refl, sym, subst, Option, None, Some}
use Rattle.std.proofs.lemmas.Bool.{cases_lt}
use Rattle.std.specs.Prelude.{Result, Ok, Err, IfOk}
use Rattle.edge_io.specs.Causes.{Rose}
use Rattle.share_model.specs.Logs.{Batch, end_of}
use Rattle.part_log.specs.Starts.{LogWrite}
use Rattle.part_log.specs.Starts.LogWrite.{Adds, Marks}
use Rattle.share_model.specs.declared.fault.BatchFault.{BatchFault}
use Rattle.share_model.specs.declared.fault.LogFault.{LogFault}
use Rattle.share_model.specs.declared.fault.LogFault.TheVariants.{Batch as BadBatch, Behind, Store, NoMemory}
use Rattle.share_model.specs.declared.fault.StoreFault.{StoreFault}
use Rattle.share_model.specs.declared.fault.StoreFault.TheVariants.{Device, Full}
use Rattle.rec_batch.specs.declared.form.Form.TheVariants.{Produced}
use Rattle.rec_batch.specs.Batches.{IsFirstFault}
use Rattle.part_log.specs.Logs.{AddsOnce, HasRoomFor, IsUnwritten, Keeps, LogParts, RaisesOnce}
use Rattle.part_log.specs.Shards.{CarriesLog, HasNoFault, HasNoRoomAt, LogShardState, StepsLog, StepsRaise, at_end}
use Rattle.edge_io.specs.Views.{DiskView}

module _ {D : Type 0} (seen : D → DiskView) (old new : LogParts D) (bytes : List ℕ) where
  abbrev Rises : Type 0
  Rises = Rose (seen old.journal.disk).faults (seen new.journal.disk).faults

  -- the shard's step, where it has the batches of the log
  -- the shard with the log's batches and start is the shard
  same_shard : (shard : LogShardState) → CarriesLog seen old shard → record { batches = old.batches; start = old.start; pending = shard.pending } ≡ shard
  same_shard shard k = λ i. record { batches = sym k.batches i; start = sym k.start i; pending = shard.pending }

  abbrev At : Result ℕ LogFault → LogShardState → LogShardState → Type 0
  At result after shard = StepsLog Rises old.journal.end shard bytes result after

  none_at : (result : Result ℕ LogFault) → ((fault : BatchFault) → (result ≡ Err (BadBatch fault)) ↔ IsFirstFault Produced bytes fault)
      → ((fault : BatchFault) → result ≢ Err (BadBatch fault)) → HasNoFault bytes
  none_at result judged other fault first = other fault ((judged fault).1 first)

  abbrev Steps : Result ℕ LogFault → LogShardState → Type 0
  Steps result shard = (after : LogShardState) × CarriesLog seen new after × StepsLog Rises old.journal.end shard bytes result after

  still : (shard : LogShardState) → CarriesLog seen old shard → new ≡ old → CarriesLog seen new shard
  still shard k same = subst (λ (l : LogParts D). CarriesLog seen l shard) (sym same) k

  unstored : (shard : LogShardState) (k : CarriesLog seen old shard) → HasNoFault bytes → AddsOnce seen old new (at_end old.batches bytes) (Err (Store Device))
      → Steps (Err (Store Device)) shard
  unstored shard k form once =
      let d = once.device refl in
      go d.0 d.1 d.2 (d.0.kept shard.pending k.keeps)
    where
      go : (u : IsUnwritten seen old new (Adds (at_end old.batches bytes))) → HasRoomFor old (at_end old.batches bytes) → Rises
          → Keeps seen new shard.pending ⊎ Keeps seen new (Some (Adds (at_end old.batches bytes))) → Steps (Err (Store Device)) shard
      go u room rose (inl keeps) =
          let after : LogShardState = record { batches = new.batches; start = new.start; pending = shard.pending } in (
            after,
            record { batches = refl; start = refl; keeps = keeps },
            subst (At (Err (Store Device)) after) (same_shard shard k) (
              rose,
              record { form = form; room = record { offsets = room.offsets; journal = room.journal }; same = u.batches; start = u.start; pending = inl refl },
            ),
          )
      go u room rose (inr keeps) =
          let after : LogShardState = record { batches = new.batches; start = new.start; pending = Some (Adds (at_end old.batches bytes)) } in (
            after,
            record { batches = refl; start = refl; keeps = keeps },
            subst (At (Err (Store Device)) after) (same_shard shard k) (
              rose,
              record { form = form; room = record { offsets = room.offsets; journal = room.journal }; same = u.batches; start = u.start; pending = inr refl },
            ),
          )

  pub steps : (result : Result ℕ LogFault) → ((fault : BatchFault) → (result ≡ Err (BadBatch fault)) ↔ IsFirstFault Produced bytes fault)
      → ((end : ℕ) → result ≢ Err (Behind end)) → IfOk result (λ base. base ≡ end_of old.batches)
      → AddsOnce seen old new (at_end old.batches bytes) result → result ≢ Err NoMemory
      → (shard : LogShardState) → CarriesLog seen old shard → Steps result shard
  steps (Ok base) judged no_behind is_base once fed shard k =
      let after : LogShardState = record { batches = new.batches; start = new.start; pending = None } in
      let added = once.ok.1 in
      let room = once.ok.2 in (
        after,
        record { batches = refl; start = refl; keeps = added.kept shard.pending k.keeps },
        subst (At (Ok base) after) (same_shard shard k) (record {
          form = none_at (Ok base) judged (λ fault e. let never : ⊥ = cc in never);
          room = record { offsets = room.offsets; journal = room.journal };
          base_is = is_base;
          base_of = once.ok.0;
          follows = added.follows;
          batches = added.batches;
          start = added.start;
          nothing = refl;
        }),
      )
  steps (Err (BadBatch fault)) judged no_behind is_base once fed shard k = (
    shard,
    still shard k (once.unchanged (BadBatch fault) refl (λ e. let never : ⊥ = cc in never)),
    ((judged fault).0 refl, refl),
  )
  steps (Err (Behind end)) judged no_behind is_base once fed shard k = absurd (no_behind end refl)
  steps (Err (Store Device)) judged no_behind is_base once fed shard k =
      unstored shard k (none_at (Err (Store Device)) judged (λ fault e. let never : ⊥ = cc in never)) once
  steps (Err (Store (Full at))) judged no_behind is_base once fed shard k = (
    shard,
    still shard k (once.unchanged (Store (Full at)) refl (λ e. let never : ⊥ = cc in never)),
    (
      none_at (Err (Store (Full at))) judged (λ fault e. let never : ⊥ = cc in never),
      refl,
      subst (λ (log : List Batch). HasNoRoomAt old.journal.end log (at_end log bytes) at) (sym k.batches) (once.full at refl),
    ),
  )
  steps (Err NoMemory) judged no_behind is_base once fed shard k = absurd (fed refl)

-- ---- a mark

-- what isn't too much is within
no_full : (end n : ℕ) → (2 ^ 62 < end + n → ⊥) → end + n ≤ 2 ^ 62
no_full end n none = ⊎_elim (λ lt. absurd (none lt)) (λ le. le) (cases_lt (2 ^ 62) (end + n))

module _ {D : Type 0} (seen : D → DiskView) (old new : LogParts D) (start : ℕ) where
  abbrev Rose_on : Type 0
  Rose_on = Rose (seen old.journal.disk).faults (seen new.journal.disk).faults

  abbrev StepsAt : Result (Unit {0}) StoreFault → LogShardState → LogShardState → Type 0
  StepsAt result after shard = StepsRaise Rose_on old.journal.end shard start result after

  abbrev Takes : Result (Unit {0}) StoreFault → LogShardState → Type 0
  Takes result shard = (after : LogShardState) × CarriesLog seen new after × StepsRaise Rose_on old.journal.end shard start result after

  the_shard : (shard : LogShardState) → CarriesLog seen old shard → record { batches = old.batches; start = old.start; pending = shard.pending } ≡ shard
  the_shard shard k = λ i. record { batches = sym k.batches i; start = sym k.start i; pending = shard.pending }

  unraised : (shard : LogShardState) (k : CarriesLog seen old shard) → old.journal.end + 13 ≤ 2 ^ 62 → IsUnwritten seen old new (Marks start) → Rose_on
      → (pending : Option LogWrite) → ((pending ≡ shard.pending) ⊎ (pending ≡ Some (Marks start))) → Keeps seen new pending → Takes (Err Device) shard
  unraised shard k room u rose pending which keeps =
      let after : LogShardState = record { batches = new.batches; start = new.start; pending = pending } in (
        after,
        record { batches = refl; start = refl; keeps = keeps },
        subst (StepsAt (Err Device) after) (the_shard shard k)
            (rose, record { room = room; allowed = u.follows; batches = u.batches; start_is = u.start; pending = which }),
      )

  pub raises : (result : Result (Unit {0}) StoreFault) → RaisesOnce seen old new start result → (shard : LogShardState) → CarriesLog seen old shard → Takes result shard
  raises (Ok done) once shard k =
      let after : LogShardState = record { batches = new.batches; start = new.start; pending = None } in (
        after,
        record { batches = refl; start = refl; keeps = once.ok.kept shard.pending k.keeps },
        subst (StepsAt (Ok done) after) (the_shard shard k) (record {
          room = no_full old.journal.end 13 (λ lt. let full = (once.full old.journal.end).1 (refl, lt) in let never : ⊥ = cc in never);
          allowed = once.ok.follows;
          batches = once.ok.batches;
          start_is = once.ok.start_is;
          nothing = refl;
        }),
      )
  raises (Err Device) once shard k =
      let d = once.device refl in
      let room = no_full old.journal.end 13 (λ lt. let full = (once.full old.journal.end).1 (refl, lt) in let never : ⊥ = cc in never) in
      ⊎_elim (λ keeps. unraised shard k room d.0 d.1 shard.pending (inl refl) keeps) (λ keeps. unraised shard k room d.0 d.1 (Some (Marks start)) (inr refl) keeps)
      (d.0.kept shard.pending k.keeps)
  raises (Err (Full at)) once shard k =
      let full = (once.full at).0 refl in (
        shard,
        subst (λ (l : LogParts D). CarriesLog seen l shard) (sym (once.unchanged at refl)) k,
        (refl, full.0, full.1),
      )
