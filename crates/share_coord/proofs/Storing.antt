-- Which record a call stores.
use Rattle.std.proofs.Common.{◌≡◌, ◌≢◌, ◌⊎◌, inl, inr, refl, sym, ap, ◌∙◌, subst, ℕ, ℤ, List, [], ◌∷◌, ◌++◌}
use Rattle.std.proofs.Common.{Bool, true, false, Option, Some, None, Result, Ok, Err, to_z, of_z, w32, w64, FitsSigned}
use Rattle.std.proofs.lemmas.Int.{to_z-of_z}
use Rattle.edge_io.specs.Views.{DiskView}
use Rattle.share_model.specs.Keys.{KeyParts}
use Rattle.share_model.specs.ShareStates.{AreLaid, start_after}
use Rattle.share_model.specs.declared.fault.StoreFault.{StoreFault}
use Rattle.share_model.specs.declared.fault.StoreFault.TheVariants.{Device, Full}
use Rattle.share_model.specs.declared.run.Run.{Run}
use Rattle.share_model.proofs.OneList.{one_list}
use Rattle.coord_checkpoint.specs.Stores.{IsBase, Keeps, StoreParts as JournalParts}
use Rattle.state_records.specs.Spelling.{IsRecord, record_bytes}
use Rattle.state_records.specs.declared.record.StateRecord.{StateRecord}
use Rattle.share_coord.specs.Putting.{IsPut, Puts}
use Rattle.share_coord.specs.Stored.{Entries, based_kept}
use Rattle.share_coord.specs.Calls.{counted}
use Rattle.share_coord.specs.Recorded.{IsBased, IsWriteRecord, StoresOne, start_told, write_record}
use Rattle.share_coord.specs.declared.fault.CoordFault.{CoordFault}
use Rattle.share_coord.specs.declared.fault.CoordFault.TheVariants.{Store}
use Rattle.share_coord.specs.Parts.{KeptState}
use Rattle.share_coord.proofs.Faults.{ok_is_no_err, err_of}
use Rattle.share_coord.proofs.Once.{on_err_at, on_ok_at}
use Rattle.share_coord.proofs.Keys.{some_is}
use Rattle.share_coord.proofs.Spans.{laid_once}

-- what is refused before it writes stores none
pub unstored : {D T : Type 0} (seen : D → DiskView) (snapshots : List (List ℕ)) (Is : StateRecord → Type 0) (journal : JournalParts D) (e : CoordFault)
    → ((fault : StoreFault) → e ≢ Store fault) → StoresOne {T = T} seen snapshots Is journal journal (Err e)
unstored seen snapshots Is journal e other = record {
  stored = tt;
  pending = λ is. absurd (other Device (err_of e _ is));
  full = λ end is. absurd (other (Full end) (err_of e _ is));
  room = tt;
}

-- ---- the record is told otherwise

module _ {D : Type 0} (seen : D → DiskView) (snapshots : List (List ℕ)) (P Q : StateRecord → Type 0) (old new : JournalParts D) (f : (one : StateRecord) → P one → Q one) where
  pub as_ok : {S T : Type 0} (x : S) (y : T) → StoresOne {T = S} seen snapshots P old new (Ok x) → StoresOne {T = T} seen snapshots Q old new (Ok y)
  as_ok x y h = record {
    stored = (h.stored.0, f h.stored.0 h.stored.1, h.stored.2);
    pending = λ is. absurd (ok_is_no_err y _ is);
    full = λ end is. absurd (ok_is_no_err y _ is);
    room = (h.room.0, f h.room.0 h.room.1, h.room.2);
  }

  pub as_err : {S T : Type 0} (e : CoordFault) → StoresOne {T = S} seen snapshots P old new (Err e) → StoresOne {T = T} seen snapshots Q old new (Err e)
  as_err e h = record {
    stored = tt;
    pending = λ is. let x = h.pending (ap Err (err_of e _ is)) in (x.0, f x.0 x.1, x.2);
    full = λ end is. let x = h.full end (ap Err (err_of e _ is)) in (x.0, (x.1.0, f x.1.0 x.1.1, x.1.2));
    room = tt;
  }

  pub as_this : {T : Type 0} (r : Result T CoordFault) → StoresOne seen snapshots P old new r → StoresOne seen snapshots Q old new r
  as_this (Ok x) h = as_ok x x h
  as_this (Err e) h = as_err e h

-- ---- from what the record that was put left

module _ {D : Type 0} (seen : D → DiskView) (snapshots : List (List ℕ)) (plain : StateRecord) (fresh : Option StateRecord) (old new : JournalParts D)
    (c : Bool) (r : Result (Unit {0}) CoordFault) (puts : Puts seen snapshots plain fresh old new c r)
    (all : List (List ℕ)) (seals : Option (List (List ℕ))) (waits : Option (List ℕ)) (keeps : Keeps seen old all seals waits)
    (Is : StateRecord → Type 0) (is : (b : Bool) (one : StateRecord) → IsPut plain fresh b one → Is one) where
  one_put : (b : Bool) (one two : StateRecord) → IsPut plain fresh b one → IsPut plain fresh b two → one ≡ two
  one_put false one two p q = p ∙ sym q
  one_put true one two p q = some_is one two (sym p ∙ q)

  based_by : (b : Bool) (frames base : List (List ℕ)) → IsBase frames snapshots b base → IsBased snapshots frames base
  based_by false frames base from = inl from
  based_by true frames base from = inr from

  pub stores_ok : {T : Type 0} (x : T) → r ≡ Ok tt → StoresOne seen snapshots Is old new (Ok x)
  stores_ok x at = record {
    stored = (
      puts.chosen,
      is c puts.chosen puts.is,
      λ frames sealing pending kept.
          let h = on_ok_at r tt _ at puts.kept frames sealing pending kept in (
            h.base,
            based_by c frames h.base h.from,
            subst (λ (o : StateRecord). Keeps seen new (h.base ++ record_bytes o ∷ []) None None) (one_put c h.one puts.chosen h.is puts.is) h.keeps,
          ),
    );
    pending = λ e. absurd (ok_is_no_err x _ e);
    full = λ end e. absurd (ok_is_no_err x _ e);
    room = (plain, is false plain refl, on_ok_at r tt _ at puts.room all seals waits keeps);
  }

  waits_by : (frames base : List (List ℕ)) → IsBase frames snapshots c base → (waits pending : Option (List ℕ)) → (waits ≡ None) ⊎ (((c ≡ false) × (waits ≡ pending))
      ⊎ ((one : StateRecord) × IsPut plain fresh c one × IsRecord one × (waits ≡ Some (record_bytes one))))
      → ((base ≡ frames) × (waits ≡ pending)) ⊎ ((waits ≡ None) ⊎ (waits ≡ Some (record_bytes puts.chosen)))
  waits_by frames base from waits pending (inl none) = inr (inl none)
  waits_by frames base from waits pending (inr (inl was)) = inl (subst (λ (b : Bool). IsBase frames snapshots b base) was.0 from, was.1)
  waits_by frames base from waits pending (inr (inr h)) = inr (inr (h.3 ∙ ap (λ (o : StateRecord). Some (record_bytes o)) (one_put c h.0 puts.chosen h.1 puts.is)))

  pub stores_err : {T : Type 0} (e : CoordFault) → r ≡ Err e → StoresOne {T = T} seen snapshots Is old new (Err e)
  stores_err e at = record {
    stored = tt;
    pending = λ here. (
      puts.chosen,
      is c puts.chosen puts.is,
      λ frames sealing pending kept.
          let h = on_err_at r e _ at puts.failed frames sealing pending kept in
          (h.base, h.seals, h.waits, based_by c frames h.base h.from, (λ landed is. (h.may landed is).1), waits_by frames h.base h.from h.waits pending h.which, h.keeps),
    );
    full = λ end here.
        let f = puts.full all seals waits keeps end (at ∙ ap Err (err_of e _ here)) in (f.0, (plain, is false plain refl, f.2));
    room = tt;
  }

-- ---- the numbers as they came

pub write_stored : (old : Entries) (key : KeyParts) (state leader start : ℤ) (runs : List Run) (one : StateRecord)
    → FitsSigned w32 state → FitsSigned w32 leader → FitsSigned w64 start
    → IsWriteRecord old key (to_z w32 (of_z w32 state)) (to_z w32 (of_z w32 leader)) (to_z w64 (of_z w64 start)) runs one
    → IsWriteRecord old key state leader start runs one
write_stored old key state leader start runs one f g h is =
    subst (λ (z : ℤ). IsWriteRecord old key state leader z runs one) (to_z-of_z w64 start h)
    (subst (λ (z : ℤ). IsWriteRecord old key state z (to_z w64 (of_z w64 start)) runs one) (to_z-of_z w32 leader g)
    (subst (λ (z : ℤ). IsWriteRecord old key z (to_z w32 (of_z w32 leader)) (to_z w64 (of_z w64 start)) runs one) (to_z-of_z w32 state f) is))

-- ---- a write has one record

pub one_write : (old : Entries) (key : KeyParts) (state leader start : ℤ) (runs : List Run) (a b : StateRecord)
    → (p : IsWriteRecord old key state leader start runs a) (q : IsWriteRecord old key state leader start runs b) → p.checkpointed ≡ q.checkpointed → a ≡ b
one_write old key state leader start runs a b p q behind =
    let kept : p.kept ≡ q.kept = some_is p.kept q.kept (sym p.known ∙ q.known) in
    let written : p.written ≡ q.written = one_list p.written q.written p.are_written.canonical q.are_written.canonical
    (λ o. p.are_written.rows o ∙ sym (q.are_written.rows o)) in
    let also : AreLaid (start_after p.kept.view.start start) p.kept.view.runs p.written q.laid =
    subst (λ (k : KeptState). AreLaid (start_after k.view.start start) k.view.runs p.written q.laid) (sym kept)
    (subst (λ (w : List Run). AreLaid (start_after q.kept.view.start start) q.kept.view.runs w q.laid) (sym written) q.are_laid) in
    let laid : p.laid ≡ q.laid = laid_once (start_after p.kept.view.start start) p.kept.view.runs p.written p.laid q.laid p.are_laid also in
    p.is ∙ (ap (λ (k : KeptState). write_record key (based_kept p.checkpointed (counted k (start_after k.view.start start))) state leader (start_told k start)
    p.written p.laid) kept
    ∙ (ap (λ (c : Bool). write_record key (based_kept c (counted q.kept (start_after q.kept.view.start start))) state leader (start_told q.kept start)
    p.written p.laid) behind
    ∙ (ap (λ (w : List Run). write_record key (based_kept q.checkpointed (counted q.kept (start_after q.kept.view.start start))) state leader
    (start_told q.kept start) w p.laid) written
    ∙ ap (λ (l : List Run). write_record key (based_kept q.checkpointed (counted q.kept (start_after q.kept.view.start start))) state leader
    (start_told q.kept start) q.written l) laid))) ∙ sym q.is
