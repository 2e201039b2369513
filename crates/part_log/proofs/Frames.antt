-- The one batch of a frame.
use Rattle.std.proofs.Common.{◌≡◌, ℕ, ◌+◌, ◌^◌, ◌<◌, ◌≤◌, List, [], ◌∷◌, length, refl, sym, ap, subst, ◌∙◌, arith}
use Rattle.std.specs.Prelude.{ℤ, pos, negsuc, ◌+ℤ◌, ◌≤ℤ◌, ◌<ℤ◌, map}
use Rattle.std.proofs.lemmas.Int.{ints}
use Rattle.flex_fields.specs.Grammar.{AreMany}
use Rattle.share_model.specs.Logs.{Batch}
use Rattle.share_model.specs.declared.fault.BatchFault.{BatchFault}
use Rattle.rec_batch.specs.declared.form.Form.TheVariants.{Stored}
use Rattle.rec_batch.specs.declared.form.BatchView.{BatchView}
use Rattle.rec_batch.specs.Batches.{Accepts, Follow, IsBatch, IsFirstFault, at_least_zero}
use Rattle.rec_batch.specs.Fields.{base_offset, last_offset_delta, record_count, records_part}
use Rattle.rec_batch.specs.Grammar.{IsRecord, Record}
use Rattle.rec_batch.specs.Passing.{record_in}
use Rattle.rec_batch.proofs.Passed.{record_comes}
use Rattle.rec_batch.proofs.Uniqueness.{batch_clear}
use Rattle.log_index.specs.declared.entry.Entry.{Entry}
use Rattle.part_log.specs.Batches.{IsStored, batch_in, deltas_in, delta_and, offsets_in}
use Rattle.part_log.specs.Holding.{entry_of}

pub zero_pos : (z : ℤ) → pos 0 ≤ℤ z → pos (at_least_zero z) ≡ z
zero_pos (pos n) h = refl
zero_pos (negsuc n) h = absurd (omega (arith, ints, h))

deltas_of : (records : List Record) (bytes : List ℕ) → AreMany IsRecord bytes records → deltas_in (length records) bytes ≡ map (λ (r : Record). r.offset_delta) records
unfolding deltas_in
deltas_of [] bytes s = refl
deltas_of (r ∷ records) bytes s =
    ap (λ o. delta_and o (deltas_in (length records))) (ap record_in s.4 ∙ record_comes s.0 s.1 r s.2)
    ∙ ap (λ l. r.offset_delta ∷ l) (deltas_of records s.1 s.3)

offsets_of : (base last next : ℤ) (records : List Record) → pos 0 ≤ℤ base → pos 0 ≤ℤ next → Follow Stored last next records →
    map pos (map (λ (d : ℤ). at_least_zero (base +ℤ d)) (map (λ (r : Record). r.offset_delta) records)) ≡ map (λ (r : Record). base +ℤ r.offset_delta) records
offsets_of base last next [] b n f = refl
offsets_of base last next (r ∷ records) b n f =
    let here : pos (at_least_zero (base +ℤ r.offset_delta)) ≡ (base +ℤ r.offset_delta) = zero_pos (base +ℤ r.offset_delta) (omega (arith, ints, b, n, f.0.0)) in
    let more = offsets_of base last (r.offset_delta +ℤ pos 1) records b (omega (arith, ints, n, f.0.0)) f.1 in
    λ i. here i ∷ more i

offsets_are : (frame : List ℕ) (records : List Record) → IsBatch Stored frame records →
    map pos (offsets_in frame) ≡ map (λ (r : Record). base_offset frame +ℤ r.offset_delta) records
unfolding offsets_in
offsets_are frame records b =
    let count : at_least_zero (record_count frame) ≡ length records = ap at_least_zero b.content.0 in
    ap (λ n. map pos (map (λ (d : ℤ). at_least_zero (base_offset frame +ℤ d)) (deltas_in n (records_part frame)))) count
    ∙ ap (λ l. map pos (map (λ (d : ℤ). at_least_zero (base_offset frame +ℤ d)) l)) (deltas_of records (records_part frame) b.content.1)
    ∙ offsets_of (base_offset frame) (last_offset_delta frame) (pos 0) records b.offsets.0.1 (omega (arith, ints)) b.offsets.1

pub stored_by : (frame : List ℕ) (records : List Record) → IsBatch Stored frame records → IsStored (batch_in frame)
stored_by frame records b = record {
  records = records;
  batch = b;
  base = sym (zero_pos (base_offset frame) b.offsets.0.1);
  last = sym (zero_pos (base_offset frame +ℤ last_offset_delta frame) (omega (arith, ints, b.offsets.0.0, b.offsets.0.1)));
  offsets = offsets_are frame records b;
}

back : (xs : List ℕ) → map at_least_zero (map pos xs) ≡ xs
back [] = refl
back (x ∷ xs) = ap (λ l. x ∷ l) (back xs)

pub only_by : (b : Batch) → IsStored b → b ≡ batch_in b.bytes
only_by b s =
    let base : b.base ≡ at_least_zero (base_offset b.bytes) = sym (ap at_least_zero s.base) in
    let last : b.last ≡ at_least_zero (base_offset b.bytes +ℤ last_offset_delta b.bytes) = sym (ap at_least_zero s.last) in
    let offsets : b.offsets ≡ offsets_in b.bytes =
    sym (back b.offsets) ∙ ap (map at_least_zero) (s.offsets ∙ sym (offsets_are b.bytes s.records s.batch)) ∙ back (offsets_in b.bytes) in
    λ i. record { base = base i; last = last i; offsets = offsets i; bytes = b.bytes }

-- ---- what a view says

module _ (frame : List ℕ) (view : BatchView) (a : Accepts Stored frame view) where
  base_is : base_offset frame ≡ pos view.base
  base_is = sym (ap pos a.0.base ∙ zero_pos (base_offset frame) a.1.1.offsets.0.1)

  sum_is : (base_offset frame +ℤ last_offset_delta frame) ≡ pos (view.base + view.last_delta)
  sum_is = ap (λ z. z +ℤ last_offset_delta frame) base_is ∙ ap (λ z. pos view.base +ℤ z) (sym a.0.last_delta)

  pub view_bound : view.base + view.last_delta < 2 ^ 62
  view_bound =
      let h : pos (view.base + view.last_delta) <ℤ pos (2 ^ 62) = subst (λ z. z <ℤ pos (2 ^ 62)) sum_is a.1.1.offsets.0.2 in
      omega (arith, ints, h)

  pub view_last : view.base + view.last_delta ≡ (batch_in frame).last
  view_last = sym (ap at_least_zero sum_is)

  pub entry_is : (place last size : ℕ) → last ≡ view.base + view.last_delta → size ≡ length frame →
      ◌≡◌ {A = Entry} (record { base = view.base; last = last; size = size; place = place }) (entry_of (place, frame))
  entry_is place last size l s =
      let end : last ≡ (batch_in frame).last = l ∙ view_last in
      λ i. record { base = a.0.base i; last = end i; size = s i; place = place }

pub faulty_none : (frame : List ℕ) (f : BatchFault) → IsFirstFault Stored frame f → (b : Batch) → b.bytes ≡ frame → IsStored b → ⊥
faulty_none frame f first b e s = batch_clear Stored frame s.records (subst (λ l. IsBatch Stored l s.records) e s.batch) f first.0

-- ---- bounds

pub record Bounds (b : Batch) : Type 0 where
  pub order : b.base ≤ b.last
  pub below : b.last < 2 ^ 62
  pub header : 61 ≤ length b.bytes
  pub size : length b.bytes ≤ 1048588

pub bounds : (b : Batch) → IsStored b → Bounds b
bounds b s =
    let base = s.base in
    let last = s.last in
    let a = s.batch.offsets.0 in
    record {
      order = omega (arith, ints, base, last, a.0);
      below = omega (arith, ints, last, a.2);
      header = s.batch.header;
      size = s.batch.size;
    }
