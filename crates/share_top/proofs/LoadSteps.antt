-- One batch of a segment is added to the log, or refused.
use Rattle.std.proofs.Common.{◌≡◌, ◌≢◌, ◌+◌, ◌<◌, ◌≤◌, ◌^◌, ◌↔◌, inl, inr, ℕ, List, [], ◌++◌, Bool, true, false, Option, Some, None, IfSome, Result, Err, length, refl, sym, ap, ◌∙◌, arith}
use Rattle.std.proofs.Common.{take, drop, length-append}
use Rattle.std.proofs.lemmas.List.{take-append-le, take-append-drop, length-take}
use Rattle.std.proofs.Math.Seq.{take-append_seam}
use Rattle.session_script.specs.Unread.{Unread}
use Rattle.session_script.specs.Reading.{Takes}
use Rattle.rec_batch.specs.declared.form.Form.TheVariants.{Stored}
use Rattle.rec_batch.specs.Batches.{IsFirstFault}
use Rattle.share_model.specs.declared.fault.BatchFault.{BatchFault}
use Rattle.share_model.specs.declared.fault.LogFault.{LogFault}
use Rattle.share_model.specs.declared.fault.LogFault.TheVariants as log_fault
use Rattle.share_model.specs.declared.fault.StoreFault.TheVariants as store_fault
use Rattle.share_model.specs.Logs.{Batch, end_of}
use Rattle.part_log.specs.Batches.{IsStored, batch_in}
use Rattle.part_log.specs.Logs.{AddsOnce, LogParts, MayFollow}
use Rattle.part_log.proofs.Frames.{faulty_none, only_by}
use Rattle.share_top.specs.declared.load.Stop.{Stop}
use Rattle.share_top.specs.Changes.{InputChange}
use Rattle.share_top.specs.Segments.{HasNoBatch}
use Rattle.share_top.specs.SegmentReading.{IsSized, IsFront, HasNoFront, RefusesFront}
use Rattle.share_top.specs.Loads.{IsNext, LoadsNext, stop_by}
use Rattle.share_top.proofs.SegmentReads.{front_size, size_of_front, same_size}
use Rattle.edge_io.specs.Views.{DiskView}

-- ---- what stands at the front

pub sized : (b : Batch) → IsStored b → IsSized b.bytes
sized b s = record { least = s.batch.header; most = s.batch.size; is = s.batch.whole }

pub no_batch : (place : ℕ) (log : List Batch) (rest : List ℕ) → HasNoFront place rest → HasNoBatch place log rest
no_batch place log rest none b more f e = none b.bytes more (sized b f.stored) e

pub no_batch_each : (left : Option (List ℕ)) (place : ℕ) (log : List Batch) (pending : List ℕ) → IfSome left (λ more. RefusesFront place (pending ++ more))
    → IfSome left (λ more. HasNoBatch place log (pending ++ more) × (pending ++ more ≢ []))
no_batch_each None place log pending h = tt
no_batch_each (Some more) place log pending h = (no_batch place log (pending ++ more) h.0, h.1)

module _ (place size : ℕ) (pending : List ℕ) (front : IsFront place pending size) where
  abbrev bytes : List ℕ
  bytes = take size pending

  bytes_length : length bytes ≡ size
  bytes_length = let e = length-take size pending in omega (arith, e, front.whole)

  long : 12 ≤ length pending
  long = omega (arith, front.says.least, front.whole)

  -- a batch that begins with what is pending is the one that is whole there
  front_is : (more after : List ℕ) (b : Batch) → IsStored b → pending ++ more ≡ b.bytes ++ after → b.bytes ≡ bytes
  front_is more after b s e =
      let same = same_size pending size (length b.bytes) front.says (size_of_front pending more (length b.bytes) long (front_size b.bytes after (pending ++ more) (sized b s) e)) in
      sym (take-append_seam b.bytes after) ∙ ap (take (length b.bytes)) (sym e) ∙ ap (λ (n : ℕ). take n (pending ++ more)) (sym same) ∙ take-append-le size pending more front.whole

  no_whole : (log : List Batch) (more : List ℕ) → ((b : Batch) → b.bytes ≡ bytes → MayFollow log b → ⊥) → HasNoBatch place log (pending ++ more)
  no_whole log more none b after f e = absurd (none b (front_is more after b f.stored e) f)

  refused_each : (left : Option (List ℕ)) (log : List Batch) → ((b : Batch) → b.bytes ≡ bytes → MayFollow log b → ⊥)
      → IfSome left (λ more. HasNoBatch place log (pending ++ more) × (pending ++ more ≢ []))
  refused_each None log none = tt
  refused_each (Some more) log none = (no_whole log more none, λ e. omega (arith, long, ap length e, length-append pending more))

  next_is : (log : List Batch) → MayFollow log (batch_in bytes) → IsNext log (record { place = place; pending = pending }) (batch_in bytes)
  next_is log f = record {
    more = drop size pending;
    follows = f;
    front = sym (take-append-drop size pending);
    within = omega (arith, bytes_length, front.within);
  }

  behind_none : (log : List Batch) → IsStored (batch_in bytes) → (batch_in bytes).base < end_of log → (b : Batch) → b.bytes ≡ bytes → MayFollow log b → ⊥
  behind_none log s lt b e f =
      let same : b.base ≡ (batch_in bytes).base = ap (λ (x : Batch). x.base) (only_by b f.stored ∙ ap batch_in e) in
      omega (arith, lt, same, f.behind)

-- ---- the log refused the batch at the front

module _ {D : Type 0} (seen : D → DiskView) (old new : LogParts D) (u v : Unread) (input : InputChange) (size : ℕ) (result : Result ℕ LogFault)
    (takes : Takes u v input.left input.left_after []) (front : IsFront v.place v.pending size)
    (once : AddsOnce seen old new (batch_in (take size v.pending)) result) where
  abbrev bytes_in : List ℕ
  bytes_in = take size v.pending

  abbrev Stops : Stop → Type 0
  Stops stop = LoadsNext seen old new u v input (Err stop)

  pub stops : ((f : BatchFault) → (result ≡ Err (log_fault.Batch f)) ↔ IsFirstFault Stored bytes_in f)
      → ((end : ℕ) → (result ≡ Err (log_fault.Behind end)) ↔ ((end ≡ end_of old.batches) × IsStored (batch_in bytes_in) × ((batch_in bytes_in).base < end_of old.batches)))
      → ((end : ℕ) → result ≡ Err (log_fault.Store (store_fault.Full end)) → MayFollow old.batches (batch_in bytes_in))
      → (fault : LogFault) (hungry : Bool) → result ≡ Err fault → Stops (stop_by fault v.place hungry)
  stops batch behind fits (log_fault.Batch f) hungry is = (
    takes,
    refl,
    once.unchanged (log_fault.Batch f) is (λ e. cc),
    refused_each v.place size v.pending front input.left_after old.batches (λ b e m. faulty_none bytes_in f ((batch f).0 is) b e m.stored),
  )
  stops batch behind fits (log_fault.Behind end) hungry is =
      let said = (behind end).0 is in (
        takes,
        refl,
        once.unchanged (log_fault.Behind end) is (λ e. cc),
        refused_each v.place size v.pending front input.left_after old.batches (behind_none v.place size v.pending front old.batches said.1 said.2),
      )
  stops batch behind fits (log_fault.Store store_fault.Device) true is =
      let said = once.device is in
      (takes, inr (batch_in bytes_in, next_is v.place size v.pending front old.batches said.0.follows, said.0))
  stops batch behind fits (log_fault.Store store_fault.Device) false is =
      let said = once.device is in
      (takes, (batch_in bytes_in, next_is v.place size v.pending front old.batches said.0.follows, said.0), said.2)
  stops batch behind fits (log_fault.Store (store_fault.Full end)) hungry is =
      let f = fits end is in (
        takes,
        once.unchanged (log_fault.Store (store_fault.Full end)) is (λ e. cc),
        (batch_in bytes_in, end, next_is v.place size v.pending front old.batches f, once.full end is),
      )
  stops batch behind fits log_fault.NoMemory hungry is = (takes, inl (once.unchanged log_fault.NoMemory is (λ e. cc)))

-- ---- the batch at the front was added

pub takes_batch : (u v w : Unread) (left after : Option (List ℕ)) (size : ℕ) → Takes u v left after [] → size ≤ length v.pending
    → w ≡ record { place = v.place + size; pending = drop size v.pending } → Takes u w left after (take size v.pending)
takes_batch u v w left after size t le is =
    let len = length-take size v.pending in
    record {
      given = t.given;
      consumed = t.consumed;
      parts = t.parts ∙ sym (take-append-drop size v.pending) ∙ ap (λ (l : List ℕ). take size v.pending ++ l) (sym (ap (λ (x : Unread). x.pending) is));
      place = let p = ap (λ (x : Unread). x.place) is in omega (arith, t.place, p, len, le);
    }
