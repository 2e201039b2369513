-- A call that writes once, from what the record that it puts leaves.
use Rattle.std.proofs.Common.{◌≡◌, ◌≢◌, ◌⊎◌, inl, inr, ⊎_elim, refl, sym, ap, ◌∙◌, subst, arith, ℕ, List}
use Rattle.std.proofs.Common.{Bool, false, Option, Some, None, Result, Ok, Err, OnOk, OnErr, IfErr}
use Rattle.std.proofs.lemmas.Result.{on_ok_weaker, on_err_weaker}
use Rattle.std.specs.List.Sorted.{IsStrictlySortedBy}
use Rattle.std.specs.Map.{keys_of}
use Rattle.edge_io.specs.Views.{DiskView}
use Rattle.gate_journal.specs.Frames.{IsFrame}
use Rattle.share_model.specs.Keys.{key_cmp}
use Rattle.share_model.specs.declared.fault.StoreFault.{StoreFault}
use Rattle.share_model.specs.declared.fault.StoreFault.TheVariants.{Device, Full}
use Rattle.coord_checkpoint.specs.Disks.{HasFailed}
use Rattle.coord_checkpoint.specs.Stores.{StoreParts as JournalParts}
use Rattle.state_records.specs.Spelling.{record_bytes}
use Rattle.state_records.specs.declared.record.StateRecord.{StateRecord}
use Rattle.share_coord.specs.Parts.{StoreParts}
use Rattle.share_coord.specs.Putting.{IsPut, Puts}
use Rattle.share_coord.specs.Planning.{LeadsTo}
use Rattle.share_coord.specs.Stored.{Entries, based, snapshot_frames}
use Rattle.share_coord.specs.Calls.{Causes}
use Rattle.share_coord.specs.Unwritten.{AreKeptOf}
use Rattle.share_coord.specs.Holding.{Holds, IsHeld, WritesOnce}
use Rattle.share_coord.specs.declared.fault.CoordFault.{CoordFault}
use Rattle.share_coord.specs.declared.fault.CoordFault.TheVariants.{Store, NoMemory}
use Rattle.share_coord.proofs.Faults.{ok_is_no_err, err_of}
use Rattle.share_coord.proofs.Held.{accepts, done, lost, moments, states_based}

-- what does nothing, and refuses by its numbers or for want of memory
pub untouched : {D T : Type 0} (seen : D → DiskView) (Failed : D → D → Type 0)
    (only_now : (d : D) (c : List ℕ) → (seen d).since (seen d).moment c → (seen d).image c)
    (Written : Entries → Type 0) (store : StoreParts D) (e : CoordFault) → ((fault : StoreFault) → e ≢ Store fault)
    → WritesOnce {T = T} seen Failed Written store store (Err e)
untouched seen Failed only_now Written store e other = record {
  quiet = tt;
  written = tt;
  kept = tt;
  same = refl;
  left = (false, refl);
  unchanged = λ _. refl;
  failed = λ pending held. inl (refl, held);
  device = λ is. absurd (other Device (err_of e _ is));
  full = λ end is. absurd (other (Full end) (err_of e _ is));
  any_moment = λ pending held. record {
    later_a = omega arith;
    later_b = omega arith;
    each = λ a b left right. inl (held.images a b (only_now store.journal.first.disk a left) (only_now store.journal.second.disk b right));
  };
}

pub on_err_at : {T E : Type 0} (r : Result T E) (e : E) (P : Type 0) → r ≡ Err e → OnErr r P → P
on_err_at {T} {E} r e P is h = subst (λ (q : Result T E). OnErr q P) is h

pub on_ok_at : {T E : Type 0} (r : Result T E) (x : T) (P : Type 0) → r ≡ Ok x → OnOk r P → P
on_ok_at {T} {E} r x P is h = subst (λ (q : Result T E). OnOk q P) is h

pub if_err_at : {T E : Type 0} (r : Result T E) (e : E) (P : E → Type 0) → r ≡ Err e → IfErr r P → P e
if_err_at {T} {E} r e P is h = subst (λ (q : Result T E). IfErr q P) is h

module _ {D : Type 0} (seen : D → DiskView) (plain : StateRecord) (fresh : Option StateRecord) (old new : JournalParts D) (entries : Entries) (room : ℕ)
    (sorted : IsStrictlySortedBy key_cmp (keys_of entries)) (next : Bool → Entries)
    (follows : (c : Bool) (one : StateRecord) → IsPut plain fresh c one → (base : Entries) → AreKeptOf base (based c entries) → LeadsTo base one (next c))
    (Written : Entries → Type 0) (is : (c : Bool) (one : StateRecord) → IsPut plain fresh c one → Written (next c))
    (fits : IsFrame (record_bytes plain)) (held : IsHeld seen (record { journal = old; entries = entries; room = room })) (c : Bool) (r : Result (Unit {0}) CoordFault)
    (puts : Puts seen (snapshot_frames entries) plain fresh old new c r) where
  stored : {T : Type 0} (x : T) → r ≡ Ok tt → WritesOnce seen (HasFailed seen) Written (record { journal = old; entries = entries; room = room }) (record { journal = new; entries = next c; room = room }) (Ok x)
  stored x at = record {
    quiet = on_ok_at r tt _ at puts.quiet;
    written = is c puts.chosen puts.is;
    kept = done seen plain fresh old new entries room sorted next follows c (on_ok_at r tt _ at puts.kept);
    same = tt;
    left = tt;
    unchanged = tt;
    failed = tt;
    device = λ e. absurd (ok_is_no_err x _ e);
    full = λ end e. absurd (ok_is_no_err x _ e);
    any_moment = moments seen plain fresh old new entries room sorted next follows Written is puts.any_moment;
  }

  pub stored_at : {T : Type 0} (x : T) (es : Entries) (now : ℕ) → now ≡ room → es ≡ next c → r ≡ Ok tt
      → WritesOnce seen (HasFailed seen) Written (record { journal = old; entries = entries; room = room }) (record { journal = new; entries = es; room = now }) (Ok x)
  stored_at x es now is_room same at =
      subst (λ (n : ℕ). WritesOnce seen (HasFailed seen) Written (record { journal = old; entries = entries; room = room }) (record { journal = new; entries = es; room = n }) (Ok x))
      (sym is_room)
      (subst (λ (l : Entries). WritesOnce seen (HasFailed seen) Written (record { journal = old; entries = entries; room = room }) (record { journal = new; entries = l; room = room }) (Ok x))
      (sym same) (stored x at))

  same_store : (e : CoordFault) → r ≡ Err e → e ≢ Store Device → (new ≡ old) × (c ≡ false)
  same_store e at other = by_cause (if_err_at r e (λ f. (f ≡ NoMemory) ⊎ ((fault : StoreFault) × (f ≡ Store fault))) at puts.causes)
    where
      by_fault : (fault : StoreFault) → e ≡ Store fault → (new ≡ old) × (c ≡ false)
      by_fault Device here = absurd (other here)
      by_fault (Full end) here = let f = puts.full held.1.frames held.1.sealing held.1.unwritten held.1.keeps end (at ∙ ap Err here) in (f.3, f.4)

      by_cause : (e ≡ NoMemory) ⊎ ((fault : StoreFault) × (e ≡ Store fault)) → (new ≡ old) × (c ≡ false)
      by_cause (inl here) = puts.memory (at ∙ ap Err here)
      by_cause (inr here) = by_fault here.0 here.1

  refused : {T : Type 0} (e : CoordFault) → r ≡ Err e
      → WritesOnce {T = T} seen (HasFailed seen) Written (record { journal = old; entries = entries; room = room }) (record { journal = new; entries = based c entries; room = room }) (Err e)
  refused e at = record {
    quiet = tt;
    written = tt;
    kept = tt;
    same = states_based c entries;
    left = (c, refl);
    unchanged = λ other. let s = same_store e at other in λ i. record { journal = s.0 i; entries = ap (λ (b : Bool). based b entries) s.1 i; room = room };
    failed = lost seen plain fresh old new entries room sorted next follows Written is c puts.turned (on_err_at r e _ at puts.failed);
    device = λ here. (puts.device (at ∙ ap Err (err_of e _ here)), (next c, is c puts.chosen puts.is));
    full = λ end here.
        let f = puts.full held.1.frames held.1.sealing held.1.unwritten held.1.keeps end (at ∙ ap Err (err_of e _ here)) in
        let a = accepts seen plain fresh old new entries room sorted next follows false plain refl f.1 held.1.written held.1.kept in
        (f.0, (record_bytes plain, next false, is false plain refl, (held.1.written, a.0, held.1.kept, a.1, a.2), fits, f.2));
    any_moment = moments seen plain fresh old new entries room sorted next follows Written is puts.any_moment;
  }

  pub refused_at : {T : Type 0} (e : CoordFault) (es : Entries) (now : ℕ) → now ≡ room → es ≡ based c entries → r ≡ Err e
      → WritesOnce {T = T} seen (HasFailed seen) Written (record { journal = old; entries = entries; room = room }) (record { journal = new; entries = es; room = now }) (Err e)
  refused_at {T} e es now is_room same at =
      subst (λ (n : ℕ). WritesOnce {T = T} seen (HasFailed seen) Written (record { journal = old; entries = entries; room = room }) (record { journal = new; entries = es; room = n }) (Err e))
      (sym is_room)
      (subst (λ (l : Entries). WritesOnce {T = T} seen (HasFailed seen) Written (record { journal = old; entries = entries; room = room }) (record { journal = new; entries = l; room = room }) (Err e))
      (sym same) (refused e at))

module _ {D T : Type 0} (seen : D → DiskView) (Failed : D → D → Type 0)
    (Written : Entries → Type 0) (old new : StoreParts D) where
  -- a store whose entries are the same
  pub same_entries : (es : Entries) (r : Result T CoordFault) → es ≡ new.entries → WritesOnce seen Failed Written old new r
      → WritesOnce seen Failed Written old (record { journal = new.journal; entries = es; room = new.room }) r
  same_entries es r same once = subst (λ (l : Entries). WritesOnce seen Failed Written old (record { journal = new.journal; entries = l; room = new.room }) r) (sym same) once

-- a refusal of what was put is none by numbers
pub put_causes : (r : Result (Unit {0}) CoordFault) (e : CoordFault) → r ≡ Err e → IfErr r (λ f. (f ≡ NoMemory) ⊎ ((fault : StoreFault) × (f ≡ Store fault)))
    → Causes None (λ _. ⊥) e
put_causes r e at causes = by (if_err_at r e (λ f. (f ≡ NoMemory) ⊎ ((fault : StoreFault) × (f ≡ Store fault))) at causes)
  where
    by : (e ≡ NoMemory) ⊎ ((fault : StoreFault) × (e ≡ Store fault)) → Causes None (λ _. ⊥) e
    by (inl is) = subst (Causes None (λ _. ⊥)) (sym is) refl
    by (inr h) = subst (Causes None (λ _. ⊥)) (sym h.1) refl

-- what may be written is said otherwise
pub rewritten : {D T : Type 0} (seen : D → DiskView) (Failed : D → D → Type 0)
    (P Q : Entries → Type 0) (old new : StoreParts D) (r : Result T CoordFault) → ((es : Entries) → P es → Q es)
    → WritesOnce seen Failed P old new r → WritesOnce seen Failed Q old new r
rewritten seen Failed P Q old new r f once = record {
  quiet = once.quiet;
  written = on_ok_weaker r (f new.entries) once.written;
  kept = once.kept;
  same = once.same;
  left = once.left;
  unchanged = once.unchanged;
  failed = on_err_weaker r (λ h pending held. ⊎_elim (λ x. inl x) (λ other. inr (⊎_elim (λ x. inl x) (λ x. inr (x.0, f x.0 x.1, x.2)) other)) (h pending held)) once.failed;
  device = λ at. let x = once.device at in (x.0, (x.1.0, f x.1.0 x.1.1));
  full = λ end at. let x = once.full end at in (x.0, (x.1.0, x.1.1, f x.1.1 x.1.2, x.1.3, x.1.4, x.1.5));
  any_moment = λ pending held. let run = once.any_moment pending held in record {
    later_a = run.later_a;
    later_b = run.later_b;
    each = λ a b left right. ⊎_elim (λ x. inl x) (λ x. inr (x.0, f x.0 x.1, x.2)) (run.each a b left right);
  };
}

-- a store that is as it was holds what it held
pub held_still : {D : Type 0} (seen : D → DiskView) (old new : StoreParts D) → new ≡ old → (pending : Option Entries) → Holds seen old pending
    → Holds seen new pending
held_still {D} seen old new same pending held = subst (λ (s : StoreParts D). Holds seen s pending) (sym same) held

-- a call that writes once leaves a store that holds what it holds
pub held_after : {D T : Type 0} (seen : D → DiskView) (Failed : D → D → Type 0)
    (Written : Entries → Type 0) (old new : StoreParts D) (r : Result T CoordFault) → WritesOnce seen Failed Written old new r
    → IsHeld seen old → IsHeld seen new
held_after seen Failed Written old new (Ok x) once held = (None, once.kept held.0 held.1)
held_after seen Failed Written old new (Err e) once held =
    ⊎_elim (λ h. (held.0, h.1)) (λ other. ⊎_elim (λ h. (None, h)) (λ h. (Some h.0, h.2)) other) (once.failed held.0 held.1)
