-- From what the store does to what the shard does.
use Rattle.std.proofs.Common.{◌≡◌, ◌≢◌, ◌⊎◌, ⊎_elim, ◌<◌, ◌+◌, ◌^◌, inl, inr, refl, sym, ◌∙◌, ap, subst, arith, ℕ, List, length}
use Rattle.std.proofs.Common.{Bool, true, false, Option, Some, None, Result, Ok, Err, IfOk, IfErr, OnErr, IsErr, if◌then◌else◌}
use Rattle.std.specs.Option.{option_map}
use Rattle.std.proofs.lemmas.Result.{IfOk-weaker}
use Rattle.edge_io.specs.Armed.{StarvesUnarmed}
use Rattle.edge_io.specs.Moments.{LeavesPairs}
use Rattle.flex_fields.specs.declared.fault.NoMemory.{NoMemory as want}
use Rattle.share_model.specs.ForeignRules.{code_alone}
use Rattle.share_model.specs.ForeignRules.{ShareStates, Does}
use Rattle.share_model.specs.ErrorCodes.{NONE, KAFKA_STORAGE_ERROR}
use Rattle.share_model.specs.declared.fault.StoreFault.{StoreFault}
use Rattle.share_model.specs.declared.fault.StoreFault.TheVariants.{Device, Full}
use Rattle.share_model.specs.declared.foreign.ForeignAnswer.{ForeignAnswer}
use Rattle.share_model.specs.declared.foreign.ForeignOp.{ForeignOp}
use Rattle.coord_checkpoint.specs.Disks.{HasFailed}
use Rattle.share_coord.specs.Parts.{StoreParts}
use Rattle.share_coord.specs.Stored.{Entries, snapshot_frames}
use Rattle.share_coord.specs.Calls.{Causes}
use Rattle.share_coord.specs.Holding.{Holds, IsWithin, WritesOnce}
use Rattle.share_coord.specs.declared.fault.CoordFault.{CoordFault}
use Rattle.share_coord.specs.declared.fault.CoordFault.TheVariants.{Invalid, Unknown, FencedLeader, FencedState, TooMany, Store, NoMemory}
use Rattle.share_coord.specs.Recorded.{StoresOne}
use Rattle.share_coord.specs.States.{states_of}
use Rattle.share_coord.specs.Unwritten.{AreUnraised, NeverRaised}
use Rattle.state_records.specs.Spelling.{record_bytes}
use Rattle.foreign_coord.specs.Codes.{Tells, TellsFault, code_in}
use Rattle.foreign_coord.specs.Once.{ActsOnce, Carried, FailsToPut, HasFailedNone, HasRisen, PutsRecord}
use Rattle.foreign_coord.specs.Shards.{ForeignShardState, StepsForeign, Grants, HasNoRoom, Carries, IsFound, IsRecordOf, writes}
use Rattle.share_coord.proofs.Keys.{clash}
use Rattle.share_coord.proofs.Once.{held_still}
use Rattle.share_coord.proofs.Unraised.{refused_unraised, stand_exact, states_exact}
use Rattle.foreign_coord.proofs.Rules.{IsNumeric, IsOther, other_code, none_code}
use Rattle.edge_io.specs.Views.{DiskView}

-- what a store with this pending write carries
abbrev pub shard_of : {D : Type 0} → StoreParts D → Option Entries → ForeignShardState
shard_of store pending = record { states = states_of store.entries; pending = option_map states_of pending }

module _ {D : Type 0} (seen : D → DiskView) (store : StoreParts D) where
  pub carries_by : (pending : Option Entries) → Holds seen store pending → NeverRaised store.entries pending → Carries seen store (shard_of store pending)
  carries_by pending holds never = record { pending = pending; holds = holds; states = refl; pending_is = refl; unraised = never }

  -- what holds of that holds of each shard that the store carries
  pub carried : (P : ForeignShardState → Type 0) → ((pending : Option Entries) → Holds seen store pending → NeverRaised store.entries pending → P (shard_of store pending))
      → (shard : ForeignShardState) → Carries seen store shard → P shard
  carried P f shard c =
      let is : shard_of store c.pending ≡ shard = λ i. record { states = sym c.states i; pending = sym c.pending_is i } in
      subst P is (f c.pending c.holds c.unraised)

-- a store with the same states carries them still
pub carries_on : {D : Type 0} (seen : D → DiskView) (old new : StoreParts D) (pending : Option Entries) → states_of new.entries ≡ states_of old.entries
    → Holds seen new pending → NeverRaised new.entries pending → Carries seen new (shard_of old pending)
carries_on seen old new pending same holds never = record { pending = pending; holds = holds; states = sym same; pending_is = refl; unraised = never }

-- a store that is as it was carries what it carried
pub carries_still : {D : Type 0} (seen : D → DiskView) (old new : StoreParts D) → new ≡ old → (shard : ForeignShardState) → Carries seen old shard
    → Carries seen new shard
carries_still {D} seen old new same shard c = subst (λ (s : StoreParts D). Carries seen s shard) (sym same) c

-- ---- moments

found_in : (op : ForeignOp) (Written : Entries → Type 0) (entries : Entries) (pending : Option Entries) (a b : List ℕ)
    → ((es : Entries) → Written es → Grants (states_of entries) op (states_of es)) → ((es : Entries) → Written es → AreUnraised entries → AreUnraised es)
    → NeverRaised entries pending → IsWithin Written entries pending a b
    → IsFound (record { states = states_of entries; pending = option_map states_of pending }) op a b
found_in op Written entries pending a b grants plain never h = ⊎_elim (λ w. inl (stand_exact a b entries pending never w))
    (λ w. inr (states_of w.0, grants w.0 w.1, states_exact a b w.0 (plain w.0 w.1 never.0) w.2)) h

-- ---- answers

-- unless it tells a store fault, no device call failed
abbrev Calm : {D : Type 0} → (D → DiskView) → StoreParts D → StoreParts D → ForeignAnswer → Type 0
Calm seen old new answer = answer.code ≢ KAFKA_STORAGE_ERROR → HasFailedNone seen old new

-- a store that is as it was met no failed call
quiet_still : {D : Type 0} (seen : D → DiskView) (old new : StoreParts D) → new ≡ old → HasFailedNone seen old new
quiet_still {D} seen old new same = inl (
  λ told. ap (λ (s : StoreParts D). (seen s.journal.first.disk).faults) same,
  λ told. ap (λ (s : StoreParts D). (seen s.journal.second.disk).faults) same,
)

answered : (P : ForeignAnswer → Type 0) (answer : ForeignAnswer) (result : Result ForeignAnswer want) → result ≡ Ok answer → P answer → IfOk result P
answered P answer result is p = subst (λ (r : Result ForeignAnswer want). IfOk r P) (sym is) p

told : (answer : ForeignAnswer) (result : Result ForeignAnswer want) (P : Type 0) → result ≡ Ok answer → OnErr result P
told answer result P is = subst (λ (r : Result ForeignAnswer want). OnErr r P) (sym is) tt

none_told : (P : ForeignAnswer → Type 0) (result : Result ForeignAnswer want) → IsErr result → IfOk result P
none_told P (Ok a) h = absurd (clash (sym h))
none_told P (Err e) h = tt

on_err : (result : Result ForeignAnswer want) (P : Type 0) → P → OnErr result P
on_err (Ok a) P p = tt
on_err (Err e) P p = p

clash_written : {b : Bool} → b ≡ true → b ≡ false → ⊥
clash_written wrote not = let never : true ≡ false = sym wrote ∙ not in let clash : ⊥ = cc in clash

-- ---- a refusal

abbrev NotDevice : CoordFault → Type 0
NotDevice Invalid = Unit {0}
NotDevice Unknown = Unit {0}
NotDevice (FencedLeader n) = Unit {0}
NotDevice (FencedState n) = Unit {0}
NotDevice (TooMany n) = Unit {0}
NotDevice (Store Device) = ⊥
NotDevice (Store (Full end)) = Unit {0}
NotDevice NoMemory = Unit {0}

apart_device : (e : CoordFault) → NotDevice e → e ≢ Store Device
apart_device e h is = subst NotDevice is h

-- what a refusal by the rules is answered, and that it wrote nothing
pub record IsRefusedBy (old : ShareStates) (op : ForeignOp) (e : CoordFault) : Type 0 where
  pub does : Does old op (code_alone (code_in e)) old
  pub unwritten : writes old op (code_alone (code_in e)) ≡ false

module _ {D : Type 0} (seen : D → DiskView)
    (op : ForeignOp) (old new : StoreParts D) where
  abbrev Sound : ForeignAnswer → Type 0
  Sound answer = answer.code ≡ KAFKA_STORAGE_ERROR →
      StarvesUnarmed seen old.journal.first.disk new.journal.first.disk
      ⊎ (StarvesUnarmed seen old.journal.second.disk new.journal.second.disk ⊎ HasNoRoom old.journal.end (states_of old.entries) op)

  abbrev Unwritten : ForeignAnswer → Type 0
  Unwritten answer = writes (states_of old.entries) op answer ≡ false → answer.code ≢ KAFKA_STORAGE_ERROR → new ≡ old

  abbrev Stored : ForeignAnswer → Type 0
  Stored answer = writes (states_of old.entries) op answer ≡ true → answer.code ≢ KAFKA_STORAGE_ERROR → PutsRecord seen op old new

  abbrev Unstored : ForeignAnswer → Type 0
  Unstored answer = answer.code ≡ KAFKA_STORAGE_ERROR → FailsToPut seen op old new

  abbrev Leads : ForeignAnswer → ForeignShardState → Type 0
  Leads answer s = (t : ForeignShardState) × (fault : Option StoreFault) × Carries seen new t
      × StepsForeign (HasRisen seen old new) old.journal.end s op answer fault t

module _ {D T : Type 0} (seen : D → DiskView) (op : ForeignOp) (old new : StoreParts D) (Written : Entries → Type 0)
    (grants : (es : Entries) → Written es → Grants (states_of old.entries) op (states_of es))
    (plain : (es : Entries) → Written es → AreUnraised old.entries → AreUnraised es) where
  abbrev Once : Result T CoordFault → Type 0
  Once done = WritesOnce {T = T} seen (HasFailed seen) Written old new done

  abbrev Puts : Result T CoordFault → Type 0
  Puts done = StoresOne {T = T} seen (snapshot_frames old.entries) (IsRecordOf old.entries op) old.journal new.journal done

  done_by : (x : T) → Once (Ok x) → Carried seen op old new (code_alone NONE)
  done_by x once = carried seen old (Leads seen op old new (code_alone NONE)) (λ pending held never. (
    shard_of new None,
    None,
    carries_by seen new None (once.kept pending held) (plain new.entries once.written never.0, tt),
    record {
      does = (grants new.entries once.written).0;
      pending = sym (ap (λ (b : Bool). if b then None else option_map states_of pending) (grants new.entries once.written).1);
    },
  ))

  still_unraised : (e : CoordFault) → Once (Err e) → (pending : Option Entries) → NeverRaised old.entries pending → NeverRaised new.entries pending
  still_unraised e once pending never = (refused_unraised seen (HasFailed seen) Written old new e once never.0, never.1)

  refused_by : (e : CoordFault) → NotDevice e → IsRefusedBy (states_of old.entries) op e → Once (Err e) → Carried seen op old new (code_alone (code_in e))
  refused_by e other by once = carried seen old (Leads seen op old new (code_alone (code_in e))) (λ pending held never. (
    shard_of old pending,
    None,
    carries_on seen old new pending once.same (held_still seen old new (once.unchanged (apart_device e other)) pending held) (still_unraised e once pending never),
    record { does = by.does; pending = sym (ap (λ (b : Bool). if b then None else option_map states_of pending) by.unwritten) },
  ))

  full_by : (end : ℕ) → Once (Err (Store (Full end))) → Puts (Err (Store (Full end)))
      → (end ≡ old.journal.end) × HasNoRoom old.journal.end (states_of old.entries) op
  full_by end once puts =
      let f = once.full end refl in
      let p = puts.full end refl in (
        f.0,
        record {
          before = old.entries;
          after = states_of f.1.1;
          one = p.1.0;
          is_before = refl;
          granted = grants f.1.1 f.1.2;
          is_one = p.1.1;
          past = subst (λ (n : ℕ). 2 ^ 62 < n + (length (record_bytes p.1.0) + 5)) f.0 p.1.2;
        },
      )

  stored_by : (fault : StoreFault) → Once (Err (Store fault)) → Puts (Err (Store fault)) → Carried seen op old new (code_alone KAFKA_STORAGE_ERROR)
  stored_by Device once puts =
      let failed = once.device refl in
      let lost = failed.1 in
      let rose : HasRisen seen old new = ⊎_elim (λ h. inl h.0) (λ h. inr h.0) failed.0 in
      carried seen old (Leads seen op old new (code_alone KAFKA_STORAGE_ERROR)) (λ pending held never.
      let granted : (l : ShareStates) × Grants (states_of old.entries) op l = (states_of lost.0, grants lost.0 lost.1) in
      ⊎_elim (λ h. (
        shard_of old pending,
        Some Device,
        carries_on seen old new pending once.same h.1 (still_unraised (Store Device) once pending never),
        (refl, rose, record { granted = granted; same = refl; pending = inl refl }),
      ))
      (λ other. ⊎_elim (λ none. (
        shard_of old None,
        Some Device,
        carries_on seen old new None once.same none ((still_unraised (Store Device) once pending never).0, tt),
        (refl, rose, record { granted = granted; same = refl; pending = inr (inl refl) }),
      ))
      (λ l. (
        shard_of old (Some l.0),
        Some Device,
        carries_on seen old new (Some l.0) once.same l.2 ((still_unraised (Store Device) once pending never).0, plain l.0 l.1 never.0),
        (refl, rose, record { granted = granted; same = refl; pending = inr (inr (states_of l.0, grants l.0 l.1, refl)) }),
      )) other) (once.failed pending held))
  stored_by (Full end) once puts =
      let f = full_by end once puts in
      carried seen old (Leads seen op old new (code_alone KAFKA_STORAGE_ERROR)) (λ pending held never. (
        shard_of old pending,
        Some (Full end),
        carries_on seen old new pending once.same (held_still seen old new (once.unchanged (apart_device (Store (Full end)) tt)) pending held)
            (still_unraised (Store (Full end)) once pending never),
        (refl, f.0, refl, f.1),
      ))

  sound_by : (fault : StoreFault) → Once (Err (Store fault)) → Puts (Err (Store fault)) → Sound seen op old new (code_alone KAFKA_STORAGE_ERROR)
  sound_by Device once puts is = ⊎_elim (λ h. inl h.1) (λ h. inr (inl h.1)) (once.device refl).0
  sound_by (Full end) once puts is = inr (inr (full_by end once puts).1)

  unstored_by : (fault : StoreFault) → Puts (Err (Store fault)) → FailsToPut seen op old new
  unstored_by Device puts = let p = puts.pending refl in (p.0, p.1, inl p.2)
  unstored_by (Full end) puts =
      let p = puts.full end refl in
      (p.1.0, p.1.1, inr (subst (λ (n : ℕ). 2 ^ 62 < n + (length (record_bytes p.1.0) + 5)) p.0 p.1.2))

  moments_by : (done : Result T CoordFault) → Once done → (s : ForeignShardState) → Carries seen old s →
      LeavesPairs seen old.journal.first.disk new.journal.first.disk old.journal.second.disk new.journal.second.disk (IsFound s op)
  moments_by done once = carried seen old
      (λ s. LeavesPairs seen old.journal.first.disk new.journal.first.disk old.journal.second.disk new.journal.second.disk (IsFound s op))
      (λ pending held never.
      let pairs = once.any_moment pending held in
      record {
        later_a = pairs.later_a;
        later_b = pairs.later_b;
        each = λ a b left right. found_in op Written old.entries pending a b grants plain never (pairs.each a b left right);
      })

  -- a refusal that isn't of the store
  plainly : (e : CoordFault) → NotDevice e → IsOther e → (result : Result ForeignAnswer want) → result ≡ Ok (code_alone (code_in e)) → Once (Err e)
      → IsRefusedBy (states_of old.entries) op e → ActsOnce seen op old new result
  plainly e apart other result is once by = record {
    ok = answered (Carried seen op old new) _ result is (refused_by e apart by once);
    memory = told _ result (new ≡ old) is;
    quiet = answered (Calm seen old new) _ result is (λ _. quiet_still seen old new (once.unchanged (apart_device e apart)));
    sound = answered (Sound seen op old new) _ result is (λ at. absurd (other_code e other at));
    unwritten = answered (Unwritten seen op old new) _ result is (λ not other_code. once.unchanged (apart_device e apart));
    stored = answered (Stored seen op old new) _ result is (λ wrote. absurd (clash_written wrote by.unwritten));
    unstored = answered (Unstored seen op old new) _ result is (λ at. absurd (other_code e other at));
    any_moment = moments_by (Err e) once;
  }

  by_fault : (e : CoordFault) (result : Result ForeignAnswer want) → TellsFault e result → Once (Err e) → Puts (Err e)
      → (IsNumeric e → IsRefusedBy (states_of old.entries) op e) → ((n : ℕ) → e ≡ TooMany n → IsRefusedBy (states_of old.entries) op (TooMany n))
      → ActsOnce seen op old new result
  by_fault Invalid result is once puts f many = plainly Invalid tt tt result is once (f tt)
  by_fault Unknown result is once puts f many = plainly Unknown tt tt result is once (f tt)
  by_fault (FencedLeader n) result is once puts f many = plainly (FencedLeader n) tt tt result is once (f tt)
  by_fault (FencedState n) result is once puts f many = plainly (FencedState n) tt tt result is once (f tt)
  by_fault (TooMany n) result is once puts f many = plainly (TooMany n) tt tt result is once (many n refl)
  by_fault (Store fault) result is once puts f many = record {
    ok = answered (Carried seen op old new) _ result is (stored_by fault once puts);
    memory = told _ result (new ≡ old) is;
    quiet = answered (Calm seen old new) _ result is (λ other. absurd (other refl));
    sound = answered (Sound seen op old new) _ result is (sound_by fault once puts);
    unwritten = answered (Unwritten seen op old new) _ result is (λ not other. absurd (other refl));
    stored = answered (Stored seen op old new) _ result is (λ wrote other. absurd (other refl));
    unstored = answered (Unstored seen op old new) _ result is (λ at. unstored_by fault puts);
    any_moment = moments_by (Err (Store fault)) once;
  }
  by_fault NoMemory result is once puts f many = record {
    ok = none_told (Carried seen op old new) result is;
    memory = on_err result (new ≡ old) (once.unchanged (apart_device NoMemory tt));
    quiet = none_told (Calm seen old new) result is;
    sound = none_told (Sound seen op old new) result is;
    unwritten = none_told (Unwritten seen op old new) result is;
    stored = none_told (Stored seen op old new) result is;
    unstored = none_told (Unstored seen op old new) result is;
    any_moment = moments_by (Err NoMemory) once;
  }

  -- a call of which the store has answered this
  pub acts : (done : Result T CoordFault) (result : Result ForeignAnswer want) → Tells done result → Once done → Puts done
      → ((e : CoordFault) → done ≡ Err e → IsNumeric e → IsRefusedBy (states_of old.entries) op e)
      → ((e : CoordFault) (n : ℕ) → done ≡ Err e → e ≡ TooMany n → IsRefusedBy (states_of old.entries) op (TooMany n))
      → ActsOnce seen op old new result
  acts (Ok x) result is once puts refused many = record {
    ok = answered (Carried seen op old new) _ result is (done_by x once);
    memory = told _ result (new ≡ old) is;
    quiet = answered (Calm seen old new) _ result is (λ _. once.quiet);
    sound = answered (Sound seen op old new) _ result is (λ at. absurd (none_code at));
    unwritten = answered (Unwritten seen op old new) _ result is (λ not other. absurd (clash_written (grants new.entries once.written).1 not));
    stored = answered (Stored seen op old new) _ result is (λ _ _. (puts.stored, puts.room));
    unstored = answered (Unstored seen op old new) _ result is (λ at. absurd (none_code at));
    any_moment = moments_by (Ok x) once;
  }
  acts (Err e) result is once puts refused many = by_fault e result is once puts (refused e refl) (λ n at. many e n refl at)

-- a call that does nothing to the store
pub idle : {D : Type 0} (seen : D → DiskView)
    (only_now : (d : D) (c : List ℕ) → (seen d).since (seen d).moment c → (seen d).image c) (op : ForeignOp) (store : StoreParts D) (result : Result ForeignAnswer want)
    → IfOk result (λ answer. Does (states_of store.entries) op answer (states_of store.entries) × (writes (states_of store.entries) op answer ≡ false)
    × (answer.code ≢ KAFKA_STORAGE_ERROR)) → ActsOnce seen op store store result
idle seen only_now op store result does = record {
  ok = IfOk-weaker result _ _ (λ answer h. carried seen store
      (λ s. (t : ForeignShardState) × (fault : Option StoreFault) × Carries seen store t
      × StepsForeign (HasRisen seen store store) store.journal.end s op answer fault t)
      (λ pending held never. (
        shard_of store pending,
        None,
        carries_by seen store pending held never,
        record { does = h.0; pending = sym (ap (λ (b : Bool). if b then None else option_map states_of pending) h.1) },
      ))) does;
  memory = on_err result (store ≡ store) refl;
  quiet = IfOk-weaker result _ _ (λ answer h other. quiet_still seen store store refl) does;
  sound = IfOk-weaker result _ _ (λ answer h at. absurd (h.2 at)) does;
  unwritten = IfOk-weaker result _ _ (λ answer h not other. refl) does;
  stored = IfOk-weaker result _ _ (λ answer h wrote other. absurd (clash_written wrote h.1)) does;
  unstored = IfOk-weaker result _ _ (λ answer h at. absurd (h.2 at)) does;
  any_moment = carried seen store
      (λ s. LeavesPairs seen store.journal.first.disk store.journal.first.disk store.journal.second.disk store.journal.second.disk (IsFound s op))
      (λ pending held never. record {
        later_a = omega arith;
        later_b = omega arith;
        each = λ a b left right. inl (stand_exact a b store.entries pending never
            (held.images a b (only_now store.journal.first.disk a left) (only_now store.journal.second.disk b right)));
      });
}

-- ---- from the store's clauses

pub err_at : {T E : Type 0} (r : Result T E) (e : E) (P : E → Type 0) → r ≡ Err e → IfErr r P → P e
err_at {T} {E} r e P is h = subst (λ (q : Result T E). IfErr q P) is h

pub cause_some : (refusal : Option CoordFault) (Many : ℕ → Type 0) (e : CoordFault) → Causes refusal Many e → IsNumeric e → refusal ≡ Some e
cause_some refusal Many Invalid h n = h
cause_some refusal Many Unknown h n = h
cause_some refusal Many (FencedLeader k) h n = h
cause_some refusal Many (FencedState k) h n = h
cause_some refusal Many (TooMany k) h n = absurd n
cause_some refusal Many (Store f) h n = absurd n
cause_some refusal Many NoMemory h n = absurd n

pub cause_many : (refusal : Option CoordFault) (Many : ℕ → Type 0) (e : CoordFault) (n : ℕ) → e ≡ TooMany n → Causes refusal Many e → (refusal ≡ None) × Many n
cause_many refusal Many e n at h = subst (λ (f : CoordFault). Causes refusal Many f) at h
