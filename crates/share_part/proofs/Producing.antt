-- A produced batch as a step of the shard.
use Rattle.std.proofs.Common.{◌≡◌, ◌≢◌, ◌⊎◌, ⊎_elim, ◌∙◌, inl, inr, refl, sym, ap, subst, arith, ℕ, zero, suc, ◌+◌, ◌<◌, ◌≤◌, ◌^◌, max, List, [], ◌∷◌, ◌++◌, length, slice_index_or, Option, Some, None, Bool, true, false, nat_le, if◌then◌else◌}
use Rattle.std.specs.Prelude.{Result, Ok, Err, IfOk}
use Rattle.std.specs.Option.{IfSome}
use Rattle.std.specs.List.{Contains}
use Rattle.edge_io.specs.Armed.{StarvesUnarmed}
use Rattle.edge_io.specs.Causes.{Rose}
use Rattle.edge_io.specs.Moments.{LeavesOnly}
use Rattle.gate_journal.specs.Journals.{IsQuiet}
use Rattle.share_model.specs.ForeignRules.{ShareStates, size_of}
use Rattle.share_model.specs.Held.{Held}
use Rattle.share_model.specs.Logs.{Batch, end_of}
use Rattle.share_model.specs.declared.fault.LogFault.{LogFault}
use Rattle.share_model.specs.declared.fault.LogFault.TheVariants.{Batch as BadBatch, Behind, Store, NoMemory}
use Rattle.share_model.specs.declared.fault.StoreFault.TheVariants.{Device, Full}
use Rattle.part_log.specs.Logs.{AddsOnce, IsStoredLog, IsWithin, Keeps, LogParts, MayFollow, log_in}
use Rattle.part_log.specs.Shards.{LogShardState, CarriesLog, IsLogOf, StepsLog, at_end, log_at}
use Rattle.part_log.specs.Starts.{Log, LogWrite, with_write}
use Rattle.part_log.specs.Starts.LogWrite.{Adds}
use Rattle.part_log.proofs.Frames.{bounds}
use Rattle.part_log.proofs.Rising.{end_more, sound_more}
use Rattle.share_coord.specs.Unwritten.{AreLevel}
use Rattle.share_part.specs.Hosting.{PartConfParts, AreHosted}
use Rattle.share_part.specs.Once.{ProducesOnce}
use Rattle.share_part.specs.Shards.{PartShardState, PartParts, Carries, IsPendingHosted, base_in, placed_at}
use Rattle.share_part.specs.Slots.{and_more, next_slot, slots_from}
use Rattle.edge_io.specs.Views.{DiskView}

-- ---- a log that grows

next_more : (log : List Batch) (b : Batch) (from slot : ℕ) → next_slot log from ≡ Some slot → next_slot (log ++ b ∷ []) from ≡ Some slot
next_more [] b from slot is = absurd (let clash : ⊥ = cc in clash)
next_more (c ∷ log) b from slot is = by_last (nat_le from c.last) is (next_more log b from slot)
  where
    by_last : (t : Bool) → (if t then Some (max from c.base) else next_slot log from) ≡ Some slot → (next_slot log from ≡ Some slot → next_slot (log ++ b ∷ []) from ≡ Some slot)
        → (if t then Some (max from c.base) else next_slot (log ++ b ∷ []) from) ≡ Some slot
    by_last true at ih = at
    by_last false at ih = ih at

pub front_or : (x o : ℕ) (xs : List ℕ) → Contains (x ∷ xs) o → (x ≡ o) ⊎ Contains xs o
front_or x o xs h = by_index h.0 h.1 h.2
  where
    by_index : (k : ℕ) → k < length (x ∷ xs) → slice_index_or (x ∷ xs) k o ≡ o → (x ≡ o) ⊎ Contains xs o
    by_index zero lt e = inl e
    by_index (suc k) lt e = inr (k, omega (arith, lt), e)

pub front_in : (x o : ℕ) (xs : List ℕ) → x ≡ o → Contains (x ∷ xs) o
front_in x o xs e = (0, omega arith, e)

pub behind_in : (x o : ℕ) (xs : List ℕ) → Contains xs o → Contains (x ∷ xs) o
behind_in x o xs h = (suc h.0, (let lt = h.1 in omega (arith, lt)), h.2)

pub none_in : (o : ℕ) → Contains [] o → ⊥
none_in o h = let lt = h.1 in omega (arith, lt)

pub contains_more : (n : ℕ) (log : List Batch) (b : Batch) (from o : ℕ) → Contains (slots_from n log from) o → Contains (slots_from n (log ++ b ∷ []) from) o
unfolding slots_from
contains_more zero log b from o h = h
contains_more (suc n) log b from o h = by_next (next_slot log from) refl h (λ slot. contains_more n log b (slot + 1) o)
  where
    by_next : (r : Option ℕ) → next_slot log from ≡ r → Contains (and_more r (λ slot. slots_from n log (slot + 1))) o
        → ((slot : ℕ) → Contains (slots_from n log (slot + 1)) o → Contains (slots_from n (log ++ b ∷ []) (slot + 1)) o)
        → Contains (and_more (next_slot (log ++ b ∷ []) from) (λ slot. slots_from n (log ++ b ∷ []) (slot + 1))) o
    by_next None is h ih = absurd (none_in o h)
    by_next (Some slot) is h ih = subst (λ (r : Option ℕ). Contains (and_more r (λ slot. slots_from n (log ++ b ∷ []) (slot + 1))) o) (sym (next_more log b from slot is))
        (⊎_elim (λ e. front_in slot o (slots_from n (log ++ b ∷ []) (slot + 1)) e) (λ c. behind_in slot o (slots_from n (log ++ b ∷ []) (slot + 1)) (ih slot c))
        (front_or slot o (slots_from n log (slot + 1)) h))

pub end_later : (log : List Batch) (b : Batch) → MayFollow log b → end_of log ≤ end_of (log ++ b ∷ [])
end_later log b f =
    let order = (bounds b f.stored).order in
    let behind = f.behind in
    omega (arith, end_more log b, order, behind)

-- states that the partition may have stay so
pub hosted_later : (conf : PartConfParts) (log : Log) (b : Batch) (states : ShareStates) → MayFollow log.batches b → AreHosted conf log states
    → AreHosted conf (with_write log (Adds b)) states
hosted_later conf log b states f h key state is =
    let was = h key state is in
    record {
      key_is = was.key_is;
      epochs = was.epochs;
      start = (was.start.0, was.start.1, was.start.2, (let le = was.start.3 in let later = end_later log.batches b f in omega (arith, le, later)));
      canonical = was.canonical;
      rows = λ offset row at.
          let r = was.rows offset row at in
          record { slot = contains_more 2000 log.batches b (size_of state.start) offset r.slot; delivered = r.delivered; again = r.again };
    }

pending_later : (conf : PartConfParts) (log : Log) (b : Batch) (pending : Option ShareStates) → MayFollow log.batches b → IsPendingHosted conf log pending
    → IsPendingHosted conf (with_write log (Adds b)) pending
pending_later conf log b None f h = tt
pending_later conf log b (Some states) f h = hosted_later conf log b states f h

-- the log is the same, or has one batch more
abbrev pub Grows : List Batch → List Batch → Type 0
Grows log more = (more ≡ log) ⊎ ((b : Batch) × MayFollow log b × (more ≡ log ++ b ∷ []))

grown : (log more : Log) → (more.batches ≡ log.batches) → more.start ≡ log.start → log ≡ more
grown log more is at = λ i. record { batches = sym is i; start = sym at i }

grown_by : (log more : Log) (b : Batch) → more.batches ≡ log.batches ++ b ∷ [] → more.start ≡ log.start → with_write log (Adds b) ≡ more
grown_by log more b is at = λ i. record { batches = sym is i; start = sym at i }

grows_hosted : (conf : PartConfParts) (log more : Log) (states : ShareStates) → Grows log.batches more.batches → more.start ≡ log.start
    → AreHosted conf log states → AreHosted conf more states
grows_hosted conf log more states (inl is) at h = subst (λ (l : Log). AreHosted conf l states) (grown log more is at) h
grows_hosted conf log more states (inr g) at h =
    subst (λ (l : Log). AreHosted conf l states) (grown_by log more g.0 g.2 at) (hosted_later conf log g.0 states g.1 h)

grows_pending : (conf : PartConfParts) (log more : Log) (pending : Option ShareStates) → Grows log.batches more.batches → more.start ≡ log.start
    → IsPendingHosted conf log pending → IsPendingHosted conf more pending
grows_pending conf log more pending (inl is) at h = subst (λ (l : Log). IsPendingHosted conf l pending) (grown log more is at) h
grows_pending conf log more pending (inr g) at h =
    subst (λ (l : Log). IsPendingHosted conf l pending) (grown_by log more g.0 g.2 at) (pending_later conf log g.0 pending g.1 h)

grows_within : (log more : List Batch) (start : ℕ) → Grows log more → start ≤ end_of log → start ≤ end_of more
grows_within log more start (inl is) le = omega (arith, le, ap end_of is)
grows_within log more start (inr g) le = let later = end_later log g.0 g.1 in omega (arith, le, later, ap end_of g.2)

grows_sound : (log more : List Batch) → Grows log more → IsStoredLog log → IsStoredLog more
grows_sound log more (inl is) h = subst IsStoredLog (sym is) h
grows_sound log more (inr g) h = subst IsStoredLog (sym g.2) (sound_more log g.0 h g.1)

step_grows : (rose : Type 0) (end : ℕ) (old new : LogShardState) (bytes : List ℕ) (result : Result ℕ LogFault) → StepsLog rose end old bytes result new → Grows old.batches new.batches
step_grows rose end old new bytes (Ok base) s = inr (at_end old.batches bytes, s.follows, s.batches)
step_grows rose end old new bytes (Err (BadBatch fault)) s = inl (ap (λ (l : LogShardState). l.batches) s.1)
step_grows rose end old new bytes (Err (Store Device)) s = inl s.1.same
step_grows rose end old new bytes (Err (Store (Full at))) s = inl (ap (λ (l : LogShardState). l.batches) s.1)
step_grows rose end old new bytes (Err (Behind at)) s = absurd s
step_grows rose end old new bytes (Err NoMemory) s = absurd s

step_start : (rose : Type 0) (end : ℕ) (old new : LogShardState) (bytes : List ℕ) (result : Result ℕ LogFault) → StepsLog rose end old bytes result new → new.start ≡ old.start
step_start rose end old new bytes (Ok base) s = s.start
step_start rose end old new bytes (Err (BadBatch fault)) s = ap (λ (l : LogShardState). l.start) s.1
step_start rose end old new bytes (Err (Store Device)) s = s.1.start
step_start rose end old new bytes (Err (Store (Full at))) s = ap (λ (l : LogShardState). l.start) s.1
step_start rose end old new bytes (Err (Behind at)) s = absurd s
step_start rose end old new bytes (Err NoMemory) s = absurd s

-- ---- what is told

pub base_again : (start : ℕ) (r : Result ℕ LogFault) → base_in (placed_at start r) ≡ r
base_again start (Ok base) = refl
base_again start (Err fault) = refl

pub told_below : (start : ℕ) (r : Result ℕ LogFault) → IfOk r (λ base. base ≤ 2 ^ 62) → start ≤ 2 ^ 62 → IfOk (placed_at start r) (λ placed. (placed.base ≤ 2 ^ 62) × (placed.start ≤ 2 ^ 62))
told_below start (Ok base) le below = (le, below)
told_below start (Err fault) le below = tt

told_start : (start at : ℕ) (r : Result ℕ LogFault) → start ≡ at → IfOk (placed_at start r) (λ placed. placed.start ≡ at)
told_start start at (Ok base) is = is
told_start start at (Err fault) is = tt

module _ {D W : Type 0} (seen : D → DiskView) (holding : W → Held) (now : ℕ) (bytes : List ℕ) (old : PartParts D W)
    (log : LogParts D) (clock : ℕ) (result : Result ℕ LogFault)
    (once : AddsOnce seen old.log log (at_end old.log.batches bytes) result) where
  abbrev after : PartParts D W
  after = record { conf = old.conf; log = log; states = old.states; windows = old.windows; clock = clock }

  added_grows : (r : Result ℕ LogFault) → AddsOnce seen old.log log (at_end old.log.batches bytes) r → Grows old.log.batches log.batches
  added_grows (Ok base) o = inr (at_end old.log.batches bytes, o.ok.1.follows, o.ok.1.batches)
  added_grows (Err (Store Device)) o = inl (o.device refl).0.batches
  added_grows (Err (BadBatch fault)) o = inl (ap (λ (l : LogParts D). l.batches) (o.unchanged (BadBatch fault) refl (λ e. let clash : ⊥ = cc in clash)))
  added_grows (Err (Behind at)) o = inl (ap (λ (l : LogParts D). l.batches) (o.unchanged (Behind at) refl (λ e. let clash : ⊥ = cc in clash)))
  added_grows (Err (Store (Full at))) o = inl (ap (λ (l : LogParts D). l.batches) (o.unchanged (Store (Full at)) refl (λ e. let clash : ⊥ = cc in clash)))
  added_grows (Err NoMemory) o = inl (ap (λ (l : LogParts D). l.batches) (o.unchanged NoMemory refl (λ e. let clash : ⊥ = cc in clash)))

  added_start : (r : Result ℕ LogFault) → AddsOnce seen old.log log (at_end old.log.batches bytes) r → log.start ≡ old.log.start
  added_start (Ok base) o = o.ok.1.start
  added_start (Err (Store Device)) o = (o.device refl).0.start
  added_start (Err (BadBatch fault)) o = ap (λ (l : LogParts D). l.start) (o.unchanged (BadBatch fault) refl (λ e. let clash : ⊥ = cc in clash))
  added_start (Err (Behind at)) o = ap (λ (l : LogParts D). l.start) (o.unchanged (Behind at) refl (λ e. let clash : ⊥ = cc in clash))
  added_start (Err (Store (Full at))) o = ap (λ (l : LogParts D). l.start) (o.unchanged (Store (Full at)) refl (λ e. let clash : ⊥ = cc in clash))
  added_start (Err NoMemory) o = ap (λ (l : LogParts D). l.start) (o.unchanged NoMemory refl (λ e. let clash : ⊥ = cc in clash))

  pub has_grown : Grows old.log.batches log.batches
  has_grown = added_grows result once

  pub stays_sound : IsStoredLog old.log.batches → IsStoredLog log.batches
  stays_sound h = grows_sound old.log.batches log.batches (added_grows result once) h

  pub stays_hosted : (states : ShareStates) → AreHosted old.conf (log_in old.log) states → AreHosted old.conf (log_in log) states
  stays_hosted states h = grows_hosted old.conf (log_in old.log) (log_in log) states (added_grows result once) (added_start result once) h

  pub stays_within : old.log.start ≤ end_of old.log.batches → log.start ≤ end_of log.batches
  stays_within le =
      let more = grows_within old.log.batches log.batches old.log.start (added_grows result once) le in omega (arith, more, added_start result once)

  abbrev Moments : LogShardState → Type 0
  Moments shard = LeavesOnly seen old.log.journal.disk log.journal.disk
      (λ c. IsLogOf shard c ⊎ IsLogOf (record { batches = shard.batches; start = shard.start; pending = Some (Adds (at_end shard.batches bytes)) }) c)

  found : (its : Log) (pending : Option LogWrite) (c : List ℕ) → IsWithin its pending (Adds (at_end its.batches bytes)) c
      → IsLogOf (record { batches = its.batches; start = its.start; pending = pending }) c
      ⊎ IsLogOf (record { batches = its.batches; start = its.start; pending = Some (Adds (at_end its.batches bytes)) }) c
  found its pending c h = ⊎_elim (λ w. inl w) (λ w. inr (inr w)) h

  moments_at : (pending : Option LogWrite) → Keeps seen old.log pending
      → Moments (record { batches = old.log.batches; start = old.log.start; pending = pending })
  moments_at pending keeps =
      let m = once.any_moment pending keeps in
      record {
        later = m.later;
        each = λ c at. found (log_in old.log) pending c (m.each c at);
        before = λ t c le at. ⊎_elim (λ was. inl was) (λ w. inr (found (log_in old.log) pending c w)) (m.before t c le at);
      }

  moments : (shard : PartShardState) → Carries seen holding old shard → Moments shard.log
  moments shard c =
      let is : record { batches = old.log.batches; start = old.log.start; pending = shard.log.pending } ≡ shard.log =
      λ i. record { batches = sym c.log.batches i; start = sym c.log.start i; pending = shard.log.pending } in
      subst Moments is (moments_at shard.log.pending c.log.keeps)

  -- the journal never ends before where it did
  abbrev Later : Type 0
  Later = old.log.journal.end ≤ log.journal.end

  later_same : log ≡ old.log → Later
  later_same same = let ends : log.journal.end ≡ old.log.journal.end = λ i. (same i).journal.end in omega (arith, ends)

  later_by : (r : Result ℕ LogFault) → AddsOnce seen old.log log (at_end old.log.batches bytes) r → Later
  later_by (Ok base) o = let ends = o.ok.1.end in omega (arith, ends)
  later_by (Err (Store Device)) o = let ends = (o.device refl).0.end in omega (arith, ends)
  later_by (Err (BadBatch fault)) o = later_same (o.unchanged (BadBatch fault) refl (λ e. let clash : ⊥ = cc in clash))
  later_by (Err (Behind at)) o = later_same (o.unchanged (Behind at) refl (λ e. let clash : ⊥ = cc in clash))
  later_by (Err (Store (Full at))) o = later_same (o.unchanged (Store (Full at)) refl (λ e. let clash : ⊥ = cc in clash))
  later_by (Err NoMemory) o = later_same (o.unchanged NoMemory refl (λ e. let clash : ⊥ = cc in clash))

  ends : (shard : PartShardState) → Carries seen holding old shard → Later
  ends shard c = later_by result once

  sound : result ≡ Err (Store Device) → StarvesUnarmed seen old.log.journal.disk log.journal.disk
  sound is = (once.device is).3

  told_err : (start : ℕ) (fault : LogFault) → placed_at start result ≡ Err fault → result ≡ Err fault
  told_err start fault is = sym (base_again start result) ∙ ap base_in is

  -- no device call failed, where no device fault is told
  abbrev Quiet : Type 0
  Quiet = IsQuiet seen old.log.journal.disk log.journal.disk

  quiet_same : log ≡ old.log → Quiet
  quiet_same same = λ told. ap (λ (l : LogParts D). (seen l.journal.disk).faults) same

  quiet : (r : Result ℕ LogFault) → AddsOnce seen old.log log (at_end old.log.batches bytes) r → r ≢ Err (Store Device) → Quiet
  quiet (Ok base) o none = o.quiet
  quiet (Err (Store Device)) o none = absurd (none refl)
  quiet (Err (Store (Full at))) o none = quiet_same (o.unchanged (Store (Full at)) refl (λ e. let clash : ⊥ = cc in clash))
  quiet (Err (BadBatch fault)) o none = quiet_same (o.unchanged (BadBatch fault) refl (λ e. let clash : ⊥ = cc in clash))
  quiet (Err (Behind at)) o none = quiet_same (o.unchanged (Behind at) refl (λ e. let clash : ⊥ = cc in clash))
  quiet (Err NoMemory) o none = quiet_same (o.unchanged NoMemory refl (λ e. let clash : ⊥ = cc in clash))

  -- no memory was found
  pub hungry : result ≡ Err NoMemory → clock ≡ old.clock → ProducesOnce seen holding now bytes old after (Err NoMemory)
  hungry is same = record {
    steps = λ fed. absurd (fed refl);
    memory = λ e.
        let l : log ≡ old.log = once.unchanged NoMemory is (λ f. let clash : ⊥ = cc in clash) in
        λ i. record { conf = old.conf; log = l i; states = old.states; windows = old.windows; clock = same i };
    quiet = λ none. quiet_same (once.unchanged NoMemory is (λ f. let clash : ⊥ = cc in clash));
    sound = λ e. absurd (let clash : ⊥ = cc in clash);
    any_moment = moments;
    refused = λ fault told other. once.unchanged NoMemory is (λ f. let clash : ⊥ = cc in clash);
    ends = ends;
    states = refl;
    conf = refl;
  }

  -- a step was made, and it is told where the log starts
  pub produced : (start : ℕ) → start ≡ log.start → result ≢ Err NoMemory → clock ≡ max old.clock now
      → (result ≢ Err NoMemory → (shard : LogShardState) → CarriesLog seen old.log shard → (next : LogShardState) × CarriesLog seen log next
      × StepsLog (Rose (seen old.log.journal.disk).faults (seen log.journal.disk).faults) old.log.journal.end shard bytes result next)
      → ProducesOnce seen holding now bytes old after (placed_at start result)
  produced start starts_at fed at steps = record {
    steps = λ told shard c.
        let s = steps fed shard.log c.log in
        let grows = step_grows (Rose (seen old.log.journal.disk).faults (seen log.journal.disk).faults) old.log.journal.end shard.log s.0 bytes result s.2 in
        let starts = step_start (Rose (seen old.log.journal.disk).faults (seen log.journal.disk).faults) old.log.journal.end shard.log s.0 bytes result s.2 in (
          record { log = s.0; states = shard.states; pending = shard.pending; held = shard.held; clock = clock },
          record {
            log = s.1;
            pending = c.pending;
            holds = c.holds;
            states = c.states;
            pending_is = c.pending_is;
            held = c.held;
            clock = refl;
            hosted = grows_hosted old.conf (log_at shard.log) (log_at s.0) shard.states grows starts c.hosted;
            pending_hosted = grows_pending old.conf (log_at shard.log) (log_at s.0) shard.pending grows starts c.pending_hosted;
            level = subst (λ (n : ℕ). AreLevel n old.states.entries) (sym starts) c.level;
            pending_level = subst (λ (n : ℕ). IfSome c.pending (AreLevel n)) (sym starts) c.pending_level;
          },
          record {
            clock = at ∙ ap (λ (n : ℕ). max n now) (sym c.clock);
            log = subst (λ (r : Result ℕ LogFault). StepsLog (Rose (seen old.log.journal.disk).faults (seen log.journal.disk).faults) old.log.journal.end shard.log bytes r s.0) (sym (base_again start result)) s.2;
            start = told_start start shard.log.start result (starts_at ∙ (added_start result once ∙ sym c.log.start));
            still = record { states = refl; pending = refl; held = refl };
          },
        );
    memory = λ is. absurd (fed (told_err start NoMemory is));
    quiet = λ none. quiet result once (λ is. none (ap (placed_at start) is));
    sound = λ is. sound (told_err start (Store Device) is);
    any_moment = moments;
    refused = λ fault told other. once.unchanged fault (told_err start fault told) other;
    ends = ends;
    states = refl;
    conf = refl;
  }
